-- An hour in lists of numbers, as the C server hands it over to be written and gets it back when a file is read (document 02, tickets 1 and 2). A list crosses as eight bytes a
-- number (document 01, "The exercise file", last paragraph). Assumes nothing.
use Rattle.std.specs.Prelude.{◌≡◌, List, [], ◌∷◌, ◌++◌, ℕ, ◌+◌, ◌*◌, leb, eqb, ℤ, pos, length, drop}
use Rattle.ints.specs.Number.{between}
use Rattle.ints.specs.Refusal.{pick, unless, lent}
use Rattle.ints.specs.Table.{tab}
use Rattle.ints.specs.Turn.{◌then◌}
use Rattle.ints.specs.Twos.{bits_of}
use Rattle.numbers.specs.Bytes.{number_at, encoded}
use Rattle.hour.specs.Hour.{Hour, all_prices}
use Rattle.hour.specs.Order.{Spare, content_refusal}
use Rattle.hour.specs.declared.Edition.{Edition}
use Rattle.hour.specs.declared.Row.{Row}
use Rattle.hour.specs.declared.Transaction.{Transaction}
use Rattle.exercise.specs.Decoding.{count_of}
use Rattle.exercise.specs.File.{header, edition_in, hour_of}
use Rattle.exercise.specs.Layout.{header_size, edition_of}
use Rattle.exercise.specs.Order.{frame_refusal, spare_of, file_refusal, in_bytes}
use Rattle.exercise.specs.Written.{file_of}
use Rattle.exercise.specs.declared.Counts.{Counts}
use Rattle.exercise.specs.declared.Header.{Header}
use Rattle.exercise.specs.declared.HourLists.{HourLists}

-- ---- handed over, to be written

-- "header numbers, prices, rows and transactions in lent lists"
pub record Content : Type 0 where
  pub participants : ℤ
  pub locations : ℤ
  pub rows : ℤ
  pub transactions : ℤ
  pub edition : ℤ
  pub prices : List ℕ
  pub row_list : List ℕ
  pub transaction_list : List ℕ

abbrev pub content : ℤ → ℤ → ℤ → ℤ → ℤ → List ℕ → List ℕ → List ℕ → Content
content participants locations rows transactions edition prices row_list transaction_list =
    record { participants = participants; locations = locations; rows = rows; transactions = transactions; edition = edition; prices = prices; row_list = row_list; transaction_list = transaction_list }

-- the same of counts and lists, and of counts that pass
abbrev pub handed_over : Counts → HourLists → Content
handed_over counts lists =
    content counts.participants counts.locations counts.rows counts.transactions counts.edition lists.prices.now lists.rows.now lists.transactions.now

abbrev pub counted : Header → HourLists → Content
counted h lists = content (pos h.participants) (pos h.locations) (pos h.rows) (pos h.transactions) (pos h.edition) lists.prices.now lists.rows.now lists.transactions.now

-- the n prices of a list from number j on, as `prices_from` of File.antt has those of a file
abbrev pub prices_given : List ℕ → ℕ → ℕ → List ℤ
prices_given list j n = tab (λ i. number_at list (j + i)) n

-- number k of a list, where no number below 0 is taken: such a one is read as its 64 bits, and so is beyond every range, and is refused as one that is too large. (A
-- definition's row holds any natural number; that of the code has room for those that pass.)
abbrev pub given_at : List ℕ → ℕ → ℕ
given_at list k = bits_of 64 (number_at list k)

-- row i of a list, six numbers each: market, kind, interval, participant, location, kW
abbrev pub row_given : List ℕ → ℕ → Row
row_given list i =
    record {
      market = given_at list (6 * i);
      kind = given_at list (6 * i + 1);
      interval = given_at list (6 * i + 2);
      participant = given_at list (6 * i + 3);
      location = given_at list (6 * i + 4);
      kw = record { 0 = given_at list (6 * i + 5) };
    }

-- how many numbers a transaction of an edition has
abbrev pub transaction_length : Edition → ℕ
transaction_length Edition.PathOnly = 6
transaction_length Edition.WithSeller = 7

-- transaction i, six numbers each: market, interval, participant, source, sink, kW; with a seller seven, "the seller after the participant"
abbrev pub transaction_given : Edition → List ℕ → ℕ → Transaction
transaction_given Edition.PathOnly list i =
    record {
      market = given_at list (6 * i);
      interval = given_at list (6 * i + 1);
      participant = given_at list (6 * i + 2);
      seller = 0;
      source = given_at list (6 * i + 3);
      sink = given_at list (6 * i + 4);
      kw = record { 0 = given_at list (6 * i + 5) };
    }
transaction_given Edition.WithSeller list i =
    record {
      market = given_at list (7 * i);
      interval = given_at list (7 * i + 1);
      participant = given_at list (7 * i + 2);
      seller = given_at list (7 * i + 3);
      source = given_at list (7 * i + 4);
      sink = given_at list (7 * i + 5);
      kw = record { 0 = given_at list (7 * i + 6) };
    }

-- the edition that is handed over
abbrev pub edition_given : Content → Edition
edition_given c = edition_of (count_of c.edition)

-- the hour that is handed over
abbrev pub hour_given : Content → Hour
hour_given c =
    let n = count_of c.locations in
    record {
      participants = count_of c.participants;
      locations = n;
      congestion_ahead = prices_given c.prices 0 n;
      congestion_real = prices_given c.prices n (12 * n);
      loss_ahead = prices_given c.prices (13 * n) n;
      loss_real = prices_given c.prices (14 * n) (12 * n);
      rows = tab (row_given c.row_list) (count_of c.rows);
      edition = edition_given c;
      transactions = tab (transaction_given (edition_given c) c.transaction_list) (count_of c.transactions);
    }

-- ---- "Refusals: 1 to 4 as the reader orders them, a list that differs in length from its count with the counts; last, 1 where the buffer is shorter than the file."

-- "9 for any other edition" (ticket 2), in the place that it has in a file; "1 counts"
unfoldable pub counts_refusal : ℤ → ℤ → ℤ → ℤ → ℤ → ℕ
counts_refusal participants locations rows transactions edition =
    unless (between (pos 0) (pos 1) edition) 9
    (unless (between (pos 1) (pos 64) participants) 1
    (unless (between (pos 1) (pos 64) locations) 1
    (unless (between (pos 0) (pos 2048) rows) 1
    (unless (between (pos 0) (pos 256) transactions) 1
    0))))

-- the lengths of the three lists in bytes, for so many locations, rows and transactions: 26 numbers a location, six a row, six or seven a transaction
unfoldable pub lists_refusal : ℕ → ℕ → ℕ → Edition → ℕ → ℕ → ℕ → ℕ
lists_refusal locations rows transactions edition prices row_list transaction_list =
    unless (eqb prices (in_bytes (26 * locations))) 1
    (unless (eqb row_list (in_bytes (6 * rows))) 1
    (unless (eqb transaction_list (in_bytes (transaction_length edition * transactions))) 1
    0))

-- an hour that no file holds yet has no spare bits
abbrev pub no_spare : Spare
no_spare = record { row = λ _. 0; transaction = λ _. 0 }

-- the counts and lists; the reader's order from the prices "up to the last transaction"; and `room` is the length of the buffer
unfoldable pub write_refusal : Content → ℕ → ℕ
write_refusal c room =
    counts_refusal c.participants c.locations c.rows c.transactions c.edition
    then lists_refusal (count_of c.locations) (count_of c.rows) (count_of c.transactions) (edition_given c) (length c.prices) (length c.row_list) (length c.transaction_list)
    then content_refusal (hour_given c) no_spare
    then unless (leb (length (file_of (hour_given c))) room) 1 0

-- the buffer then: "Bytes beyond the file stay."
abbrev pub write_outcome : Content → List ℕ → List ℕ
write_outcome c buffer = lent (write_refusal c (length buffer)) (file_of (hour_given c) ++ drop (length (file_of (hour_given c))) buffer) buffer

-- ---- read from a file

-- document 01's order for an hour to the last transaction, with 1 for the three lists in the place of the output lists (docs/DECISIONS.md)
unfoldable pub read_refusal : List ℕ → ℕ → ℕ → ℕ → ℕ
read_refusal file prices row_list transaction_list =
    frame_refusal file
    then lists_refusal (header file).locations (header file).rows (header file).transactions (edition_in file) prices row_list transaction_list
    then content_refusal (hour_of file) (spare_of file)

abbrev pub row_numbers : Row → List ℤ
row_numbers row = pos row.market ∷ pos row.kind ∷ pos row.interval ∷ pos row.participant ∷ pos row.location ∷ pos row.kw.0 ∷ []

abbrev pub transaction_numbers : Edition → Transaction → List ℤ
transaction_numbers Edition.PathOnly t = pos t.market ∷ pos t.interval ∷ pos t.participant ∷ pos t.source ∷ pos t.sink ∷ pos t.kw.0 ∷ []
transaction_numbers Edition.WithSeller t = pos t.market ∷ pos t.interval ∷ pos t.participant ∷ pos t.seller ∷ pos t.source ∷ pos t.sink ∷ pos t.kw.0 ∷ []

-- the numbers of one thing after the other
unfoldable pub in_turns : {A : Type 0} → (A → List ℤ) → List A → List ℤ
in_turns f [] = []
in_turns f (x ∷ xs) = f x ++ in_turns f xs

-- the three lists of an hour
abbrev pub prices_listed : Hour → List ℕ
prices_listed hour = encoded (all_prices hour)

abbrev pub rows_listed : Hour → List ℕ
rows_listed hour = encoded (in_turns row_numbers hour.rows)

abbrev pub transactions_listed : Hour → List ℕ
transactions_listed hour = encoded (in_turns (transaction_numbers hour.edition) hour.transactions)

-- the counts of a header and its edition, and a slice that is lent for them: the order for an hour to the file's length, then 1 in the place of the output lists
abbrev pub count_numbers : Header → List ℤ
count_numbers h = pos h.participants ∷ pos h.locations ∷ pos h.rows ∷ pos h.transactions ∷ pos h.edition ∷ []

unfoldable pub file_counts_refusal : List ℕ → ℕ → ℕ
file_counts_refusal file bytes = frame_refusal file then unless (eqb bytes (in_bytes 5)) 1 0

abbrev pub file_counts_outcome : List ℕ → List ℕ → List ℕ
file_counts_outcome file old = lent (file_counts_refusal file (length old)) (encoded (count_numbers (header file))) old

-- how many participants a file's header tells of, 1 to 64; 0 for a file that is too short for a header
abbrev pub participants_of : List ℕ → ℕ
participants_of file = pick (leb header_size (length file)) (header file).participants 0

-- what is handed over to write a file again: the counts of its header, its edition, and the three lists that it is read as
abbrev pub content_of : List ℕ → Content
content_of file =
    content (pos (header file).participants) (pos (header file).locations) (pos (header file).rows) (pos (header file).transactions) (pos (header file).edition)
    (prices_listed (hour_of file)) (rows_listed (hour_of file)) (transactions_listed (hour_of file))

-- ---- "It accepts exactly the content the reader would accept up to the last transaction."

-- an accepted file that holds content: the counts of its header and its edition, lists as long as these say, and the hour
pub record Holds (file : List ℕ) (c : Content) : Type 0 where
  pub accepted : file_refusal file ≡ 0
  pub participants : c.participants ≡ pos (header file).participants
  pub locations : c.locations ≡ pos (header file).locations
  pub rows : c.rows ≡ pos (header file).rows
  pub transactions : c.transactions ≡ pos (header file).transactions
  pub edition : c.edition ≡ pos (header file).edition
  pub lists : lists_refusal (header file).locations (header file).rows (header file).transactions (edition_in file) (length c.prices) (length c.row_list) (length c.transaction_list) ≡ 0
  pub hour : hour_of file ≡ hour_given c
