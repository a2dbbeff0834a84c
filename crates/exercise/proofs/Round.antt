-- The writer beside the reader (document 02, ticket 1): "Reading a written file gives back the hour, and writing what was read from an accepted file gives its bytes. It
-- accepts exactly the content the reader would accept up to the last transaction." Assumes nothing.
use mathlib.Core.Path.{◌≡◌, refl, sym, ap, ap₂, ◌∙◌, subst}
use mathlib.Core.Bool.{Bool}
use mathlib.Core.List.{List, [], ◌∷◌, map, ◌++◌}
use Prim.Native.Nat.{ℕ, ◌+◌, ◌*◌, ◌/◌, ◌^◌, ◌≤◌, ◌<◌}
use native.Mathlib.Omega.{arith}
use lib.Dec.{leb}
use lib.IntN.{ℤ, pos, negsuc, nat_abs}
use lib.ListN.{length, drop}
use mir.Syntax.{w64}
use mir.Val.{SFits}
use borrow.Author.Tests.{le-leb}
use Rattle.ints.specs.Each.{Every}
use Rattle.ints.specs.Number.{between}
use Rattle.ints.specs.Refusal.{unless}
use Rattle.ints.specs.Table.{◌at◌, tab}
use Rattle.ints.specs.Turn.{◌then◌}
use Rattle.ints.specs.Twos.{bits_of, InBits}
use Rattle.ints.proofs.Gather.{every_map, every-at, tab-every}
use Rattle.ints.proofs.Refusals.{lent-result}
use Rattle.ints.proofs.Sizes.{fits64}
use Rattle.ints.proofs.Tables.{length-tab, tab-ext}
use Rattle.ints.proofs.Tests.{count-taken, count-from-0}
use Rattle.ints.proofs.Turns.{then-later, then-nothing}
use Rattle.numbers.specs.Bytes.{Bytes, number_at, numbers, encoded}
use Rattle.numbers.proofs.Laws.{length-encoded, encoded-at, encoded-numbers, at-natural, numbers-encoded}
use Rattle.hour.specs.Hour.{Hour, all_prices}
use Rattle.hour.specs.Order.{content_refusal}
use Rattle.hour.specs.declared.Edition.{Edition}
use Rattle.hour.specs.declared.Row.{Row}
use Rattle.hour.specs.declared.Transaction.{Transaction}
use Rattle.exercise.specs.Decoding.{count_of}
use Rattle.exercise.specs.File.{header, row_at, row_bytes, transaction_at, transaction_bytes, edition_in, hour_of}
use Rattle.exercise.specs.Layout.{price_width, transaction_size, edition_number, edition_of}
use Rattle.exercise.specs.Lists.{Content, content, given_at, row_given, transaction_length, transaction_given, edition_given, hour_given, counts_refusal, lists_refusal, no_spare, write_refusal, write_outcome, read_refusal, row_numbers, transaction_numbers, in_turns, prices_listed, rows_listed, transactions_listed, content_of, Holds}
use Rattle.exercise.specs.Order.{file_refusal}
use Rattle.exercise.specs.Written.{row_fields, transaction_fields, file_of, Fit, FitsFields}
use Rattle.exercise.specs.declared.Header.{Header}
use Rattle.exercise.proofs.Accepted.{accepted}
use Rattle.exercise.proofs.Again.{read_fits, written-again}
use Rattle.exercise.proofs.Content.{Priced, four-lists, four-read, priced-length}
use Rattle.exercise.proofs.Exact.{passes-fits, file-accepted}
use Rattle.exercise.proofs.Lists.{Right, content-same, lists-taken, hour-counts, write-passes, read-checked}
use Rattle.exercise.proofs.Packing.{counted, row_same, transaction-same}
use Rattle.exercise.proofs.Runs.{in-turn}
use Rattle.exercise.proofs.Turns.{turns-tab, turns-length, turns_at, turns-every}
use Rattle.exercise.proofs.Whole.{laid, number_of}
use Rattle.exercise.proofs.Written.{hour-same, written-header, written-hour, written-refusal}

-- ---- numbers of rows and transactions

-- numbers of a list at these places, each below 2 ^ 63 as its bits, are naturals
naturals : (s : List ℕ) → Bytes s → (ks : List ℕ) → Every (λ k. (8 * k + 8 ≤ length s) × (given_at s k < 2 ^ 63)) ks → map (λ k. pos (given_at s k)) ks ≡ map (number_at s) ks
naturals s b [] e = refl
naturals s b (k ∷ ks) e = ap₂ ◌∷◌ (at-natural s b k e.0.0 e.0.1) (naturals s b ks e.1)

-- six places, and seven, one after the other
abbrev six_from : ℕ → List ℕ
six_from k = k ∷ (k + 1) ∷ (k + 2) ∷ (k + 3) ∷ (k + 4) ∷ (k + 5) ∷ []

abbrev seven_from : ℕ → List ℕ
seven_from k = k ∷ (k + 1) ∷ (k + 2) ∷ (k + 3) ∷ (k + 4) ∷ (k + 5) ∷ (k + 6) ∷ []

six : (h : ℕ → ℤ) (k : ℕ) → map h (six_from k) ≡ tab (λ j. h (k + j)) 6
unfolding tab
six h k = let z : k ≡ k + 0 = omega arith in ap (λ (k' : ℕ). h k' ∷ map h ((k + 1) ∷ (k + 2) ∷ (k + 3) ∷ (k + 4) ∷ (k + 5) ∷ [])) z

seven : (h : ℕ → ℤ) (k : ℕ) → map h (seven_from k) ≡ tab (λ j. h (k + j)) 7
unfolding tab
seven h k = let z : k ≡ k + 0 = omega arith in ap (λ (k' : ℕ). h k' ∷ map h ((k + 1) ∷ (k + 2) ∷ (k + 3) ∷ (k + 4) ∷ (k + 5) ∷ (k + 6) ∷ [])) z

row-naturals : (s : List ℕ) → Bytes s → (i : ℕ) → 8 * (6 * i) + 48 ≤ length s → Fit (row_fields (row_given s i)) → row_numbers (row_given s i) ≡ tab (λ j. number_at s (6 * i + j)) 6
row-naturals s b i h f =
    naturals s b (six_from (6 * i))
    ((omega arith, omega (arith, f.0)), ((omega arith, omega (arith, f.1.0)), ((omega arith, omega (arith, f.1.1.0)), ((omega arith, omega (arith, f.1.1.1.0)), ((omega arith, omega (arith, f.1.1.1.1.0)), ((omega arith, omega (arith, f.1.1.1.1.1.0)), tt))))))
    ∙ six (number_at s) (6 * i)

transaction-naturals : (edition : Edition) (s : List ℕ) → Bytes s → (i : ℕ) → 8 * (transaction_length edition * i + transaction_length edition) ≤ length s → Fit (transaction_fields edition (transaction_given edition s i))
    → transaction_numbers edition (transaction_given edition s i) ≡ tab (λ j. number_at s (transaction_length edition * i + j)) (transaction_length edition)
transaction-naturals Edition.PathOnly s b i h f =
    naturals s b (six_from (6 * i))
    ((omega arith, omega (arith, f.0)), ((omega arith, omega (arith, f.1.0)), ((omega arith, omega (arith, f.1.1.0)), ((omega arith, omega (arith, f.1.1.1.1.0)), ((omega arith, omega (arith, f.1.1.1.1.1.0)), ((omega arith, omega (arith, f.1.1.1.1.1.1.0)), tt))))))
    ∙ six (number_at s) (6 * i)
transaction-naturals Edition.WithSeller s b i h f =
    naturals s b (seven_from (7 * i))
    ((omega arith, omega (arith, f.0)), ((omega arith, omega (arith, f.1.0)), ((omega arith, omega (arith, f.1.1.0)), ((omega arith, omega (arith, f.1.1.1.0)), ((omega arith, omega (arith, f.1.1.1.1.0)), ((omega arith, omega (arith, f.1.1.1.1.1.0)), ((omega arith, omega (arith, f.1.1.1.1.1.1.0)), tt)))))))
    ∙ seven (number_at s) (7 * i)

-- a list whose numbers are those of one thing after the other, `size` each, is the list of these things
listed_back : {A : Type 0} (f : A → List ℤ) (size : ℕ) (g : ℕ → A) (s : List ℕ) (n : ℕ) → length s ≡ 8 * (size * n) → Bytes s → ((i : ℕ) → i < n → f (g i) ≡ tab (λ j. number_at s (size * i + j)) size) → encoded (in_turns f (tab g n)) ≡ s
listed_back f size g s n long b own =
    let m : size * n ≡ length s / 8 = omega (arith, long) in
    ap encoded (turns-tab f size g (number_at s) n own ∙ ap (tab (number_at s)) m) ∙ encoded-numbers s (omega (arith, long)) b

-- ---- what is written

module _ (c : Content) (room : ℕ) (e : write_refusal c room ≡ 0) where
  abbrev hour : Hour
  hour = hour_given c

  abbrev file : List ℕ
  file = file_of hour

  r : Right c
  r = (write-passes c room e).0

  fits : FitsFields hour
  fits = passes-fits hour (hour-counts c r) (write-passes c room e).1

  -- what is written passes the check
  pub written-accepted : file_refusal file ≡ 0
  written-accepted = file-accepted hour (hour-counts c r) (write-passes c room e).1

  -- "Reading a written file gives back the hour"
  pub written_read : hour_of file ≡ hour
  written_read = written-hour hour fits

  -- .. number by number, the lists as they were handed over
  pub prices-back : Bytes c.prices → prices_listed (hour_of file) ≡ c.prices
  prices-back b =
      let n : 26 * count_of c.locations ≡ length c.prices / 8 = omega (arith, r.prices-long) in
      ap prices_listed written_read
      ∙ ap encoded (sym (four-lists (number_at c.prices) (count_of c.locations)) ∙ ap (tab (number_at c.prices)) n)
      ∙ encoded-numbers c.prices (omega (arith, r.prices-long)) b

  pub rows_back : Bytes c.row_list → rows_listed (hour_of file) ≡ c.row_list
  rows_back b = ap rows_listed written_read ∙ listed_back row_numbers 6 (row_given c.row_list) c.row_list (count_of c.rows) r.rows_long b own
    where
      own : (i : ℕ) → i < count_of c.rows → row_numbers (row_given c.row_list i) ≡ tab (λ j. number_at c.row_list (6 * i + j)) 6
      own i l =
          let f : Fit (row_fields (row_given c.row_list i)) = tab-every (λ row. Fit (row_fields row)) (row_given c.row_list) (count_of c.rows) fits.rows i l in
          row-naturals c.row_list b i (omega (arith, r.rows_long)) f

  abbrev edition : Edition
  edition = edition_given c

  abbrev size : ℕ
  size = transaction_length edition

  pub transactions-back : Bytes c.transaction_list → transactions_listed (hour_of file) ≡ c.transaction_list
  transactions-back b = ap transactions_listed written_read ∙ listed_back (transaction_numbers edition) size (transaction_given edition c.transaction_list) c.transaction_list (count_of c.transactions) r.transactions-long b own
    where
      own : (i : ℕ) → i < count_of c.transactions → transaction_numbers edition (transaction_given edition c.transaction_list i) ≡ tab (λ j. number_at c.transaction_list (size * i + j)) size
      own i l =
          let f : Fit (transaction_fields edition (transaction_given edition c.transaction_list i)) = tab-every (λ t. Fit (transaction_fields edition t)) (transaction_given edition c.transaction_list) (count_of c.transactions) fits.transactions i l in
          transaction-naturals edition c.transaction_list b i (omega (arith, r.transactions-long, in-turn size i (count_of c.transactions) l)) f

  h : header file ≡ counted (count_of c.participants) (count_of c.locations) (length hour.rows) (length hour.transactions) (edition_number edition)
  h = written-header hour fits

  n-given : (header file).rows ≡ count_of c.rows
  n-given = ap (λ (k : Header). k.rows) h ∙ length-tab (row_given c.row_list) (count_of c.rows)

  m-given : (header file).transactions ≡ count_of c.transactions
  m-given = ap (λ (k : Header). k.transactions) h ∙ length-tab (transaction_given edition c.transaction_list) (count_of c.transactions)

  e-given : (header file).edition ≡ count_of c.edition
  e-given = ap (λ (k : Header). k.edition) h ∙ number_of (count_of c.edition) r.edition.few

  -- it holds what was handed over, its counts and its lists, too
  pub written-holds : Holds file c
  written-holds =
      let l : (header file).locations ≡ count_of c.locations = ap (λ (k : Header). k.locations) h in
      record {
        accepted = written-accepted;
        participants = r.participants.is ∙ ap (λ (k : Header). pos k.participants) (sym h);
        locations = r.locations.is ∙ ap pos (sym l);
        rows = r.rows.is ∙ ap pos (sym n-given);
        transactions = r.transactions.is ∙ ap pos (sym m-given);
        edition = r.edition.is ∙ ap pos (sym e-given);
        lists = lists-taken _ _ _ _ _ _ _ (omega (arith, r.prices-long, l)) (omega (arith, r.rows_long, n-given))
            (r.transactions-long ∙ ap₂ (λ (edition : Edition) (m : ℕ). 8 * (transaction_length edition * m)) (ap edition_of (sym e-given)) (sym m-given));
        hour = written_read;
      }

  -- and reading it with lists of these lengths isn't refused
  pub read_taken : read_refusal file (length c.prices) (length c.row_list) (length c.transaction_list) ≡ 0
  read_taken = read-checked file _ _ _ written-holds.lists ∙ written-accepted

-- ---- content of so many participants, locations, rows and transactions, with lists as long as these say

module _ (p l n m d : ℕ) (prices row_list transaction_list : List ℕ) (known : d ≤ 1) (lists : lists_refusal l n m (edition_of d) (length prices) (length row_list) (length transaction_list) ≡ 0) where
  abbrev c : Content
  c = content (pos p) (pos l) (pos n) (pos m) (pos d) prices row_list transaction_list

  -- content that fits its fields is refused with the same number as the file that would be written, where the buffer has room for it
  pub same_number : FitsFields (hour_given c) → (room : ℕ) → length (file_of (hour_given c)) ≤ room → write_refusal c room ≡ file_refusal (file_of (hour_given c))
  unfolding write_refusal counts_refusal
  same_number f room h =
      let hour = hour_given c in
      let k = f.header in
      let p-taken = count-taken 1 64 p f.some-participants (omega (arith, k.0)) in
      let l-taken = count-taken 1 64 l f.some-locations (omega (arith, k.1.0)) in
      let rows_are : length hour.rows ≡ n = length-tab (row_given row_list) n in
      let transactions-are : length hour.transactions ≡ m = length-tab (transaction_given (edition_of d) transaction_list) m in
      let d-taken = count-taken 0 1 d (omega arith) known in
      let rest : (lists_refusal l n m (edition_of d) (length prices) (length row_list) (length transaction_list) then content_refusal hour no_spare then unless (leb (length (file_of hour)) room) 1 0) ≡ content_refusal hour no_spare =
      then-later _ _ lists ∙ ap (λ (b : Bool). content_refusal hour no_spare then unless b 1 0) (le-leb _ _ h) ∙ then-nothing (content_refusal hour no_spare) in
      ap (λ (r : ℕ). counts_refusal (pos p) (pos l) (pos n) (pos m) (pos d) then r) rest
      ∙ ap (λ (b : Bool). unless b 9 (unless (between (pos 1) (pos 64) (pos p)) 1 (unless (between (pos 1) (pos 64) (pos l)) 1 (unless (between (pos 0) (pos 2048) (pos n)) 1 (unless (between (pos 0) (pos 256) (pos m)) 1 0)))) then content_refusal hour no_spare) d-taken
      ∙ ap₂ (λ (a b : Bool). unless a 1 (unless b 1 (unless (between (pos 0) (pos 2048) (pos n)) 1 (unless (between (pos 0) (pos 256) (pos m)) 1 0))) then content_refusal hour no_spare) p-taken l-taken
      ∙ ap₂ (λ (a b : Bool). unless a 1 (unless b 1 0) then content_refusal hour no_spare) (count-from-0 2048 n) (count-from-0 256 m)
      ∙ ap₂ (λ (x y : ℕ). unless (leb x 2048) 1 (unless (leb y 256) 1 0) then content_refusal hour no_spare) (sym rows_are) (sym transactions-are)
      ∙ sym (written-refusal hour f)

-- ---- "It accepts exactly the content the reader would accept up to the last transaction": what it accepts, its file holds (`written-holds`), and what some accepted file
-- holds, it accepts, where the buffer has room. That file is the one that is written

pub holds-one : (file : List ℕ) (c : Content) → Bytes file → Holds file c → file ≡ file_of (hour_given c)
holds-one file c b k = sym (written-again file b k.accepted) ∙ ap file_of k.hour

pub holds-taken : (file : List ℕ) (c : Content) → Bytes file → Holds file c → (room : ℕ) → length file ≤ room → write_refusal c room ≡ 0
holds-taken file c b k room h =
    let same : c ≡ content (pos (header file).participants) (pos (header file).locations) (pos (header file).rows) (pos (header file).transactions) (pos (header file).edition) c.prices c.row_list c.transaction_list =
    content-same k.participants k.locations k.rows k.transactions k.edition in
    let one : file ≡ file_of (hour_given c) = holds-one file c b k in
    let fits : FitsFields (hour_given c) = subst FitsFields k.hour (read_fits file b (accepted file k.accepted).0) in
    ap (λ (d : Content). write_refusal d room) same
    ∙ same_number (header file).participants (header file).locations (header file).rows (header file).transactions (header file).edition c.prices c.row_list c.transaction_list (accepted file k.accepted).0.edition k.lists
    (subst (λ (d : Content). FitsFields (hour_given d)) same fits) room (subst (λ (d : Content). length (file_of (hour_given d)) ≤ room) same (subst (λ (s : List ℕ). length s ≤ room) one h))
    ∙ ap (λ (d : Content). file_refusal (file_of (hour_given d))) (sym same) ∙ ap file_refusal (sym one) ∙ k.accepted

-- an hour has one file
pub one-file : (file other : List ℕ) → Bytes file → Bytes other → file_refusal file ≡ 0 → file_refusal other ≡ 0 → hour_of file ≡ hour_of other → file ≡ other
one-file file other b d e f same = sym (written-again file b e) ∙ ap file_of same ∙ written-again other d f

-- and it is as long as its header says
pub accepted-length : (file : List ℕ) → file_refusal file ≡ 0 → length file ≡ 5 + 78 * (header file).locations + 6 * (header file).rows + transaction_size (edition_in file) * (header file).transactions
accepted-length file e = let l = laid (header file) in omega (arith, (accepted file e).0.ended)

-- ---- what was read

-- a transaction's numbers
transaction-length : (edition : Edition) (t : Transaction) → length (transaction_numbers edition t) ≡ transaction_length edition
transaction-length Edition.PathOnly t = refl
transaction-length Edition.WithSeller t = refl

-- .. as they stand in a list, are the transaction
given-again : (edition : Edition) (list s : List ℕ) (i : ℕ)
    → ((j : ℕ) → j < transaction_length edition → given_at list (transaction_length edition * i + j) ≡ bits_of 64 (transaction_numbers edition (transaction_at edition s i) at j))
    → transaction_given edition list i ≡ transaction_at edition s i
given-again Edition.PathOnly list s i number =
    let z : 6 * i ≡ 6 * i + 0 = omega arith in
    transaction-same (ap (given_at list) z ∙ number 0 (omega arith)) (number 1 (omega arith)) (number 2 (omega arith)) (omega arith) (number 3 (omega arith)) (number 4 (omega arith)) (number 5 (omega arith))
given-again Edition.WithSeller list s i number =
    let z : 7 * i ≡ 7 * i + 0 = omega arith in
    transaction-same (ap (given_at list) z ∙ number 0 (omega arith)) (number 1 (omega arith)) (number 2 (omega arith)) (number 3 (omega arith)) (number 4 (omega arith)) (number 5 (omega arith)) (number 6 (omega arith))

-- numbers small enough for 64 bits
abbrev Small : ℤ → Type 0
Small z = nat_abs z < 2 ^ 63

small-fits : (xs : List ℤ) → Every Small xs → (i : ℕ) → SFits w64 (xs at i)
small-fits xs e i = fits64 (xs at i) (every-at Small (pos 0) (omega arith) xs e i)

module _ (file : List ℕ) (b : Bytes file) (e : file_refusal file ≡ 0) where
  abbrev was : Hour
  was = hour_of file

  f : FitsFields was
  f = read_fits file b (accepted file e).0

  prices-small : Every Small (all_prices was)
  prices-small = every_map small (all_prices was) f.prices
    where
      small : (z : ℤ) → InBits price_width z → Small z
      small (pos n) h = omega arith
      small (negsuc n) h = omega arith

  rows-small : Every Small (in_turns row_numbers was.rows)
  rows-small = turns-every row_numbers Small was.rows (every_map small was.rows f.rows)
    where
      small : (row : Row) → Fit (row_fields row) → Every Small (row_numbers row)
      small row f = (omega (arith, f.0), (omega (arith, f.1.0), (omega (arith, f.1.1.0), (omega (arith, f.1.1.1.0), (omega (arith, f.1.1.1.1.0), (omega (arith, f.1.1.1.1.1.0), tt))))))

  abbrev own : Edition
  own = edition_in file

  abbrev each : ℕ
  each = transaction_length own

  transactions-small : Every Small (in_turns (transaction_numbers own) was.transactions)
  transactions-small = turns-every (transaction_numbers own) Small was.transactions (every_map (small own) was.transactions f.transactions)
    where
      small : (edition : Edition) (t : Transaction) → Fit (transaction_fields edition t) → Every Small (transaction_numbers edition t)
      small Edition.PathOnly t f = (omega (arith, f.0), (omega (arith, f.1.0), (omega (arith, f.1.1.0), (omega (arith, f.1.1.1.1.0), (omega (arith, f.1.1.1.1.1.0), (omega (arith, f.1.1.1.1.1.1.0), tt))))))
      small Edition.WithSeller t f = (omega (arith, f.0), (omega (arith, f.1.0), (omega (arith, f.1.1.0), (omega (arith, f.1.1.1.0), (omega (arith, f.1.1.1.1.0), (omega (arith, f.1.1.1.1.1.0), (omega (arith, f.1.1.1.1.1.1.0), tt)))))))

  n-rows : length was.rows ≡ (header file).rows
  n-rows = length-tab (row_at (row_bytes file)) (header file).rows

  n-transactions : length was.transactions ≡ (header file).transactions
  n-transactions = length-tab (transaction_at own (transaction_bytes file)) (header file).transactions

  priced : Priced was.locations was.congestion_ahead was.congestion_real was.loss_ahead was.loss_real
  priced = record { congestion-ahead = f.congestion-ahead; congestion-real = f.congestion-real; loss-ahead = f.loss-ahead; loss-real = f.loss-real }

  all_read : tab (number_at (prices_listed was)) (26 * was.locations) ≡ all_prices was
  all_read =
      let n : 26 * was.locations ≡ length (prices_listed was) / 8 = omega (arith, length-encoded (all_prices was), priced-length priced) in
      ap (tab (number_at (prices_listed was))) n ∙ numbers-encoded (all_prices was) (small-fits (all_prices was) prices-small)

  -- no number of a list wrapped
  pub listed-numbers : (numbers (prices_listed was) ≡ all_prices was) × (numbers (rows_listed was) ≡ in_turns row_numbers was.rows) × (numbers (transactions_listed was) ≡ in_turns (transaction_numbers own) was.transactions)
  listed-numbers = (
    numbers-encoded (all_prices was) (small-fits (all_prices was) prices-small),
    numbers-encoded (in_turns row_numbers was.rows) (small-fits (in_turns row_numbers was.rows) rows-small),
    numbers-encoded (in_turns (transaction_numbers own) was.transactions) (small-fits (in_turns (transaction_numbers own) was.transactions) transactions-small),
  )

  -- number j of row i of the list, and of transaction i
  row_number : (i j : ℕ) → i < (header file).rows → j < 6 → given_at (rows_listed was) (6 * i + j) ≡ bits_of 64 (row_numbers (row_at (row_bytes file) i) at j)
  row_number i j l m =
      ap (bits_of 64)
      (encoded-at (in_turns row_numbers was.rows) (small-fits (in_turns row_numbers was.rows) rows-small) (6 * i + j) (omega (arith, turns-length row_numbers 6 (λ x. refl) was.rows, n-rows))
      ∙ turns_at row_numbers 6 (λ x. refl) (row_at (row_bytes file)) (header file).rows i j l m)

  transactions-long : length (in_turns (transaction_numbers own) was.transactions) ≡ each * (header file).transactions
  transactions-long = turns-length (transaction_numbers own) each (transaction-length own) was.transactions ∙ ap (λ (k : ℕ). each * k) n-transactions

  transaction-number : (i j : ℕ) → i < (header file).transactions → j < each → given_at (transactions_listed was) (each * i + j) ≡ bits_of 64 (transaction_numbers own (transaction_at own (transaction_bytes file) i) at j)
  transaction-number i j l m =
      ap (bits_of 64)
      (encoded-at (in_turns (transaction_numbers own) was.transactions) (small-fits (in_turns (transaction_numbers own) was.transactions) transactions-small) (each * i + j) (omega (arith, transactions-long, in-turn each i (header file).transactions l))
      ∙ turns_at (transaction_numbers own) each (transaction-length own) (transaction_at own (transaction_bytes file)) (header file).transactions i j l m)

  -- handed over again they are the hour
  pub listed-hour : hour_given (content_of file) ≡ was
  listed-hour =
      let four = four-read priced (number_at (prices_listed was)) all_read in
      hour-same refl refl four.0 four.1 four.2 four.3
      (tab-ext (row_given (rows_listed was)) (row_at (row_bytes file)) (header file).rows
      (λ i l. let z : 6 * i ≡ 6 * i + 0 = omega arith in
      row_same (ap (given_at (rows_listed was)) z ∙ row_number i 0 l (omega arith)) (row_number i 1 l (omega arith)) (row_number i 2 l (omega arith)) (row_number i 3 l (omega arith)) (row_number i 4 l (omega arith)) (row_number i 5 l (omega arith))))
      refl
      (tab-ext (transaction_given own (transactions_listed was)) (transaction_at own (transaction_bytes file)) (header file).transactions
      (λ i l. given-again own (transactions_listed was) (transaction_bytes file) i (λ j m. transaction-number i j l m)))

  pub listed-holds : Holds file (content_of file)
  listed-holds =
      record {
        accepted = e;
        participants = refl;
        locations = refl;
        rows = refl;
        transactions = refl;
        edition = refl;
        lists = lists-taken _ _ _ _ _ _ _
            (length-encoded (all_prices was) ∙ ap (λ (k : ℕ). 8 * k) (priced-length priced))
            (length-encoded (in_turns row_numbers was.rows) ∙ ap (λ (k : ℕ). 8 * k) (turns-length row_numbers 6 (λ x. refl) was.rows ∙ ap (λ (k : ℕ). 6 * k) n-rows))
            (length-encoded (in_turns (transaction_numbers own) was.transactions) ∙ ap (λ (k : ℕ). 8 * k) transactions-long);
        hour = sym listed-hour;
      }

  -- they aren't refused where the buffer has room for the file
  pub listed-taken : (room : ℕ) → length file ≤ room → write_refusal (content_of file) room ≡ 0
  listed-taken = holds-taken file (content_of file) b listed-holds

  -- "writing what was read from an accepted file gives its bytes": every one, and what is beyond them stays
  pub listed-again : (buffer : List ℕ) → length file ≤ length buffer → write_outcome (content_of file) buffer ≡ file ++ drop (length file) buffer
  listed-again buffer h =
      lent-result _ _ _ (listed-taken (length buffer) h)
      ∙ ap (λ (s : List ℕ). s ++ drop (length s) buffer) (ap file_of listed-hour ∙ written-again file b e)
