-- Edition 1 of the exercise file, whose transactions have a seller (document 02, ticket 2), worked: a file with its hour and its lists, both ways, and what is refused of it. Assumes
-- nothing.
use Rattle.std.specs.Prelude.{◌≡◌, refl, List, [], ◌∷◌, ◌++◌, ℕ, ℤ, pos, negsuc, take, drop}
use Rattle.ints.specs.Table.{tab, all}
use Rattle.ints.specs.Turn.{in_order}
use Rattle.numbers.specs.Bytes.{lowest_first, bytes_of, encoded}
use Rattle.hour.specs.Cause.{Cause, of_header, of_transaction, cause, tested, first_cause, row_cause, transaction_cause, prices_cause, rows_cause, transactions_cause, content_cause, stands_at}
use Rattle.hour.specs.Hour.{Hour}
use Rattle.hour.specs.Order.{prices_refusal, row_refusal, packed_row_refusal, rows_refusal, transaction_refusal, packed_transaction_refusal, transactions_refusal, content_refusal}
use Rattle.hour.specs.declared.Edition.TheVariants as Edition
use Rattle.exercise.specs.CasesFile.{times, statement}
use Rattle.exercise.specs.CasesWritten.{paper, mixed_file}
use Rattle.exercise.specs.Cause.{counts_cause, lists_cause, given_cause, file_numbers}
use Rattle.exercise.specs.File.{header, places_of, hour_of}
use Rattle.exercise.specs.Lists.{Content, content, hour_given, content_of, counts_refusal, lists_refusal, write_refusal, write_outcome, read_refusal, file_counts_refusal, file_counts_outcome, in_turns, transactions_listed}
use Rattle.exercise.specs.Order.{header_refusal, frame_refusal, spare_of, file_refusal}
use Rattle.exercise.specs.Packed.{bytes_at}
use Rattle.exercise.specs.Written.{bytes_high, run, file_of}

-- ---- sizes

pub record SizeCases : Type 0 where
  -- 4,997 bytes to the rows, 2,048 rows of 6, 256 transactions of 7
  pub longest : (places_of (record { participants = 64; locations = 64; rows = 2048; transactions = 256; edition = 1 })).end ≡ 19077
  pub taken : header_refusal (record { participants = 64; locations = 64; rows = 2048; transactions = 256; edition = 1 }) 19077 ≡ 0
  -- 5 bytes, 26 prices of 3, 10 rows of 6, 8 transactions of 6 and of 7
  pub path-only : places_of (record { participants = 2; locations = 1; rows = 10; transactions = 8; edition = 0 }) ≡ record { prices = 5; rows = 83; transactions = 143; end = 191 }
  pub with-seller : places_of (record { participants = 2; locations = 1; rows = 10; transactions = 8; edition = 1 }) ≡ record { prices = 5; rows = 83; transactions = 143; end = 199 }

pub size-cases : SizeCases
unfolding header_refusal places_of
size-cases = record { longest = refl; taken = refl; path-only = refl; with-seller = refl }

-- ---- 4 participants, 2 locations, a row and two transactions, no two of whose numbers are alike in both. All prices are 0 but the last, -1 mill

abbrev sold : Hour
sold =
    record {
      participants = 4;
      locations = 2;
      congestion_ahead = tab (λ _. pos 0) 2;
      congestion_real = tab (λ _. pos 0) 24;
      loss_ahead = tab (λ _. pos 0) 2;
      loss_real = tab (λ _. pos 0) 23 ++ (negsuc 0 ∷ []);
      rows = record { market = 1; kind = 0; interval = 7; participant = 3; location = 1; kw = record { 0 = 1000 } } ∷ [];
      edition = Edition.WithSeller;
      transactions = record { market = 1; interval = 9; participant = 2; seller = 3; source = 0; sink = 1; kw = record { 0 = 20000000 } }
          ∷ record { market = 0; interval = 0; participant = 3; seller = 2; source = 0; sink = 1; kw = record { 0 = 600 } }
          ∷ [];
    }

-- the last transaction's bytes are given
abbrev sold_with : List ℕ → List ℕ
sold_with last =
    -- 000011 000001 000000000001 0000000010 000001
    (0x0C ∷ 0x10 ∷ 0x01 ∷ 0x00 ∷ 0x81 ∷ [])
    ++ times 153 (0x00 ∷ [])
    ++ (0xFF ∷ 0xFF ∷ 0xFF ∷ [])
    -- 1 000 0111 000011 000001 0000000000000001111101000 000
    ++ (0x87 ∷ 0x0C ∷ 0x10 ∷ 0x00 ∷ 0x1F ∷ 0x40 ∷ [])
    -- "the seller (6 bits) after the participant and two spare bits at the end": 1 1001 000010 000011 000000 000001 1001100010010110100000000 00
    ++ (0xC8 ∷ 0x41 ∷ 0x80 ∷ 0x0C ∷ 0xC4 ∷ 0xB4 ∷ 0x00 ∷ [])
    ++ last

-- 0 0000 000011 000010 000000 000001 0000000000000001001011000 00
abbrev sold_file : List ℕ
sold_file = sold_with (0x00 ∷ 0x61 ∷ 0x00 ∷ 0x08 ∷ 0x00 ∷ 0x09 ∷ 0x60 ∷ [])

pub record FileCases : Type 0 where
  pub counts : header sold_file ≡ record { participants = 4; locations = 2; rows = 1; transactions = 2; edition = 1 }
  pub read : hour_of sold_file ≡ sold
  pub written : file_of sold ≡ sold_file
  pub passes : file_refusal sold_file ≡ 0
  -- edition 0 says where transactions end 2 bytes sooner, and edition 1 of a file of one path a byte later: 9
  pub as-edition-0 : file_refusal (take 4 sold_file ++ (0x80 ∷ drop 5 sold_file)) ≡ 9
  pub as-edition-1 : file_refusal (take 4 mixed_file ++ (0x41 ∷ drop 5 mixed_file)) ≡ 9
  -- without a transaction the two are alike: document 01's file
  pub none-sold : hour_of (take 4 statement ++ (0x01 ∷ drop 5 statement)) ≡ paper Edition.WithSeller
  pub none-sold-passes : file_refusal (take 4 statement ++ (0x01 ∷ drop 5 statement)) ≡ 0

pub file-cases : FileCases
unfolding header bytes_at places_of header_refusal frame_refusal content_refusal prices_refusal rows_refusal transactions_refusal in_order tab all packed_row_refusal row_refusal packed_transaction_refusal transaction_refusal bytes_high run
file-cases = record { counts = refl; read = refl; written = refl; passes = refl; as-edition-0 = refl; as-edition-1 = refl; none-sold = refl; none-sold-passes = refl }

-- ---- the same hour in lists: "of edition 1 a transaction is seven numbers, the seller after the participant, in both calls"

abbrev seven : ℤ → ℤ → ℤ → ℤ → ℤ → ℤ → ℤ → List ℤ
seven m k p seller source sink kw = m ∷ k ∷ p ∷ seller ∷ source ∷ sink ∷ kw ∷ []

abbrev sales : List ℤ
sales = seven (pos 1) (pos 9) (pos 2) (pos 3) (pos 0) (pos 1) (pos 20000000) ++ seven (pos 0) (pos 0) (pos 3) (pos 2) (pos 0) (pos 1) (pos 600)

abbrev handed : List ℤ → Content
handed transactions =
    content (pos 4) (pos 2) (pos 1) (pos 2) (pos 1)
    (encoded (tab (λ _. pos 0) 51 ++ (negsuc 0 ∷ []))) (encoded (pos 1 ∷ pos 0 ∷ pos 7 ∷ pos 3 ∷ pos 1 ∷ pos 1000 ∷ [])) (encoded transactions)

pub record ListCases : Type 0 where
  pub given-hour : hour_given (handed sales) ≡ sold
  pub transactions-listed : transactions_listed sold ≡ encoded sales
  pub content-again : content_of sold_file ≡ handed sales
  pub written : write_outcome (handed sales) (times 182 (0xEE ∷ [])) ≡ sold_file ++ (0xEE ∷ [])
  -- a buffer that the file of edition 0 would have room in
  pub no_room : write_refusal (handed sales) 180 ≡ 1
  -- 52 prices, 6 numbers, 14 numbers
  pub read-lists : read_refusal sold_file 416 48 112 ≡ 0
  pub read-six : read_refusal sold_file 416 48 96 ≡ 1
  -- six numbers each
  pub written-six : write_refusal (handed (take 12 sales)) 181 ≡ 1
  -- the counts of the header, and its edition
  pub told-counts : file_counts_outcome sold_file (times 40 (0xEE ∷ [])) ≡ encoded (pos 4 ∷ pos 2 ∷ pos 1 ∷ pos 2 ∷ pos 1 ∷ [])

pub list_cases : ListCases
unfolding header bytes_at places_of header_refusal frame_refusal write_refusal read_refusal file_counts_refusal counts_refusal lists_refusal content_refusal prices_refusal rows_refusal transactions_refusal in_order tab all packed_row_refusal row_refusal packed_transaction_refusal transaction_refusal encoded bytes_of lowest_first bytes_high run in_turns
list_cases = record { given-hour = refl; transactions-listed = refl; content-again = refl; written = refl; no_room = refl; read-lists = refl; read-six = refl; written-six = refl; told-counts = refl }

-- ---- the last transaction refused: "seller 3, after the participant; spare bits 9, after the kW"

-- participant 4 and seller 5 of 4; seller 5, 20,000,001 kW and both spare bits; these kW and bits; and one of the bits alone
abbrev strangers : List ℕ
strangers = sold_with (0x00 ∷ 0x82 ∷ 0x80 ∷ 0x08 ∷ 0x00 ∷ 0x09 ∷ 0x60 ∷ [])

abbrev no_seller : List ℕ
no_seller = sold_with (0x00 ∷ 0x62 ∷ 0x80 ∷ 0x0C ∷ 0xC4 ∷ 0xB4 ∷ 0x07 ∷ [])

abbrev too_much : List ℕ
too_much = sold_with (0x00 ∷ 0x61 ∷ 0x00 ∷ 0x0C ∷ 0xC4 ∷ 0xB4 ∷ 0x07 ∷ [])

abbrev lower_spare : List ℕ
lower_spare = sold_with (0x00 ∷ 0x61 ∷ 0x00 ∷ 0x08 ∷ 0x00 ∷ 0x09 ∷ 0x61 ∷ [])

abbrev upper_spare : List ℕ
upper_spare = sold_with (0x00 ∷ 0x61 ∷ 0x00 ∷ 0x08 ∷ 0x00 ∷ 0x09 ∷ 0x62 ∷ [])

-- why it is
abbrev why : List ℕ → Cause
why file = content_cause (hour_of file) (spare_of file)

-- the last transaction of sales otherwise, and why that is refused
abbrev why_given : List ℤ → Cause
why_given last = given_cause (handed (take 7 sales ++ last))

pub record LastCases : Type 0 where
  pub no-seller : file_refusal no_seller ≡ 3
  pub too_much_lem : file_refusal too_much ≡ 2
  pub lower-spare : file_refusal lower_spare ≡ 9
  pub upper-spare : file_refusal upper_spare ≡ 9
  -- the participant is field 2, the seller 6, the kW 5 and the spare bits 7
  pub why-strangers : why strangers ≡ cause 3 of_transaction 1 2 (pos 4) (pos 0) (pos 3)
  pub why-no-seller : why no_seller ≡ cause 3 of_transaction 1 6 (pos 5) (pos 0) (pos 3)
  pub why-too-much : why too_much ≡ cause 2 of_transaction 1 5 (pos 20000001) (pos 0) (pos 20000000)
  pub why-lower-spare : why lower_spare ≡ cause 9 of_transaction 1 7 (pos 1) (pos 0) (pos 0)
  pub why-upper-spare : why upper_spare ≡ cause 9 of_transaction 1 7 (pos 2) (pos 0) (pos 0)
  -- what stands there, field by field
  pub stands : file_numbers upper_spare of_transaction 0 ≡ pos 1 ∷ pos 9 ∷ pos 2 ∷ pos 0 ∷ pos 1 ∷ pos 20000000 ∷ pos 3 ∷ pos 0 ∷ []
  pub stands-last : file_numbers upper_spare of_transaction 1 ≡ pos 0 ∷ pos 0 ∷ pos 3 ∷ pos 0 ∷ pos 1 ∷ pos 600 ∷ pos 2 ∷ pos 2 ∷ []
  pub stands-header : file_numbers upper_spare of_header 0 ≡ pos 4 ∷ pos 2 ∷ pos 1 ∷ pos 2 ∷ pos 1 ∷ []
  -- handed over in a list: a seller below 0, the first that there is not, and the last that there is, before source 2 of 2
  pub seller-below-0 : why_given (seven (pos 0) (pos 0) (pos 3) (negsuc 0) (pos 2) (pos 0) (pos 600)) ≡ cause 3 of_transaction 1 6 (negsuc 0) (pos 0) (pos 3)
  pub seller-4 : why_given (seven (pos 0) (pos 0) (pos 3) (pos 4) (pos 2) (pos 0) (pos 600)) ≡ cause 3 of_transaction 1 6 (pos 4) (pos 0) (pos 3)
  pub source-2 : why_given (seven (pos 0) (pos 0) (pos 3) (pos 3) (pos 2) (pos 0) (pos 600)) ≡ cause 3 of_transaction 1 3 (pos 2) (pos 0) (pos 1)

pub last-cases : LastCases
unfolding header bytes_at places_of header_refusal frame_refusal content_refusal prices_refusal rows_refusal transactions_refusal in_order tab all packed_row_refusal row_refusal packed_transaction_refusal transaction_refusal given_cause counts_cause lists_cause content_cause prices_cause rows_cause transactions_cause first_cause row_cause transaction_cause tested file_numbers stands_at encoded bytes_of lowest_first
last-cases = record { no-seller = refl; too_much_lem = refl; lower-spare = refl; upper-spare = refl; why-strangers = refl; why-no-seller = refl; why-too-much = refl; why-lower-spare = refl; why-upper-spare = refl; stands = refl; stands-last = refl; stands-header = refl; seller-below-0 = refl; seller-4 = refl; source-2 = refl }
