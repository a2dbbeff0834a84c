-- What is refused of an hour in lists of numbers, at both sides of each limit and where two reasons meet, and what the lists and the buffer hold. In most of `WriteCases`
-- something is wrong that a later test would refuse: an answer tells whether what is tried is taken (then it is the later one's), and that its own reason comes first.
-- Assumes nothing.
use Rattle.std.specs.Prelude.{◌≡◌, refl, List, [], ◌∷◌, ◌++◌, ℕ, ℤ, pos, negsuc, take, drop}
use Rattle.ints.specs.Table.{tab, all}
use Rattle.ints.specs.Turn.{in_order}
use Rattle.numbers.specs.Bytes.{lowest_first, bytes_of, encoded}
use Rattle.hour.specs.Order.{row_refusal, packed_row_refusal, packed_transaction_refusal, transaction_refusal, prices_refusal, rows_refusal, transactions_refusal, content_refusal}
use Rattle.hour.specs.declared.Edition.TheVariants as Edition
use Rattle.exercise.specs.CasesFile.{times}
use Rattle.exercise.specs.CasesWritten.{mixed, mixed_file}
use Rattle.exercise.specs.File.{header, places_of}
use Rattle.exercise.specs.Lists.{Content, content, hour_given, counts_refusal, lists_refusal, write_refusal, write_outcome, read_refusal, in_turns, prices_listed, rows_listed, transactions_listed}
use Rattle.exercise.specs.Order.{header_refusal, frame_refusal}
use Rattle.exercise.specs.Packed.{bytes_at}
use Rattle.exercise.specs.Written.{bytes_high, run}

-- ---- 9: the edition (document 02, ticket 2); 1: participants, locations, rows, transactions, then the three lists' lengths, ragged ones too

pub record CountCases : Type 0 where
  pub least : counts_refusal (pos 1) (pos 1) (pos 0) (pos 0) (pos 0) ≡ 0
  pub most : counts_refusal (pos 64) (pos 64) (pos 2048) (pos 256) (pos 0) ≡ 0
  pub no-participants : counts_refusal (pos 0) (pos 1) (pos 0) (pos 0) (pos 0) ≡ 1
  pub participants-65 : counts_refusal (pos 65) (pos 1) (pos 0) (pos 0) (pos 0) ≡ 1
  pub participants-below-0 : counts_refusal (negsuc 0) (pos 1) (pos 0) (pos 0) (pos 0) ≡ 1
  pub no-locations : counts_refusal (pos 1) (pos 0) (pos 0) (pos 0) (pos 0) ≡ 1
  pub locations-65 : counts_refusal (pos 1) (pos 65) (pos 0) (pos 0) (pos 0) ≡ 1
  pub rows-below-0 : counts_refusal (pos 1) (pos 1) (negsuc 0) (pos 0) (pos 0) ≡ 1
  pub rows-2049 : counts_refusal (pos 1) (pos 1) (pos 2049) (pos 0) (pos 0) ≡ 1
  pub transactions-below-0 : counts_refusal (pos 1) (pos 1) (pos 0) (negsuc 0) (pos 0) ≡ 1
  pub transactions-257 : counts_refusal (pos 1) (pos 1) (pos 0) (pos 257) (pos 0) ≡ 1
  -- the edition before the participants
  pub edition-1 : counts_refusal (pos 0) (pos 1) (pos 0) (pos 0) (pos 1) ≡ 1
  pub edition-2 : counts_refusal (pos 0) (pos 1) (pos 0) (pos 0) (pos 2) ≡ 9
  pub edition-below-0 : counts_refusal (pos 0) (pos 1) (pos 0) (pos 0) (negsuc 0) ≡ 9
  pub most-with-seller : counts_refusal (pos 64) (pos 64) (pos 2048) (pos 256) (pos 1) ≡ 0

pub count-cases : CountCases
unfolding counts_refusal
count-cases = record { least = refl; most = refl; no-participants = refl; participants-65 = refl; participants-below-0 = refl; no-locations = refl; locations-65 = refl; rows-below-0 = refl; rows-2049 = refl; transactions-below-0 = refl; transactions-257 = refl; edition-1 = refl; edition-2 = refl; edition-below-0 = refl; most-with-seller = refl }

pub record LengthCases : Type 0 where
  pub right : lists_refusal 2 3 1 Edition.PathOnly 416 144 48 ≡ 0
  pub prices-short : lists_refusal 2 3 1 Edition.PathOnly 408 144 48 ≡ 1
  pub prices-ragged : lists_refusal 2 3 1 Edition.PathOnly 417 144 48 ≡ 1
  pub rows_long : lists_refusal 2 3 1 Edition.PathOnly 416 152 48 ≡ 1
  pub rows-ragged : lists_refusal 2 3 1 Edition.PathOnly 416 143 48 ≡ 1
  pub transactions-short : lists_refusal 2 3 1 Edition.PathOnly 416 144 0 ≡ 1
  pub transactions-ragged : lists_refusal 2 3 1 Edition.PathOnly 416 144 49 ≡ 1
  -- seven numbers a transaction with a seller, 168 bytes for three
  pub sevens : lists_refusal 2 0 3 Edition.WithSeller 416 0 168 ≡ 0
  pub sixes-for-sevens : lists_refusal 2 0 3 Edition.WithSeller 416 0 144 ≡ 1
  pub sevens-for-sixes : lists_refusal 2 0 3 Edition.PathOnly 416 0 168 ≡ 1

pub length-cases : LengthCases
unfolding lists_refusal
length-cases = record { right = refl; prices-short = refl; prices-ragged = refl; rows_long = refl; rows-ragged = refl; transactions-short = refl; transactions-ragged = refl; sevens = refl; sixes-for-sevens = refl; sevens-for-sixes = refl }

-- ---- an hour of 2 participants, 1 location, a row and a transaction, which has 95 bytes

abbrev given : ℤ → ℤ → List ℤ → List ℤ → ℕ → ℕ
given participants price row transaction room =
    write_refusal (content participants (pos 1) (pos 1) (pos 1) (pos 0) (encoded (price ∷ tab (λ _. pos 0) 25)) (encoded row) (encoded transaction)) room

abbrev row : ℤ → ℤ → ℤ → ℤ → ℤ → ℤ → List ℤ
row m kind k p l kw = m ∷ kind ∷ k ∷ p ∷ l ∷ kw ∷ []

-- a row, and a transaction, that has nothing wrong with it; one of no market; and one of too many kW
abbrev good : List ℤ
good = row (pos 1) (pos 0) (pos 11) (pos 1) (pos 0) (pos 600)

abbrev path : List ℤ
path = row (pos 0) (pos 0) (pos 1) (pos 0) (pos 0) (pos 7)

abbrev nowhere : List ℤ
nowhere = row (pos 2) (pos 0) (pos 0) (pos 0) (pos 0) (pos 0)

abbrev heavy : List ℤ
heavy = row (pos 0) (pos 0) (pos 0) (pos 0) (pos 0) (pos 20000001)

pub record WriteCases : Type 0 where
  pub taken : given (pos 2) (pos 0) good path 95 ≡ 0
  -- counts before prices
  pub counts-first : given (pos 65) (pos 5000001) good path 95 ≡ 1
  -- 2 of prices, before a row's 4
  pub price-taken : given (pos 2) (negsuc 4999999) nowhere path 95 ≡ 4
  pub price-above : given (pos 2) (pos 5000001) nowhere path 95 ≡ 2
  pub price-below : given (pos 2) (negsuc 5000000) nowhere path 95 ≡ 2
  -- a row: 4, then 3, then 2, also below 0
  pub market-below-0 : given (pos 2) (pos 0) (row (negsuc 0) (pos 0) (pos 0) (pos 9) (pos 0) (pos 0)) path 95 ≡ 4
  pub market-wraps : given (pos 2) (pos 0) (row (pos 257) (pos 0) (pos 0) (pos 9) (pos 0) (pos 0)) path 95 ≡ 4
  pub kind-below-0 : given (pos 2) (pos 0) (row (pos 0) (negsuc 0) (pos 0) (pos 9) (pos 0) (pos 0)) path 95 ≡ 4
  pub kind-6 : given (pos 2) (pos 0) (row (pos 0) (pos 6) (pos 0) (pos 9) (pos 0) (pos 0)) path 95 ≡ 4
  pub interval-below-0 : given (pos 2) (pos 0) (row (pos 1) (pos 0) (negsuc 0) (pos 9) (pos 0) (pos 0)) path 95 ≡ 4
  pub participant-below-0 : given (pos 2) (pos 0) (row (pos 1) (pos 0) (pos 0) (negsuc 0) (pos 0) (negsuc 0)) path 95 ≡ 3
  pub location-below-0 : given (pos 2) (pos 0) (row (pos 1) (pos 0) (pos 0) (pos 0) (negsuc 0) (negsuc 0)) path 95 ≡ 3
  pub location-wraps : given (pos 2) (pos 0) (row (pos 1) (pos 0) (pos 0) (pos 0) (pos 0x100000000) (negsuc 0)) path 95 ≡ 3
  pub kw-below-0 : given (pos 2) (pos 0) (row (pos 1) (pos 0) (pos 0) (pos 0) (pos 0) (negsuc 0)) path 95 ≡ 2
  -- a row's 2 before a transaction's 4
  pub row_first : given (pos 2) (pos 0) heavy nowhere 95 ≡ 2
  -- a transaction: 4, then 3, then 2
  pub path-market : given (pos 2) (pos 0) good nowhere 95 ≡ 4
  pub path-market-below-0 : given (pos 2) (pos 0) good (row (negsuc 0) (pos 0) (pos 2) (pos 0) (pos 0) (pos 0)) 95 ≡ 4
  pub path-interval-below-0 : given (pos 2) (pos 0) good (row (pos 1) (negsuc 0) (pos 2) (pos 0) (pos 0) (pos 0)) 95 ≡ 4
  pub path-participant-below-0 : given (pos 2) (pos 0) good (row (pos 0) (pos 0) (negsuc 0) (pos 0) (pos 0) (pos 20000001)) 95 ≡ 3
  pub path-source-below-0 : given (pos 2) (pos 0) good (row (pos 0) (pos 0) (pos 1) (negsuc 0) (pos 0) (pos 20000001)) 95 ≡ 3
  pub path-kw-below-0 : given (pos 2) (pos 0) good (row (pos 0) (pos 0) (pos 1) (pos 0) (pos 0) (negsuc 0)) 0 ≡ 2
  pub path-participant : given (pos 2) (pos 0) good (row (pos 0) (pos 0) (pos 2) (pos 0) (pos 0) (pos 20000001)) 95 ≡ 3
  pub path-source : given (pos 2) (pos 0) good (row (pos 0) (pos 0) (pos 1) (pos 1) (pos 0) (pos 20000001)) 95 ≡ 3
  pub path-sink : given (pos 2) (pos 0) good (row (pos 0) (pos 0) (pos 1) (pos 0) (negsuc 0) (pos 20000001)) 95 ≡ 3
  pub path-kw : given (pos 2) (pos 0) good (row (pos 0) (pos 0) (pos 1) (pos 0) (pos 0) (pos 20000001)) 0 ≡ 2
  -- "last, 1 where the buffer is shorter than the file"
  pub no_room : given (pos 2) (pos 0) good path 94 ≡ 1
  pub more_room : given (pos 2) (pos 0) good path 96 ≡ 0

pub write-cases : WriteCases
unfolding write_refusal counts_refusal lists_refusal content_refusal prices_refusal rows_refusal transactions_refusal in_order tab all packed_row_refusal row_refusal packed_transaction_refusal transaction_refusal encoded bytes_of lowest_first bytes_high run
write-cases = record { taken = refl; counts-first = refl; price-taken = refl; price-above = refl; price-below = refl; market-below-0 = refl; market-wraps = refl; kind-below-0 = refl; kind-6 = refl; interval-below-0 = refl; participant-below-0 = refl; location-below-0 = refl; location-wraps = refl; kw-below-0 = refl; row_first = refl; path-market = refl; path-market-below-0 = refl; path-interval-below-0 = refl; path-participant-below-0 = refl; path-source-below-0 = refl; path-kw-below-0 = refl; path-participant = refl; path-source = refl; path-sink = refl; path-kw = refl; no_room = refl; more_room = refl }

-- ---- the hour of CasesWritten: written from its lists, and read as them

abbrev prices : List ℤ
prices = (negsuc 0 ∷ pos 630 ∷ []) ++ tab (λ _. pos 0) 22 ++ (negsuc 599 ∷ negsuc 599 ∷ []) ++ (pos 5000000 ∷ negsuc 4999999 ∷ []) ++ tab (λ _. pos 1) 24

abbrev rows : List ℤ
rows = row (pos 1) (pos 3) (pos 11) (pos 2) (pos 1) (pos 20000000) ++ row (pos 0) (pos 5) (pos 0) (pos 0) (pos 0) (pos 1)

abbrev transactions : List ℤ
transactions = row (pos 1) (pos 4) (pos 1) (pos 0) (pos 1) (pos 33)

abbrev handed : Content
handed = content (pos 3) (pos 2) (pos 2) (pos 1) (pos 0) (encoded prices) (encoded rows) (encoded transactions)

-- the same file with its first price too large
abbrev spoilt : List ℕ
spoilt = take 5 mixed_file ++ (0x4C ∷ 0x4B ∷ 0x41 ∷ drop 8 mixed_file)

pub record MixedCases : Type 0 where
  pub given-hour : hour_given handed ≡ mixed
  pub prices-listed : prices_listed mixed ≡ encoded prices
  pub rows-listed : rows_listed mixed ≡ encoded rows
  pub transactions-listed : transactions_listed mixed ≡ encoded transactions
  -- "Bytes beyond the file stay."
  pub written : write_outcome handed (times 181 (0xEE ∷ [])) ≡ mixed_file ++ (0xEE ∷ 0xEE ∷ [])
  -- a refused call leaves the whole buffer
  pub kept : write_outcome handed (times 178 (0xEE ∷ [])) ≡ times 178 (0xEE ∷ [])
  pub read : read_refusal mixed_file 416 96 48 ≡ 0
  pub read_short : read_refusal mixed_file 416 96 40 ≡ 1
  -- the lists in the place of the output lists: before the prices
  pub price-above : read_refusal spoilt 416 96 48 ≡ 2
  pub lists-first : read_refusal spoilt 416 96 40 ≡ 1

pub mixed-cases : MixedCases
unfolding write_refusal counts_refusal lists_refusal read_refusal content_refusal prices_refusal rows_refusal transactions_refusal in_order tab all packed_row_refusal row_refusal packed_transaction_refusal transaction_refusal encoded bytes_of lowest_first bytes_high run in_turns header bytes_at places_of header_refusal frame_refusal
mixed-cases = record { given-hour = refl; prices-listed = refl; rows-listed = refl; transactions-listed = refl; written = refl; kept = refl; read = refl; read_short = refl; price-above = refl; lists-first = refl }
