-- The order of refusals of an exercise file and of an hour read from it (document 01, "The exercise file"):
-- "Order for an hour: 9 under 5 bytes; 9 header spare; 1 counts; 9 length; 1 output lists not as long as the participants; 2 prices; rows in turn (4; 3 participant,
-- location; 2; 9); transactions in turn (4; 3 participant, source, sink; 2); 10; 7." Document 02, ticket 2: "9 for any other edition; seller 3, after the participant; spare
-- bits 9, after the kW"; the edition stands in the place of the header's spare bits. Assumes nothing.
use Rattle.std.specs.Prelude.{List, ℕ, ◌*◌, leb, eqb, length}
use Rattle.ints.specs.Refusal.{unless}
use Rattle.ints.specs.Turn.{◌then◌}
use Rattle.hour.specs.Order.{Spare, outputs_refusal, packed_row_refusal, packed_transaction_refusal, content_refusal, credits_refusal}
use Rattle.hour.specs.declared.Edition.{Edition}
use Rattle.exercise.specs.Layout.{header_size}
use Rattle.exercise.specs.File.{header, places_of, row_at, row_spare, packed_row, transaction_at, transaction_spare, packed_transaction, row_bytes, transaction_bytes, edition_in, hour_of}
use Rattle.exercise.specs.declared.Header.{Header}

-- ---- to the file's length

-- "9 for any other edition; 1 counts; 9 length". Six bits hold no more than 64 participants and locations
unfoldable pub header_refusal : Header → ℕ → ℕ
header_refusal h bytes =
    unless (leb h.edition 1) 9
    (unless (leb h.rows 2048) 1
    (unless (leb h.transactions 256) 1
    (unless (eqb bytes (places_of h).end) 9
    0)))

-- "9 under 5 bytes", then these
unfoldable pub frame_refusal : List ℕ → ℕ
frame_refusal file = unless (leb header_size (length file)) 9 (header_refusal (header file) (length file))

-- ---- one row, or one transaction, of a stretch

abbrev pub row_refusal_at : ℕ → ℕ → List ℕ → ℕ → ℕ
row_refusal_at participants locations s i = packed_row_refusal participants locations (row_at s i) (row_spare (packed_row s i))

abbrev pub transaction_refusal_at : Edition → ℕ → ℕ → List ℕ → ℕ → ℕ
transaction_refusal_at edition participants locations s i =
    packed_transaction_refusal participants locations (transaction_at edition s i) (transaction_spare edition (packed_transaction edition s i))

-- ---- the whole order

-- the spare bits beside a row, and beside a transaction
abbrev pub spare_of : List ℕ → Spare
spare_of file =
    record {
      row = λ i. row_spare (packed_row (row_bytes file) i);
      transaction = λ i. transaction_spare (edition_in file) (packed_transaction (edition_in file) (transaction_bytes file) i);
    }

-- "the order .. to its last transaction, output lists aside"; "A separate call answers 0 for such a file, or its refusal."
abbrev pub file_refusal : List ℕ → ℕ
file_refusal file = frame_refusal file then content_refusal (hour_of file) (spare_of file)

-- "2 prices; rows in turn (..); transactions in turn (..); 10; 7"
abbrev pub settled_refusal : List ℕ → ℕ
settled_refusal file = content_refusal (hour_of file) (spare_of file) then credits_refusal (hour_of file)

-- how long a list of n numbers has to be, counted in numbers; and in bytes, "eight bytes a number", where it crosses: a "slice that is no multiple of eight"
-- isn't that long either
abbrev pub in_numbers : ℕ → ℕ
in_numbers n = n

abbrev pub in_bytes : ℕ → ℕ
in_bytes n = 8 * n

-- "Order for an hour", of a file and the lengths of the output lists; `counted n` is how long a list of n numbers has to be
unfoldable pub hour_refusal : (ℕ → ℕ) → List ℕ → List ℕ → ℕ
hour_refusal counted file lengths =
    frame_refusal file
    then outputs_refusal (counted (hour_of file).participants) lengths
    then settled_refusal file
