-- Why an exercise file, or an hour in lists of numbers, is refused: the first number, in the order of Order.antt and of Lists.antt, that is outside its range (crate `hour`,
-- specs/Cause). `proofs/Causes` has that the cause's number is the refusal of the order. Assumes nothing.
use Rattle.std.specs.Prelude.{List, [], ◌∷◌, ℕ, ◌*◌, leb, eqb, ℤ, pos, length}
use Rattle.ints.specs.Refusal.{pick, unless, lent}
use Rattle.numbers.specs.Bytes.{encoded}
use Rattle.hour.specs.Cause.{Cause, of_file, of_header, of_list, cause, no_cause, as_number, tested, ◌or◌, content_cause, credits_cause, stands_at, cause_numbers}
use Rattle.exercise.specs.Decoding.{count_of}
use Rattle.hour.specs.declared.Edition.{Edition}
use Rattle.exercise.specs.File.{header, places_of, hour_of}
use Rattle.exercise.specs.Layout.{header_size}
use Rattle.exercise.specs.Lists.{Content, transaction_length, edition_given, hour_given, no_spare}
use Rattle.exercise.specs.Order.{spare_of, in_bytes}
use Rattle.exercise.specs.declared.Header.{Header}

-- ---- a file

-- "9 for any other edition; 1 counts; 9 length"; a header's fields are participants, locations, rows, transactions and edition, in the file's order
unfoldable pub header_cause : Header → ℕ → Cause
header_cause h bytes =
    tested 9 of_header 0 4 (as_number h.edition) (pos 0) (pos 1)
    or tested 1 of_header 0 2 (as_number h.rows) (pos 0) (pos 2048)
    or tested 1 of_header 0 3 (as_number h.transactions) (pos 0) (pos 256)
    or tested 9 of_file 0 0 (as_number bytes) (pos (places_of h).end) (pos (places_of h).end)

-- "9 under 5 bytes": the shortest file has 83 bytes, and the longest, of edition 1, 19,077
abbrev pub headless_cause : ℕ → Cause
headless_cause bytes = pick (leb header_size bytes) no_cause (cause 9 of_file 0 0 (as_number bytes) (pos 83) (pos 19077))

unfoldable pub frame_cause : List ℕ → Cause
frame_cause file = headless_cause (length file) or header_cause (header file) (length file)

-- the whole order for an hour, output lists aside
unfoldable pub hour_cause : List ℕ → Cause
hour_cause file = frame_cause file or content_cause (hour_of file) (spare_of file) or credits_cause (hour_of file)

-- ---- an hour in lists of numbers

unfoldable pub counts_cause : ℤ → ℤ → ℤ → ℤ → ℤ → Cause
counts_cause participants locations rows transactions edition =
    tested 9 of_header 0 4 edition (pos 0) (pos 1)
    or tested 1 of_header 0 0 participants (pos 1) (pos 64)
    or tested 1 of_header 0 1 locations (pos 1) (pos 64)
    or tested 1 of_header 0 2 rows (pos 0) (pos 2048)
    or tested 1 of_header 0 3 transactions (pos 0) (pos 256)

-- a list that has to have so many numbers, by its length in bytes
abbrev pub length_cause : ℕ → ℕ → ℕ → Cause
length_cause field bytes n = tested 1 of_list 0 field (as_number bytes) (pos (in_bytes n)) (pos (in_bytes n))

unfoldable pub lists_cause : ℕ → ℕ → ℕ → Edition → ℕ → ℕ → ℕ → Cause
lists_cause locations rows transactions edition prices row_list transaction_list =
    length_cause 0 prices (26 * locations) or length_cause 1 row_list (6 * rows) or length_cause 2 transaction_list (transaction_length edition * transactions)

-- the lists, and the writer's order from the prices to the last transaction
abbrev pub listed_cause : Content → Cause
listed_cause c =
    lists_cause (count_of c.locations) (count_of c.rows) (count_of c.transactions) (edition_given c) (length c.prices) (length c.row_list) (length c.transaction_list)
    or content_cause (hour_given c) no_spare

unfoldable pub given_cause : Content → Cause
given_cause c = counts_cause c.participants c.locations c.rows c.transactions c.edition or listed_cause c

-- ---- what stands at a place of a file, and of an hour in lists of numbers

abbrev pub header_fields : Header → List ℤ
header_fields h = as_number h.participants ∷ as_number h.locations ∷ as_number h.rows ∷ as_number h.transactions ∷ as_number h.edition ∷ []

unfoldable pub file_numbers : List ℕ → ℕ → ℕ → List ℤ
file_numbers file part number =
    pick (eqb part of_file) (as_number (length file) ∷ []) (pick (eqb part of_header) (header_fields (header file)) (stands_at (hour_of file) (spare_of file) part number))

unfoldable pub given_numbers : Content → ℕ → ℕ → List ℤ
given_numbers c part number =
    pick (eqb part of_header) (c.participants ∷ c.locations ∷ c.rows ∷ c.transactions ∷ c.edition ∷ [])
    (pick (eqb part of_list) (as_number (length c.prices) ∷ as_number (length c.row_list) ∷ as_number (length c.transaction_list) ∷ []) (stands_at (hour_given c) no_spare part number))

-- ---- where a cause crosses

-- a slice that isn't as long as seven numbers gets 1, and stays
abbrev pub cause_refusal : ℕ → ℕ
cause_refusal bytes = unless (eqb bytes (in_bytes 7)) 1 0

abbrev pub cause_outcome : Cause → List ℕ → List ℕ
cause_outcome c old = lent (cause_refusal (length old)) (encoded (cause_numbers c)) old
