-- One row decoded, and the stretch of a file's rows, as the tests see them. Assumes nothing.
use Rattle.std.specs.Prelude.{List, ℕ, eqb, ℤ, length}
use Rattle.ints.specs.Refusal.{pick, unless, lent}
use Rattle.ints.specs.Turn.{◌then◌}
use Rattle.numbers.specs.Bytes.{encoded}
use Rattle.exercise.specs.Reader.{stretch}
use Rattle.exercise.specs.Decoding.{decoded_row, decoded_refusal}
use Rattle.exercise.specs.File.{row_at}
use Rattle.exercise.specs.Lists.{row_numbers}

-- the row's refusal, then 1 where the slice lent for the fields doesn't hold six numbers
unfoldable pub probe_refusal : ℤ → ℤ → List ℕ → ℕ → ℕ
probe_refusal participants locations row bytes = decoded_refusal (decoded_row participants locations row) then unless (eqb bytes 48) 1 0

abbrev pub probe_outcome : ℤ → ℤ → List ℕ → List ℕ → List ℕ
probe_outcome participants locations row old = lent (probe_refusal participants locations row (length old)) (encoded (row_numbers (row_at row 0))) old

-- a slice of the stretch's length takes a copy
unfoldable pub rows_outcome : List ℕ → List ℕ → List ℕ
rows_outcome file old = pick (eqb (length old) (length (stretch file))) (stretch file) old
