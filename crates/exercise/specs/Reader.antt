-- The reader (document 01, "The exercise file"): "The reader hands back the stretch of the caller's file holding the rows, not a copy of it. It does so when the file
-- passes the order below to its last transaction, output lists aside; else the stretch is empty." Assumes nothing.
use Rattle.std.specs.Prelude.{List, [], ℕ, eqb}
use Rattle.ints.specs.Refusal.{pick}
use Rattle.exercise.specs.File.{places, row_bytes}
use Rattle.exercise.specs.Order.{file_refusal}

abbrev pub stretch : List ℕ → List ℕ
stretch file = pick (eqb (file_refusal file) 0) (row_bytes file) []

-- where it starts: where the rows do, and of a refused file where the file does
abbrev pub stretch_start : List ℕ → ℕ
stretch_start file = pick (eqb (file_refusal file) 0) (places file).rows 0
