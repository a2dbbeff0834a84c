-- The stretch that the reader hands back: of an accepted file its rows, and of any other nothing. Assumes nothing.
use mathlib.Core.Path.{◌≡◌, ap, ◌∙◌}
use mathlib.Core.Bool.{Bool}
use mathlib.Core.List.{List, []}
use Prim.Native.Nat.{ℕ, ◌*◌, ◌/◌}
use native.Mathlib.Omega.{arith}
use lib.ListN.{length}
use borrow.Author.Tests.{eq-eqb, ne_eqb}
use Rattle.ints.specs.Refusal.{pick}
use Rattle.ints.proofs.Turns.{then-none}
use Rattle.exercise.specs.File.{rows_in, header, places, row_bytes, hour_of}
use Rattle.exercise.specs.Order.{file_refusal}
use Rattle.exercise.specs.Reader.{stretch, stretch_start}
use Rattle.exercise.proofs.Whole.{laid, whole, part_length}

module _ (file : List ℕ) where
  pub stretch-accepted : file_refusal file ≡ 0 → (stretch file ≡ row_bytes file) × (stretch_start file ≡ (places file).rows)
  stretch-accepted e =
      let t = eq-eqb (file_refusal file) 0 e in
      (ap (λ (b : Bool). pick b (row_bytes file) []) t, ap (λ (b : Bool). pick b (places file).rows 0) t)

  pub stretch-refused : (file_refusal file ≡ 0 → ⊥) → (stretch file ≡ []) × (stretch_start file ≡ 0)
  stretch-refused some =
      let t = ne_eqb (file_refusal file) 0 some in
      (ap (λ (b : Bool). pick b (row_bytes file) []) t, ap (λ (b : Bool). pick b (places file).rows 0) t)

  -- six bytes for each row
  pub stretch-length : file_refusal file ≡ 0 → length (stretch file) ≡ 6 * (header file).rows
  stretch-length e =
      let l = laid (header file) in
      let w = whole file (then-none _ _ e).0 in
      ap length (stretch-accepted e).0 ∙ part_length (places file).rows (places file).transactions file (omega arith) (omega arith) ∙ omega arith

  -- "The reader hands back the stretch of the caller's file holding the rows": it decodes to these, all of them
  pub stretch-rows : file_refusal file ≡ 0 → rows_in (stretch file) (length (stretch file) / 6) ≡ (hour_of file).rows
  stretch-rows e =
      let n : length (stretch file) / 6 ≡ (header file).rows = omega (arith, stretch-length e) in
      ap (rows_in (stretch file)) n ∙ ap (λ (s : List ℕ). rows_in s (header file).rows) (stretch-accepted e).0
