-- A row decoded by itself: its number where it is refused, and what it is where it is accepted. Assumes nothing.
use Rattle.std.proofs.Common.{◌≡◌, ℕ, List, eqb, refl, sym, ap, ◌∙◌}
use Rattle.std.specs.Prelude.{ℤ, Ok, Err}
use borrow.Author.Tests.{eq-eqb, ne_eqb}
use Rattle.ints.specs.Refusal.{unless}
use Rattle.ints.proofs.Turns.{then-ends, then-follows}
use Rattle.refusals.specs.Number.{number, numbered}
use Rattle.refusals.specs.declared.Refusal.{Refusal}
use Rattle.refusals.proofs.Numbers.{number-not-zero}
use Rattle.exercise.specs.Decoding.{decoded_row, decoded_refusal, row_alone_refusal}
use Rattle.exercise.specs.File.{row_at}
use Rattle.exercise.proofs.Answers.{taken}
use Rattle.hour.specs.declared.Row.{Row}
use Rattle.exercise_probe.specs.Inside.{probe_refusal}

module _ (participants locations : ℤ) (row : List ℕ) (bytes : ℕ) where
  pub row-refused : (r : Refusal) → numbered {A = Row} (Err r) ≡ decoded_row participants locations row → number r ≡ probe_refusal participants locations row bytes
  unfolding probe_refusal
  row-refused r e = then-ends (decoded_refusal (decoded_row participants locations row)) (unless (eqb bytes 48) 1 0) (number r) (number-not-zero r) (ap decoded_refusal e)

  module _ (x : Row) (e : Ok x ≡ decoded_row participants locations row) where
    follows : unless (eqb bytes 48) 1 0 ≡ probe_refusal participants locations row bytes
    unfolding probe_refusal
    follows = then-follows (decoded_refusal (decoded_row participants locations row)) (unless (eqb bytes 48) 1 0) 0 refl (ap decoded_refusal e)

    pub no_room : (bytes ≡ 48 → ⊥) → 1 ≡ probe_refusal participants locations row bytes
    no_room h = sym (simp (ne_eqb bytes 48 h)) ∙ follows

    pub row-accepted : bytes ≡ 48 → (0 ≡ probe_refusal participants locations row bytes) × (x ≡ row_at row 0)
    row-accepted h = (sym (simp (eq-eqb bytes 48 h)) ∙ follows, sym (taken (row_alone_refusal participants locations row) (row_at row 0) x (sym e)).1)
