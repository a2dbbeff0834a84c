-- The split's refusal of a surplus and shares, and the order's: 10 for its 2, and else the same. Assumes nothing.
use Rattle.std.proofs.Common.{◌≡◌, ◌≢◌, ℕ, ◌≤◌, List, length, eqb, eq-eqb, ne_eqb, sym, ap, ◌∙◌, Bool}
use Rattle.std.specs.Prelude.{ℤ}
use Rattle.ints.specs.Refusal.{pick}
use Rattle.split.specs.Split.{split_refusal}
use Rattle.hour.specs.InsideTotals.{Natural}
use Rattle.hour.specs.Order.{surplus_refusal}
use Rattle.hour.proofs.Credits.{renumbered}

module _ (surplus : ℤ) (shares : List ℤ) (n : ℕ) (some : 1 ≤ length shares) (few : length shares ≤ 64) (natural : Natural shares) (same : n ≡ length shares) where
  pub ten-for-two : (r : ℕ) → r ≡ split_refusal surplus shares n → r ≡ 2 → 10 ≡ surplus_refusal surplus shares
  ten-for-two r e two = sym (renumbered surplus shares n some few natural same ∙ ap (λ (b : Bool). pick b 10 (split_refusal surplus shares n)) (eq-eqb (split_refusal surplus shares n) 2 (sym e ∙ two)))

  pub same_number : (r : ℕ) → r ≡ split_refusal surplus shares n → r ≢ 2 → r ≡ surplus_refusal surplus shares
  same_number r e other = e ∙ sym (renumbered surplus shares n some few natural same ∙ ap (λ (b : Bool). pick b 10 (split_refusal surplus shares n)) (ne_eqb (split_refusal surplus shares n) 2 (λ two. other (e ∙ two))))
