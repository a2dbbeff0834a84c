-- Rounding in place. Assumes nothing.
use mathlib.Core.Path.{◌≡◌, refl, sym, ap, ◌∙◌, subst}
use mathlib.Core.Logic.{◌≢◌, ⊎_elim}
use mathlib.Core.List.{List}
use Prim.Native.Nat.{ℕ, ◌+◌, ◌≤◌, ◌<◌}
use native.Mathlib.Nat.{eq-or-lt_of_le}
use native.Mathlib.Omega.{arith}
use lib.IntN.{ℤ, pos, nat_abs}
use lib.ListN.{length, take, set}
use lib.Seq.{get_or-set_other}
use mir.Syntax.{w64}
use mir.Val.{SFits}
use Rattle.ints.specs.InsideRange.{InRange}
use Rattle.ints.specs.Table.{◌at◌, tab}
use Rattle.ints.proofs.Ranges.{range_at}
use Rattle.ints.proofs.Tables.{tab-none, tab-store, tab-done}
use Rattle.units.specs.Units.{cents_of}
use Rattle.hour.specs.InsideTotals.{rounded, most_cents}
use Rattle.hour.proofs.Credits.{rounded-at, cents-most}

-- the first i numbers of a list are rounded, and the rest is as it was
pub record Rounds (exact : List ℤ) (i : ℕ) (list : List ℤ) : Type 0 where
  pub front : take i list ≡ tab (λ p. cents_of (exact at p)) i
  pub rest : (p : ℕ) → i ≤ p → list at p ≡ exact at p
  pub known : (p : ℕ) → p < i → SFits w64 (exact at p)

pub rounds-none : (exact : List ℤ) → Rounds exact 0 exact
rounds-none exact = record { front = tab-none (λ p. cents_of (exact at p)); rest = λ p _. refl; known = λ p l. absurd (not-lt p l) }
  where
    not-lt : (p : ℕ) → p < 0 → ⊥
    not-lt p l = omega arith

module _ (exact list : List ℤ) (i : ℕ) (r : Rounds exact i list) where
  pub rounds-next : (z : ℤ) → i < length list → SFits w64 (list at i) → z ≡ cents_of (list at i) → Rounds exact (i + 1) (set list i z)
  rounds-next z h f e = record {
    front = tab-store (λ p. cents_of (exact at p)) list i z h (e ∙ ap cents_of (r.rest i (omega arith))) r.front;
    rest = λ p l. get_or-set_other list i p z (pos 0) (other p l) ∙ r.rest p (omega arith);
    known = λ p l. ⊎_elim (λ q. subst (λ (p : ℕ). SFits w64 (exact at p)) (sym q) (subst (SFits w64) (r.rest i (omega arith)) f)) (r.known p) (eq-or-lt_of_le (le p l));
  }
    where
      other : (p : ℕ) → i + 1 ≤ p → p ≢ i
      other p l q = omega arith

      le : (p : ℕ) → p < i + 1 → p ≤ i
      le p l = omega arith

  pub rounds-done : length list ≡ i → length list ≡ length exact → (list ≡ rounded exact) × InRange list most_cents
  unfolding rounded
  rounds-done h s =
      let is : list ≡ rounded exact = tab-done (λ p. cents_of (exact at p)) list i h r.front ∙ ap (tab (λ p. cents_of (exact at p))) s in
      (is, range_at list most_cents (λ p l. record { within = omega (arith, ap (λ (l : List ℤ). nat_abs (l at p)) is ∙ ap nat_abs (rounded-at exact p (omega arith)), cents-most (exact at p) (r.known p (omega arith))) }))
