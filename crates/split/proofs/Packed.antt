-- A split with shares of 0 left out is the same split. Assumes nothing.
use mathlib.Core.Path.{◌≡◌, sym, ap, ap₂, ◌∙◌}
use mathlib.Core.Logic.{inl, inr, ⊎_elim}
use mathlib.Core.Bool.{Bool, false}
use mathlib.Core.List.{List}
use Prim.Native.Nat.{ℕ, ◌+◌, ◌*◌, ◌-◌, ◌/◌, ◌%◌, ◌<◌}
use native.Mathlib.Nat.{eq-zero-or-pos}
use native.Mathlib.Decide.{dec_lt}
use native.Mathlib.Omega.{arith}
use lib.Dec.{ltb}
use lib.IntN.{ℤ, nat_abs}
use lib.ListN.{length}
use Rattle.ints.specs.Sum.{sum_nat, one}
use Rattle.ints.specs.Table.{◌at◌}
use Rattle.ints.proofs.Bools.{either, same}
use Rattle.ints.proofs.Counts.{sum_nat-ext}
use Rattle.split.specs.Split.{share, total, cut_down, remainder, units_left, before, place, has_unit, part}
use Rattle.split.proofs.Laws.{part-is, zero-cut, zero-remainder, no-remainder}
use Rattle.split.proofs.Order.{Before, before-says, says-before}

-- the parties that stay, in their order: party j of these is party `who j` of all. What is 0 for each share of 0 comes to the same over both
module _ (shares packed : List ℤ) (who : ℕ → ℕ)
    (each : (j : ℕ) → j < length packed → packed at j ≡ shares at who j)
    (ordered : (j k : ℕ) → j < k → k < length packed → who j < who k)
    (sums : (f : ℕ → ℕ) → ((i : ℕ) → share shares i ≡ 0 → f i ≡ 0) → sum_nat (λ j. f (who j)) (length packed) ≡ sum_nat f (length shares)) where
  pub total-same : total packed ≡ total shares
  unfolding total
  total-same = sum_nat-ext (share packed) (λ j. share shares (who j)) (length packed) (λ j l. ap nat_abs (each j l)) ∙ sums (share shares) (λ i e. e)

  module _ (size : ℕ) where
    -- what is cut down, and the remainder of that, depend on share and total alone
    cut-same : (j : ℕ) → j < length packed → cut_down size packed j ≡ cut_down size shares (who j)
    unfolding cut_down
    cut-same j l = ap₂ (λ (x t : ℕ). size * x / t) (ap nat_abs (each j l)) total-same

    rest-same : (j : ℕ) → j < length packed → remainder size packed j ≡ remainder size shares (who j)
    unfolding remainder
    rest-same j l = ap₂ (λ (x t : ℕ). size * x % t) (ap nat_abs (each j l)) total-same

    left-same : units_left size packed ≡ units_left size shares
    unfolding units_left
    left-same =
        ap (λ (x : ℕ). size - x) (sum_nat-ext (cut_down size packed) (λ j. cut_down size shares (who j)) (length packed) cut-same ∙ sums (cut_down size shares) (zero-cut size shares))

    -- the order stays
    before_same : (k j : ℕ) → k < length packed → j < length packed → before (remainder size packed) k j ≡ before (remainder size shares) (who k) (who j)
    before_same k j u l =
        same (before (remainder size packed) k j) (before (remainder size shares) (who k) (who j))
        (λ e. says-before (remainder size shares) (who k) (who j) (there (before-says (remainder size packed) k j e)))
        (λ e. says-before (remainder size packed) k j (back (before-says (remainder size shares) (who k) (who j) e)))
      where
        there : Before (remainder size packed) k j → Before (remainder size shares) (who k) (who j)
        there (inl h) = inl (omega (arith, rest-same k u, rest-same j l))
        there (inr h) = inr (sym (rest-same k u) ∙ h.0 ∙ rest-same j l, ordered k j h.1 l)

        earlier : who k < who j → Dec (j < k) → Dec (k < j) → k < j
        earlier h (yes m) d = absurd (omega (arith, ordered j k m u))
        earlier h (no m) (yes d) = d
        earlier h (no m) (no d) = let e : k ≡ j = omega arith in absurd (omega (arith, ap who e))

        back : Before (remainder size shares) (who k) (who j) → Before (remainder size packed) k j
        back (inl h) = inl (omega (arith, rest-same k u, rest-same j l))
        back (inr h) = inr (rest-same k u ∙ h.0 ∙ sym (rest-same j l), earlier h.1 (dec_lt j k) (dec_lt k j))

    -- nobody without a share comes before a party with a remainder
    place_same : (j : ℕ) → j < length packed → 0 < remainder size shares (who j) → place (remainder size packed) (length packed) j ≡ place (remainder size shares) (length shares) (who j)
    unfolding place
    place_same j l h =
        sum_nat-ext (λ k. one (before (remainder size packed) k j)) (λ k. one (before (remainder size shares) (who k) (who j))) (length packed) (λ k u. ap one (before_same k j u l))
        ∙ sums (λ i. one (before (remainder size shares) i (who j))) (λ i e. ap one (behind i (zero-remainder size shares i e)))
      where
        behind : (i : ℕ) → remainder size shares i ≡ 0 → before (remainder size shares) i (who j) ≡ false
        behind i z = ⊎_elim (λ t. absurd (⊎_elim (λ g. omega arith) (λ g. omega (arith, g.0)) (before-says (remainder size shares) i (who j) t))) (λ f. f) (either (before (remainder size shares) i (who j)))

    module _ (some : 0 < total shares) where
      unit-same : (j : ℕ) → j < length packed → has_unit size packed j ≡ has_unit size shares (who j)
      unit-same j l =
          ⊎_elim
          (λ z. no-remainder size packed (omega (arith, total-same)) j (rest-same j l ∙ z) ∙ sym (no-remainder size shares some (who j) z))
          (λ h. ap₂ ltb (place_same j l h) left-same)
          (eq-zero-or-pos (remainder size shares (who j)))

      pub part_same : (j : ℕ) → j < length packed → part size packed j ≡ part size shares (who j)
      part_same j l = part-is size packed j ∙ ap₂ (λ (x : ℕ) (u : Bool). x + one u) (cut-same j l) (unit-same j l) ∙ sym (part-is size shares (who j))
