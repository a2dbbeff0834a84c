-- Rounding to cents goes to the nearest cent, halves away from zero; it keeps whole cents, the order and the sign. For every amount. Assumes nothing.
use mathlib.Core.Path.{◌≡◌, ap, ◌∙◌}
use mathlib.Core.Bool.{Bool}
use Prim.Native.Nat.{ℕ, suc, ◌-◌, ◌/◌, ◌≤◌, ◌<◌}
use native.Mathlib.Omega.{arith}
use lib.IntN.{ℤ, pos, negsuc, neg_ℤ, nat_abs, ◌-ℤ◌, ◌*ℤ◌}
use lib.Signed.{◌≤ℤ◌}
use borrow.Author.Tests.{le-ltb}
use Rattle.ints.specs.Number.{signed}
use Rattle.ints.proofs.Diff.{◌⊖◌, ⊖-laws, ⊖-neg, ⊖-eq, pos-⊖, sub-ind, ind1, ind2}
use Rattle.ints.proofs.Sizes.{abs_is, le-⊖, ⊖-le}
use Rattle.units.specs.Units.{cent, whole_cents, cents_of}

-- c cents, in twelfths
abbrev pub in_twelfths : ℤ → ℤ
in_twelfths c = c *ℤ pos cent

-- how far c cents are from x twelfths
abbrev pub distance : ℤ → ℤ → ℕ
distance c x = nat_abs (in_twelfths c -ℤ x)

-- ---- the cents of a difference of naturals

cents-pos : (n : ℕ) → cents_of (pos n) ≡ whole_cents n ⊖ 0
unfolding cents_of
cents-pos n = ap (λ (b : Bool). signed b (whole_cents n)) (le-ltb n 0 (omega arith)) ∙ pos-⊖ (whole_cents n)

cents-neg : (n : ℕ) → cents_of (negsuc n) ≡ 0 ⊖ whole_cents (suc n)
unfolding cents_of
cents-neg n = ap neg_ℤ (pos-⊖ (whole_cents (suc n))) ∙ ⊖-neg (whole_cents (suc n)) 0

cents-⊖ : (a b : ℕ) → cents_of (a ⊖ b) ≡ whole_cents (a - b) ⊖ whole_cents (b - a)
unfolding ◌⊖◌
cents-⊖ a b = sub-ind a b (λ z. cents_of z ≡ whole_cents (a - b) ⊖ whole_cents (b - a))
    (λ l. cents-neg (b - suc a) ∙ ⊖-eq 0 (whole_cents (suc (b - suc a))) (whole_cents (a - b)) (whole_cents (b - a)) (omega arith))
    (λ l. cents-pos (a - b) ∙ ⊖-eq (whole_cents (a - b)) 0 (whole_cents (a - b)) (whole_cents (b - a)) (omega arith))

-- bring a statement at differences to naturals, which `omega` reads
ruleset to-naturals = (cents-⊖, pos-⊖, ⊖-laws, abs_is)

-- ---- the laws

-- at most half a cent off
pub near : (x : ℤ) → distance (cents_of x) x ≤ cent / 2
near = ind1 _ (λ a b. simp to-naturals (omega arith))

-- no other number of cents is nearer
pub nearest : (x c : ℤ) → distance (cents_of x) x ≤ distance c x
nearest = ind2 _ (λ a b c d. simp to-naturals (omega arith))

-- a half goes away from zero
pub half-away : (x : ℤ) → distance (cents_of x) x ≡ cent / 2 → nat_abs x < nat_abs (in_twelfths (cents_of x))
half-away = ind1 _ (λ a b. simp to-naturals (omega arith))

-- an amount of whole cents stays
pub exact : (c : ℤ) → cents_of (in_twelfths c) ≡ c
exact = ind1 _ (λ a b. simp to-naturals (⊖-eq _ _ _ _ (omega arith)))

pub keeps-order : (x y : ℤ) → x ≤ℤ y → cents_of x ≤ℤ cents_of y
keeps-order = ind2 _ (λ a b c d h. simp to-naturals (le-⊖ _ _ _ _ (omega (arith, ⊖-le a b c d h))))

-- a charge stays a charge, and a credit a credit
pub keeps-sign : (x : ℤ) → (pos 0 ≤ℤ x → pos 0 ≤ℤ cents_of x) × (x ≤ℤ pos 0 → cents_of x ≤ℤ pos 0)
unfolding cents_of
keeps-sign x = (keeps-order (pos 0) x, keeps-order x (pos 0))

-- a credit is rounded as a charge of its size
pub mirrored : (x : ℤ) → cents_of (neg_ℤ x) ≡ neg_ℤ (cents_of x)
mirrored = ind1 _ (λ a b. simp to-naturals)
