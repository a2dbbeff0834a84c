-- What a test of a signed number tells of its size. A signed local holds bits, so a test of it speaks of `to_z w (of_z w x)`, which is x. Assumes nothing.
use mathlib.Core.Path.{◌≡◌, refl, sym, ap, ap₂, subst}
use mathlib.Core.Bool.{Bool, true, false, ◌&&◌}
use Prim.Native.Nat.{ℕ, zero, suc, ◌^◌, ◌≤◌, ◌<◌}
use native.Mathlib.Omega.{arith}
use lib.Dec.{T, leb, ltb→lt, leb→le}
use lib.IntN.{ℤ, pos, negsuc, neg_ℤ, nat_abs}
use lib.Signed.{le_z, non_neg}
use mir.Syntax.{Width, w64}
use mir.Val.{SFits, Fits, to_z, of_z}
use mir.Facts.{to_z-of_z}
use borrow.Author.Tests.{le-leb}
use Rattle.ints.specs.Number.{below0, between}
use Rattle.ints.proofs.Bools.{and-true}

-- ---- a range

size-of-range : (x : ℤ) (k : ℕ) → T (le_z (neg_ℤ (pos k)) x) → T (le_z x (pos k)) → nat_abs x ≤ k
size-of-range (pos n) k low high = leb→le n k high
size-of-range (negsuc n) zero low high = absurd low
size-of-range (negsuc n) (suc k) low high = omega (arith, leb→le n k low)

natural-of-range : (x : ℤ) (k : ℕ) → T (le_z (pos 0) x) → T (le_z x (pos k)) → (x ≡ pos (nat_abs x)) × (nat_abs x ≤ k)
natural-of-range (pos n) k low high = (refl, leb→le n k high)
natural-of-range (negsuc n) k low high = absurd low

-- -k to k
pub between-size : (x : ℤ) (k : ℕ) → between (neg_ℤ (pos k)) (pos k) x ≡ true → nat_abs x ≤ k
between-size x k e =
    let b = and-true (le_z (neg_ℤ (pos k)) x) (le_z x (pos k)) e in
    size-of-range x k (subst T (sym b.0) tt) (subst T (sym b.1) tt)

-- 0 to k
pub between-natural : (x : ℤ) (k : ℕ) → between (pos 0) (pos k) x ≡ true → (x ≡ pos (nat_abs x)) × (nat_abs x ≤ k)
between-natural x k e =
    let b = and-true (le_z (pos 0) x) (le_z x (pos k)) e in
    natural-of-range x k (subst T (sym b.0) tt) (subst T (sym b.1) tt)

-- low to high, of naturals: a count
pub record Counted (low high : ℕ) (x : ℤ) : Type 0 where
  pub is : x ≡ pos (nat_abs x)
  pub some : low ≤ nat_abs x
  pub few : nat_abs x ≤ high

pub counted : (low high : ℕ) (x : ℤ) → between (pos low) (pos high) x ≡ true → Counted low high x
counted low high (pos n) e =
    let b = and-true (le_z (pos low) (pos n)) (le_z (pos n) (pos high)) e in
    record { is = refl; some = leb→le low n (subst T (sym b.0) tt); few = leb→le n high (subst T (sym b.1) tt) }
counted low high (negsuc n) e = absurd (subst T (sym e) tt)

pub count-taken : (low high n : ℕ) → low ≤ n → n ≤ high → between (pos low) (pos high) (pos n) ≡ true
count-taken low high n l h = ap₂ ◌&&◌ (le-leb low n l) (le-leb n high h)

-- from 0 on there is nothing to test below
pub count-from-0 : (high n : ℕ) → between (pos 0) (pos high) (pos n) ≡ leb n high
count-from-0 high n = ap (λ (b : Bool). b && leb n high) (le-leb 0 n (omega arith))

-- such a count as an unsigned number
pub count-cast : {low high : ℕ} {x : ℤ} → SFits w64 x → Counted low high x → high < 2 ^ 64 → T (non_neg (to_z w64 (of_z w64 x))) × Fits w64 (nat_abs (to_z w64 (of_z w64 x)))
count-cast {low} {high} {x} f k h = rw (to_z-of_z f) (subst (λ (z : ℤ). T (non_neg z)) (sym k.is) tt, record { fits = omega (arith, k.few) })

pub count-within : {low high : ℕ} {x : ℤ} → SFits w64 x → Counted low high x → (low ≤ nat_abs (to_z w64 (of_z w64 x))) × (nat_abs (to_z w64 (of_z w64 x)) ≤ high)
count-within f k = rw (to_z-of_z f) (k.some, k.few)

-- .. is itself
pub count-is : {low high : ℕ} {x : ℤ} → SFits w64 x → Counted low high x → pos (nat_abs (to_z w64 (of_z w64 x))) ≡ x
count-is f k = rw (to_z-of_z f) (sym k.is)

-- ---- the sign

below : (x : ℤ) → below0 x ≡ true → (x ≡ neg_ℤ (pos (nat_abs x))) × (0 < nat_abs x)
below (pos n) e = absurd (not-lt-zero (ltb→lt n 0 (subst T (sym e) tt)))
  where
    not-lt-zero : n < 0 → ⊥
    not-lt-zero h = omega arith
below (negsuc n) e = (refl, omega arith)

above : (x : ℤ) → below0 x ≡ false → x ≡ pos (nat_abs x)
above (pos n) e = refl
above (negsuc n) e = absurd (subst T e tt)

-- `if x < 0`: taken, x is minus its size, which is not 0; left, x is its size
pub is-neg : {w : Width} {x : ℤ} → SFits w x → below0 (to_z w (of_z w x)) ≡ true → (x ≡ neg_ℤ (pos (nat_abs x))) × (0 < nat_abs x)
is-neg {w} {x} f e = below x (subst (λ (z : ℤ). below0 z ≡ true) (to_z-of_z f) e)

pub is_pos : {w : Width} {x : ℤ} → SFits w x → below0 (to_z w (of_z w x)) ≡ false → x ≡ pos (nat_abs x)
is_pos {w} {x} f e = above x (subst (λ (z : ℤ). below0 z ≡ false) (to_z-of_z f) e)
