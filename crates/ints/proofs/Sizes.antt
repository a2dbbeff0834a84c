-- The size of sums, differences, products and negations; from sizes to "fits 64 bits". Assumes nothing.
use mathlib.Core.Path.{◌≡◌, refl, sym, subst}
use Prim.Native.Nat.{ℕ, zero, suc, ◌+◌, ◌*◌, ◌-◌, ◌^◌, ◌≤◌, ◌<◌}
use native.Mathlib.Nat.{mul-le-mul}
use native.Mathlib.Omega.{arith}
use lib.Dec.{T, ltb, leb, ltb→lt, leb→le, le→leb}
use lib.IntN.{ℤ, pos, negsuc, neg_ℤ, nat_abs, sub_ℕ, ◌+ℤ◌, ◌-ℤ◌, ◌*ℤ◌}
use lib.Signed.{mag, ◌≤ℤ◌}
use mir.Syntax.{Width, w32, w64}
use mir.Val.{SFits, hbits, to_z, of_z}
use mir.Facts.{to_z-of_z}
use Rattle.ints.specs.InsideRange.{Within}
use Rattle.ints.proofs.Diff.{◌⊖◌, ⊖-laws, ind2, sub-ind}

-- ---- size and order at differences

pub abs-⊖ : (a b k : ℕ) → a ≤ b + k → b ≤ a + k → nat_abs (a ⊖ b) ≤ k
unfolding ◌⊖◌
abs-⊖ a b k h j = sub-ind a b (λ z. nat_abs z ≤ k) (λ l. omega arith) (λ l. omega arith)

pub ⊖-abs : (a b k : ℕ) → nat_abs (a ⊖ b) ≤ k → (a ≤ b + k) × (b ≤ a + k)
unfolding ◌⊖◌
⊖-abs a b k = sub-ind a b (λ z. nat_abs z ≤ k → (a ≤ b + k) × (b ≤ a + k)) (λ l h. omega arith) (λ l h. omega arith)

pub abs_is : (a b : ℕ) → nat_abs (a ⊖ b) ≡ (a - b) + (b - a)
unfolding ◌⊖◌
abs_is a b = sub-ind a b (λ z. nat_abs z ≡ (a - b) + (b - a)) (λ l. omega arith) (λ l. omega arith)

pub le-⊖ : (a b c d : ℕ) → a + d ≤ c + b → a ⊖ b ≤ℤ c ⊖ d
unfolding ◌⊖◌
le-⊖ a b c d h =
    sub-ind a b (λ z. z ≤ℤ sub_ℕ c d)
    (λ l. sub-ind c d (λ z. negsuc (b - suc a) ≤ℤ z) (λ k. record { le = le→leb (d - suc c) (b - suc a) (omega arith) }) (λ k. record { le = tt }))
    (λ l. sub-ind c d (λ z. pos (a - b) ≤ℤ z) (λ k. absurd (omega arith)) (λ k. record { le = le→leb (a - b) (c - d) (omega arith) }))

pub ⊖-le : (a b c d : ℕ) → a ⊖ b ≤ℤ c ⊖ d → a + d ≤ c + b
unfolding ◌⊖◌
⊖-le a b c d =
    sub-ind a b (λ z. z ≤ℤ sub_ℕ c d → a + d ≤ c + b)
    (λ l. sub-ind c d (λ z. negsuc (b - suc a) ≤ℤ z → a + d ≤ c + b) (λ k h. omega (arith, leb→le (d - suc c) (b - suc a) h.le)) (λ k h. omega arith))
    (λ l. sub-ind c d (λ z. pos (a - b) ≤ℤ z → a + d ≤ c + b) (λ k h. absurd h.le) (λ k h. omega (arith, leb→le (a - b) (c - d) h.le)))

-- ---- nat_abs

pub nat_abs-neg : (x : ℤ) → nat_abs (neg_ℤ x) ≡ nat_abs x
nat_abs-neg (pos zero) = refl
nat_abs-neg (pos (suc n)) = refl
nat_abs-neg (negsuc n) = refl

pub nat_abs_mul : (x y : ℤ) → nat_abs (x *ℤ y) ≡ nat_abs x * nat_abs y
nat_abs_mul (pos a) (pos b) = refl
nat_abs_mul (pos a) (negsuc b) = nat_abs-neg (pos (a * suc b))
nat_abs_mul (negsuc a) (pos b) = nat_abs-neg (pos (suc a * b))
nat_abs_mul (negsuc a) (negsuc b) = refl

-- a sum is within the sum of the sizes' bounds
pub abs-add : (x y : ℤ) (h k : ℕ) → nat_abs x ≤ h → nat_abs y ≤ k → nat_abs (x +ℤ y) ≤ h + k
abs-add x y h k = ind2 (λ x y. nat_abs x ≤ h → nat_abs y ≤ k → nat_abs (x +ℤ y) ≤ h + k)
    (λ a b c d p q. simp ⊖-laws (abs-⊖ _ _ _ (omega (arith, ⊖-abs a b h p, ⊖-abs c d k q)) (omega (arith, ⊖-abs a b h p, ⊖-abs c d k q)))) x y

pub abs_neg : (x : ℤ) (h : ℕ) → nat_abs x ≤ h → nat_abs (neg_ℤ x) ≤ h
abs_neg x h p = omega (arith, nat_abs-neg x)

pub abs-sub : (x y : ℤ) (h k : ℕ) → nat_abs x ≤ h → nat_abs y ≤ k → nat_abs (x -ℤ y) ≤ h + k
abs-sub x y h k p q = abs-add x (neg_ℤ y) h k p (abs_neg y k q)

pub abs-mul : (x y : ℤ) (h k : ℕ) → nat_abs x ≤ h → nat_abs y ≤ k → nat_abs (x *ℤ y) ≤ h * k
abs-mul x y h k p q = subst (λ (n : ℕ). n ≤ h * k) (sym (nat_abs_mul x y)) (mul-le-mul p q)

-- ---- ranges of a signed width

pub mag-le : (x : ℤ) → mag x ≤ nat_abs x
mag-le (pos n) = omega arith
mag-le (negsuc n) = omega arith

pub sfits-abs : {w : Width} (x : ℤ) → nat_abs x < 2 ^ hbits w → SFits w x
sfits-abs x h = record { sfits = omega (arith, mag-le x) }

-- a size below 2 ^ 63 fits an i64
pub fits64 : (x : ℤ) → nat_abs x < 2 ^ 63 → SFits w64 x
fits64 x h = sfits-abs {w = w64} x h

-- ---- the same as records, whose numbers are found

pub w-add : {x y : ℤ} {h k : ℕ} → Within x h → Within y k → Within (x +ℤ y) (h + k)
w-add {x} {y} {h} {k} p q = record { within = abs-add x y h k p.within q.within }

pub w-sub : {x y : ℤ} {h k : ℕ} → Within x h → Within y k → Within (x -ℤ y) (h + k)
w-sub {x} {y} {h} {k} p q = record { within = abs-sub x y h k p.within q.within }

pub w-mul : {x y : ℤ} {h k : ℕ} → Within x h → Within y k → Within (x *ℤ y) (h * k)
w-mul {x} {y} {h} {k} p q = record { within = abs-mul x y h k p.within q.within }

pub w-neg : {x : ℤ} {h : ℕ} → Within x h → Within (neg_ℤ x) h
w-neg {x} {h} p = record { within = abs_neg x h p.within }

-- a literal: `w-lit tt`
pub w-lit : {x : ℤ} {k : ℕ} → T (leb (nat_abs x) k) → Within x k
w-lit t = record { within = leb→le _ _ t }

-- a larger bound; at literals `w-up p (lit≤ tt)`
pub w-up : {x : ℤ} {h k : ℕ} → Within x h → h ≤ k → Within x k
w-up p l = record { within = omega (arith, p.within) }

-- a bound that computes below 2 ^ 63: `w_fits p tt`
pub w_fits : {x : ℤ} {k : ℕ} → Within x k → T (ltb k (2 ^ 63)) → SFits w64 x
w_fits {x} {k} p t = fits64 x (omega (arith, p.within, ltb→lt k (2 ^ 63) t))

-- a bound below 2 ^ 63 by a proof: `w-fits' p (omega arith)`
pub w-fits' : {x : ℤ} {k : ℕ} → Within x k → k < 2 ^ 63 → SFits w64 x
w-fits' {x} p l = fits64 x (omega (arith, p.within))

-- what is read back from the bits of a number that is within a bound: `w-read p tt`
pub w-read : {x : ℤ} {k : ℕ} → Within x k → T (ltb k (2 ^ 63)) → to_z w64 (of_z w64 x) ≡ x
w-read p t = to_z-of_z (w_fits p t)

-- the same of 32 bits
pub w-fits32 : {x : ℤ} {k : ℕ} → Within x k → T (ltb k (2 ^ 31)) → SFits w32 x
w-fits32 {x} {k} p t = sfits-abs {w = w32} x (omega (arith, p.within, ltb→lt k (2 ^ 31) t))

pub w-read32 : {x : ℤ} {k : ℕ} → Within x k → T (ltb k (2 ^ 31)) → to_z w32 (of_z w32 x) ≡ x
w-read32 p t = to_z-of_z (w-fits32 p t)
