-- ℤ by differences of naturals, which `omega` reads: a law of ℤ from the same law at differences. Assumes nothing.
use mathlib.Core.Path.{◌≡◌, sym, ap, ap₂, ◌∙◌, subst}
use mathlib.Core.Bool.{Bool, true, false, not, cond}
use Prim.Native.Nat.{ℕ, zero, suc, ◌+◌, ◌*◌, ◌-◌, ◌≤◌, ◌<◌}
use native.Mathlib.Omega.{arith}
use lib.Dec.{T, ltb, ltb→lt, nltb→le}
use lib.IntN.{ℤ, pos, negsuc, neg_ℤ, sub_ℕ, ◌+ℤ◌, ◌*ℤ◌}

-- what a difference is, by cases
pub sub-ind : (a b : ℕ) (P : ℤ → Type 0) → (a < b → P (negsuc (b - suc a))) → (b ≤ a → P (pos (a - b))) → P (sub_ℕ a b)
sub-ind a b P f g = go (ltb a b) (λ t. f (ltb→lt a b t)) (λ t. g (nltb→le a b t))
  where
    go : (c : Bool) → (T c → P (negsuc (b - suc a))) → (T (not c) → P (pos (a - b))) → P (cond c (negsuc (b - suc a)) (pos (a - b)))
    go true f g = f tt
    go false f g = g tt

-- the positive and the negative part
unfoldable pub up : ℤ → ℕ
up (pos n) = n
up (negsuc n) = 0

unfoldable pub dn : ℤ → ℕ
dn (pos n) = 0
dn (negsuc n) = suc n

-- equal differences
pub sub-eq : (a b c d : ℕ) → a + d ≡ c + b → sub_ℕ a b ≡ sub_ℕ c d
sub-eq a b c d e =
    sub-ind a b (λ z. z ≡ sub_ℕ c d)
    (λ h. sub-ind c d (λ z. negsuc (b - suc a) ≡ z) (λ k. ap negsuc (omega arith)) (λ k. absurd (omega arith)))
    (λ h. sub-ind c d (λ z. pos (a - b) ≡ z) (λ k. absurd (omega arith)) (λ k. ap pos (omega arith)))

pub sub-view : (z : ℤ) → z ≡ sub_ℕ (up z) (dn z)
unfolding up dn
sub-view (pos n) = sub-ind n 0 (λ z. pos n ≡ z) (λ h. absurd (omega arith)) (λ h. ap pos (omega arith))
sub-view (negsuc n) = sub-ind 0 (suc n) (λ z. negsuc n ≡ z) (λ h. ap negsuc (omega arith)) (λ h. absurd (omega arith))

-- a difference whose order is known
pub sub-pos : (b p : ℕ) → sub_ℕ (b + p) b ≡ pos p
sub-pos b p = sub-ind (b + p) b (λ z. z ≡ pos p) (λ h. absurd (omega arith)) (λ h. ap pos (omega arith))

pub sub-neg : (a p : ℕ) → sub_ℕ a (a + suc p) ≡ negsuc p
sub-neg a p = sub-ind a (a + suc p) (λ z. z ≡ negsuc p) (λ h. ap negsuc (omega arith)) (λ h. absurd (omega arith))

-- a number is one difference or the other: to prove P at a − b, prove it at (b + p) − b and at a − (a + p + 1)
pub by_order : (a b : ℕ) (P : ℕ → ℕ → Type 0) → ((p : ℕ) → P (b + p) b) → ((p : ℕ) → P a (a + suc p)) → P a b
by_order a b P f g =
    sub-ind a b (λ z. P a b)
    (λ h. subst (λ (n : ℕ). P a n) (by h) (g (b - suc a)))
    (λ h. subst (λ (n : ℕ). P n b) (by' h) (f (a - b)))
  where
    by : a < b → a + suc (b - suc a) ≡ b
    by h = omega arith

    by' : b ≤ a → b + (a - b) ≡ a
    by' h = omega arith

pub sub-negℤ : (a b : ℕ) → neg_ℤ (sub_ℕ a b) ≡ sub_ℕ b a
sub-negℤ a b = by_order a b (λ a b. neg_ℤ (sub_ℕ a b) ≡ sub_ℕ b a)
    (λ p. ap neg_ℤ (sub-pos b p) ∙ go p)
    (λ p. ap neg_ℤ (sub-neg a p) ∙ sym (sub-pos a (suc p)))
  where
    go : (p : ℕ) → neg_ℤ (pos p) ≡ sub_ℕ b (b + p)
    go zero = sym (sub-ind b (b + 0) (λ z. z ≡ pos 0) (λ h. absurd (omega arith)) (λ h. ap pos (omega arith)))
    go (suc p) = sym (sub-neg b p)

-- the same, where the order is known by an equation
pub sub-is-pos : (a b n : ℕ) → a ≡ b + n → sub_ℕ a b ≡ pos n
sub-is-pos a b n e = sub-ind a b (λ z. z ≡ pos n) (λ h. absurd (omega arith)) (λ h. ap pos (omega arith))

pub sub-is-neg : (a b n : ℕ) → b ≡ a + suc n → sub_ℕ a b ≡ negsuc n
sub-is-neg a b n e = sub-ind a b (λ z. z ≡ negsuc n) (λ h. ap negsuc (omega arith)) (λ h. absurd (omega arith))

pub sub-add : (a b c d : ℕ) → sub_ℕ a b +ℤ sub_ℕ c d ≡ sub_ℕ (a + c) (b + d)
sub-add a b c d = by_order a b (λ a b. sub_ℕ a b +ℤ sub_ℕ c d ≡ sub_ℕ (a + c) (b + d))
    (λ p. by_order c d (λ c d. sub_ℕ (b + p) b +ℤ sub_ℕ c d ≡ sub_ℕ (b + p + c) (b + d))
    (λ q. ap₂ ◌+ℤ◌ (sub-pos b p) (sub-pos d q) ∙ sym (sub-is-pos (b + p + (d + q)) (b + d) (p + q) (omega arith)))
    (λ q. ap₂ ◌+ℤ◌ (sub-pos b p) (sub-neg c q) ∙ sub-eq p (suc q) (b + p + c) (b + (c + suc q)) (omega arith)))
    (λ p. by_order c d (λ c d. sub_ℕ a (a + suc p) +ℤ sub_ℕ c d ≡ sub_ℕ (a + c) (a + suc p + d))
    (λ q. ap₂ ◌+ℤ◌ (sub-neg a p) (sub-pos d q) ∙ sub-eq q (suc p) (a + (d + q)) (a + suc p + d) (omega arith))
    (λ q. ap₂ ◌+ℤ◌ (sub-neg a p) (sub-neg c q) ∙ sym (sub-is-neg (a + c) (a + suc p + (c + suc q)) (suc (p + q)) (omega arith))))

neg-pos : (n : ℕ) → neg_ℤ (pos n) ≡ sub_ℕ 0 n
neg-pos n = ap neg_ℤ (sym (sub-is-pos n 0 n (omega arith))) ∙ sub-negℤ n 0

pub sub-mul : (a b c d : ℕ) → sub_ℕ a b *ℤ sub_ℕ c d ≡ sub_ℕ (a * c + b * d) (a * d + b * c)
sub-mul a b c d = by_order a b (λ a b. sub_ℕ a b *ℤ sub_ℕ c d ≡ sub_ℕ (a * c + b * d) (a * d + b * c))
    (λ p. by_order c d (λ c d. sub_ℕ (b + p) b *ℤ sub_ℕ c d ≡ sub_ℕ ((b + p) * c + b * d) ((b + p) * d + b * c))
    (λ q. ap₂ ◌*ℤ◌ (sub-pos b p) (sub-pos d q) ∙ sym (sub-is-pos ((b + p) * (d + q) + b * d) ((b + p) * d + b * (d + q)) (p * q) (omega arith)))
    (λ q. ap₂ ◌*ℤ◌ (sub-pos b p) (sub-neg c q) ∙ neg-pos (p * suc q) ∙ sub-eq 0 (p * suc q) ((b + p) * c + b * (c + suc q)) ((b + p) * (c + suc q) + b * c) (omega arith)))
    (λ p. by_order c d (λ c d. sub_ℕ a (a + suc p) *ℤ sub_ℕ c d ≡ sub_ℕ (a * c + (a + suc p) * d) (a * d + (a + suc p) * c))
    (λ q. ap₂ ◌*ℤ◌ (sub-neg a p) (sub-pos d q) ∙ neg-pos (suc p * q) ∙ sub-eq 0 (suc p * q) (a * (d + q) + (a + suc p) * d) (a * d + (a + suc p) * (d + q)) (omega arith))
    (λ q. ap₂ ◌*ℤ◌ (sub-neg a p) (sub-neg c q) ∙ sym (sub-is-pos (a * c + (a + suc p) * (c + suc q)) (a * (c + suc q) + (a + suc p) * c) (suc p * suc q) (omega arith))))

-- ---- a law of ℤ from a law at differences. `a ⊖ b` is the difference as a name that stays shut, so that `_` and `simp` find its two numbers

infix 60 ◌⊖◌
unfoldable pub ◌⊖◌ : ℕ → ℕ → ℤ
a ⊖ b = sub_ℕ a b

pub ⊖-eq : (a b c d : ℕ) → a + d ≡ c + b → a ⊖ b ≡ c ⊖ d
unfolding ◌⊖◌
⊖-eq = sub-eq

pub ⊖-neg : (a b : ℕ) → neg_ℤ (a ⊖ b) ≡ b ⊖ a
unfolding ◌⊖◌
⊖-neg = sub-negℤ

pub ⊖-add : (a b c d : ℕ) → a ⊖ b +ℤ c ⊖ d ≡ (a + c) ⊖ (b + d)
unfolding ◌⊖◌
⊖-add = sub-add

pub ⊖-mul : (a b c d : ℕ) → a ⊖ b *ℤ c ⊖ d ≡ (a * c + b * d) ⊖ (a * d + b * c)
unfolding ◌⊖◌
⊖-mul = sub-mul

pub ⊖-view : (x : ℤ) → x ≡ up x ⊖ dn x
unfolding ◌⊖◌
⊖-view = sub-view

pub ruleset ⊖-laws = (⊖-neg, ⊖-add, ⊖-mul)

pub ind1 : (P : ℤ → Type 0) → ((a b : ℕ) → P (a ⊖ b)) → (x : ℤ) → P x
ind1 P f x = subst P (sym (⊖-view x)) (f (up x) (dn x))

pub ind2 : (P : ℤ → ℤ → Type 0) → ((a b c d : ℕ) → P (a ⊖ b) (c ⊖ d)) → (x y : ℤ) → P x y
ind2 P f x y = ind1 (λ x. P x y) (λ a b. ind1 (λ y. P (a ⊖ b) y) (f a b) y) x

pub ind3 : (P : ℤ → ℤ → ℤ → Type 0) → ((a b c d e f : ℕ) → P (a ⊖ b) (c ⊖ d) (e ⊖ f)) → (x y z : ℤ) → P x y z
ind3 P g x y z = ind2 (λ x y. P x y z) (λ a b c d. ind1 (λ z. P (a ⊖ b) (c ⊖ d) z) (g a b c d) z) x y

-- ---- the ring laws that `lib.IntN` lacks

pub *ℤ-assoc : (x y z : ℤ) → (x *ℤ y) *ℤ z ≡ x *ℤ (y *ℤ z)
*ℤ-assoc = ind3 _ (λ a b c d e f. simp ⊖-laws (⊖-eq _ _ _ _ (omega arith)))

pub *ℤ-distl : (x y z : ℤ) → x *ℤ (y +ℤ z) ≡ x *ℤ y +ℤ x *ℤ z
*ℤ-distl = ind3 _ (λ a b c d e f. simp ⊖-laws (⊖-eq _ _ _ _ (omega arith)))

-- a number as a difference: `simp (pos-⊖, negsuc-⊖, ⊖-laws)` brings a term of ℤ to one difference
pub pos-⊖ : (n : ℕ) → pos n ≡ n ⊖ 0
unfolding ◌⊖◌
pos-⊖ n = sym (sub-is-pos n 0 n (omega arith))

pub negsuc-⊖ : (n : ℕ) → negsuc n ≡ 0 ⊖ suc n
unfolding ◌⊖◌
negsuc-⊖ n = sym (sub-is-neg 0 (suc n) n (omega arith))

pub *ℤ-distr : (x y z : ℤ) → (x +ℤ y) *ℤ z ≡ x *ℤ z +ℤ y *ℤ z
*ℤ-distr = ind3 _ (λ a b c d e f. simp ⊖-laws (⊖-eq _ _ _ _ (omega arith)))

pub *ℤ-negl : (x y : ℤ) → neg_ℤ x *ℤ y ≡ neg_ℤ (x *ℤ y)
*ℤ-negl = ind2 _ (λ a b c d. simp ⊖-laws (⊖-eq _ _ _ _ (omega arith)))
