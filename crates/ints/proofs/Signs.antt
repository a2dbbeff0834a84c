-- A number by its sign and its size. Assumes nothing.
use mathlib.Core.Path.{◌≡◌, refl, sym, ap, ◌∙◌}
use mathlib.Core.Bool.{Bool, true, false}
use Prim.Native.Nat.{ℕ, zero, suc, ◌+◌, ◌*◌, ◌/◌}
use native.Mathlib.Nat.{zero-div}
use native.Mathlib.Omega.{arith}
use lib.IntN.{ℤ, pos, negsuc, neg_ℤ, nat_abs, ◌+ℤ◌, ◌*ℤ◌, neg_ℤ-+ℤ}
use lib.Signed.{quot_z}
use borrow.Author.Tests.{le-ltb}
use Rattle.ints.specs.Number.{below0, signed}
use Rattle.ints.specs.Sum.{sum_to, sum_nat}
use Rattle.ints.proofs.Sizes.{nat_abs-neg}

pub signed_is : (x : ℤ) → signed (below0 x) (nat_abs x) ≡ x
signed_is (pos n) = ap (λ (b : Bool). signed b n) (le-ltb n 0 (omega arith))
signed_is (negsuc n) = refl

pub size-signed : (b : Bool) (n : ℕ) → nat_abs (signed b n) ≡ n
size-signed true n = nat_abs-neg (pos n)
size-signed false n = refl

pub signed-zero : (b : Bool) → signed b 0 ≡ pos 0
signed-zero true = refl
signed-zero false = refl

pub signed_add : (b : Bool) (m n : ℕ) → signed b (m + n) ≡ signed b m +ℤ signed b n
signed_add true m n = neg_ℤ-+ℤ (pos m) (pos n)
signed_add false m n = refl

-- numbers of one sign add up by their sizes
pub signed-sum : (b : Bool) (f : ℕ → ℕ) (n : ℕ) → sum_to (λ i. signed b (f i)) n ≡ signed b (sum_nat f n)
unfolding sum_to sum_nat
signed-sum b f zero = sym (signed-zero b)
signed-sum b f (suc n) = ap (λ (z : ℤ). z +ℤ signed b (f n)) (signed-sum b f n) ∙ sym (signed_add b (sum_nat f n) (f n))

-- a quotient cut toward zero is the sizes' quotient, with the sign
pub signed_quotient : (x : ℤ) (s t : ℕ) → quot_z (x *ℤ pos s) (pos t) ≡ signed (below0 x) (nat_abs x * s / t)
signed_quotient (pos n) s t = ap (λ (b : Bool). signed b (n * s / t)) (sym (le-ltb n 0 (omega arith)))
signed_quotient (negsuc n) s t = minus (suc n * s)
  where
    minus : (m : ℕ) → quot_z (neg_ℤ (pos m)) (pos t) ≡ neg_ℤ (pos (m / t))
    minus zero = ap pos (zero-div t) ∙ sym (ap (λ (k : ℕ). neg_ℤ (pos k)) (zero-div t))
    minus (suc m) = refl
