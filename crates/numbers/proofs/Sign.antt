-- What the test `v < 0` tells of an `i64`: which constructor it is, with its size, and what the machine reads from its bits.
-- Assumes nothing.
use mathlib.Core.Path.{◌≡◌, refl, ap, ◌∙◌}
use mathlib.Core.Bool.{Bool, true, false}
use Prim.Native.Nat.{ℕ, suc, ◌<◌, ◌-◌, ◌^◌}
use native.Mathlib.Omega.{arith}
use lib.IntN.{ℤ, pos, negsuc}
use lib.Signed.{lt_z}
use mir.Syntax.{w64}
use mir.Val.{SFits, to_z, of_z}
use mir.Facts.{to_z-of_z, to_z_pos}
use borrow.Author.Tests.{ltb-true}
use Rattle.ints.specs.Twos.{bits_of}

pub record Negative (z : ℤ) : Type 0 where
  pub size : ℕ
  pub small : size < 2 ^ 63
  pub form : z ≡ negsuc size
  pub bits : bits_of 64 z ≡ 18446744073709551615 - size
  pub flip : to_z w64 (18446744073709551615 - of_z w64 z) ≡ pos size

pub record Positive (z : ℤ) : Type 0 where
  pub size : ℕ
  pub small : size < 2 ^ 63
  pub form : z ≡ pos size
  pub bits : bits_of 64 z ≡ size
  pub same : to_z w64 (of_z w64 z) ≡ pos size

flipped : (n : ℕ) → n < 2 ^ 63 → to_z w64 (18446744073709551615 - (2 ^ 64 - suc n)) ≡ pos n
flipped n h =
    let e : 18446744073709551615 - (2 ^ 64 - suc n) ≡ n = omega arith in
    ap (to_z w64) e ∙ to_z_pos w64 h

sign-neg : (z : ℤ) → SFits w64 z → lt_z z (pos 0) ≡ true → Negative z
sign-neg (pos n) f t = absurd (let h : n < 0 = ltb-true n 0 t in omega arith)
sign-neg (negsuc n) f t = record { size = n; small = f.sfits; form = refl; bits = omega arith; flip = flipped n f.sfits }

sign_pos : (z : ℤ) → SFits w64 z → lt_z z (pos 0) ≡ false → Positive z
sign_pos (pos n) f t = record { size = n; small = f.sfits; form = refl; bits = refl; same = to_z_pos w64 f.sfits }
sign_pos (negsuc n) f t = absurd (let z : ◌≡◌ {A = Bool} true false = t in let q : ◌≡◌ {A = ℕ} 0 1 = cc in omega arith)

pub negative : (z : ℤ) → SFits w64 z → lt_z (to_z w64 (of_z w64 z)) (pos 0) ≡ true → Negative z
negative z f t = sign-neg z f (rw (to_z-of_z f) at t)

pub positive : (z : ℤ) → SFits w64 z → lt_z (to_z w64 (of_z w64 z)) (pos 0) ≡ false → Positive z
positive z f t = sign_pos z f (rw (to_z-of_z f) at t)
