-- Two's complement there and back, at every width. Assumes nothing.
use mathlib.Core.Path.{◌≡◌, refl, ap}
use mathlib.Core.Bool.{Bool, true, false}
use Prim.Native.Nat.{ℕ, suc, ◌*◌, ◌-◌, ◌^◌, ◌≤◌, ◌<◌}
use native.Mathlib.Omega.{arith}
use lib.Dec.{ltb}
use lib.IntN.{ℤ, pos, negsuc}
use borrow.Author.Tests.{lt-ltb, le-ltb}
use Rattle.ints.specs.Refusal.{pick}
use Rattle.ints.specs.Twos.{twos, bits_of, InBits}

-- the bits of the number that bits stand for are these bits
pub bits-twos : (width u : ℕ) → u < 2 ^ width → bits_of width (twos width u) ≡ u
bits-twos width u h = half (ltb u (2 ^ (width - 1)))
  where
    half : (b : Bool) → bits_of width (pick b (pos u) (negsuc (2 ^ width - suc u))) ≡ u
    half true = refl
    half false = omega arith

-- `twice` computes at a literal width
module _ (width : ℕ) (twice : 2 ^ width ≡ 2 * 2 ^ (width - 1)) where
  -- the bits of such a number stand for it
  pub twos-bits : (z : ℤ) → InBits width z → twos width (bits_of width z) ≡ z
  twos-bits (pos n) h = simp (lt-ltb n (2 ^ (width - 1)) h)
  twos-bits (negsuc n) h =
      let g : 2 ^ (width - 1) ≤ 2 ^ width - suc n = omega arith in
      let e : 2 ^ width - suc (2 ^ width - suc n) ≡ n = omega arith in
      simp (le-ltb (2 ^ width - suc n) (2 ^ (width - 1)) g) (ap negsuc e)

  -- they are so many
  pub bits_below : (z : ℤ) → InBits width z → bits_of width z < 2 ^ width
  bits_below (pos n) h = omega arith
  bits_below (negsuc n) h = omega arith
