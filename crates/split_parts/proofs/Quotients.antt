-- The quotient of a split by the ratio of size to total, in parts of 2^34. Assumes nothing.
use mathlib.Core.Path.{◌≡◌, sym, ap}
use Prim.Native.Nat.{ℕ, ◌+◌, ◌*◌, ◌-◌, ◌/◌, ◌%◌, ◌≤◌, ◌<◌}
use native.Mathlib.Nat.{div-add-mod, div-eq_of_lt-le, lt-mul-div-succ, mul-div-le, mul-le-mul_left, mul-le-mul_right}
use native.Mathlib.Omega.{arith}

-- a quotient and a remainder by what they make
divided : (p t q r : ℕ) → p ≡ q * t + r → r < t → (q ≡ p / t) × (r ≡ p % t)
divided p t q r e l = (sym whole, omega (arith, div-add-mod p t, ap (λ (x : ℕ). t * x) whole))
  where
    whole : p / t ≡ q
    whole = div-eq_of_lt-le t (omega arith) (omega arith)

module _ (size share total ratio : ℕ) (part : share ≤ total) (some : 0 < total) (short : share ≤ 17179869184) (is : ratio ≡ size * 17179869184 / total) where
  abbrev low : ℕ
  low = ratio * share / 17179869184

  -- the ratio is cut down
  ratio-most : total * ratio ≤ size * 17179869184
  ratio-most = omega (arith, ap (λ (x : ℕ). total * x) is, mul-div-le (size * 17179869184) total)

  ratio-least : size * 17179869184 ≤ total * ratio + total
  ratio-least = omega (arith, ap (λ (x : ℕ). total * x) is, lt-mul-div-succ (size * 17179869184) some)

  pub product-most : ratio * share ≤ size * 17179869184
  product-most = omega (arith, mul-le-mul_left ratio part, ratio-most)

  -- what it gives is not too large
  pub low-most : low * total ≤ size * share
  low-most = omega (arith, mul-le-mul_right total (mul-div-le (ratio * share) 17179869184), mul-le-mul_right share ratio-most)

  -- and one too small at most
  low-least : size * share - low * total < total + total
  low-least = omega (arith, mul-le-mul_right share ratio-least, mul-le-mul_right total next)
    where
      next : ratio * share + share + 1 ≤ 17179869184 * low + 17179869184 + 17179869184
      next = omega (arith, lt-mul-div-succ (ratio * share) {b = 17179869184} (omega arith))

  pub as-it-is : size * share - low * total < total → (low ≡ size * share / total) × (size * share - low * total ≡ size * share % total)
  as-it-is h = divided (size * share) total low (size * share - low * total) (omega (arith, low-most)) h

  pub mended : total ≤ size * share - low * total → (low + 1 ≡ size * share / total) × (size * share - low * total - total ≡ size * share % total)
  mended h = divided (size * share) total (low + 1) (size * share - low * total - total) (omega (arith, low-most)) (omega (arith, low-least))
