-- Two's complement at a width. Assumes nothing.
use Rattle.std.specs.Prelude.{ℕ, suc, ◌-◌, ◌^◌, ◌<◌, ltb, ℤ, pos, negsuc}
use Rattle.ints.specs.Refusal.{pick}

-- the number that the bits of u stand for: u in the lower half of the patterns, and u - 2 ^ width in the upper
abbrev pub twos : ℕ → ℕ → ℤ
twos width u = pick (ltb u (2 ^ (width - 1))) (pos u) (negsuc (2 ^ width - suc u))

-- the bits of a number
abbrev pub bits_of : ℕ → ℤ → ℕ
bits_of width (pos n) = n
bits_of width (negsuc n) = 2 ^ width - suc n

-- a number that so many bits hold: -2 ^ (width - 1) to 2 ^ (width - 1) - 1
abbrev pub InBits : ℕ → ℤ → Type 0
InBits width (pos n) = n < 2 ^ (width - 1)
InBits width (negsuc n) = n < 2 ^ (width - 1)
