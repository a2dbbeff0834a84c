-- A list of numbers in bytes (document 01, "The exercise file"): "A list crosses as eight bytes a number, two's complement, lowest byte first".
-- Assumes nothing.
use Rattle.std.specs.Prelude.{List, [], ◌∷◌, ◌++◌, ℕ, zero, suc, ◌+◌, ◌*◌, ◌/◌, ◌%◌, ◌<◌, ℤ, length, get_or, take, drop}
use Rattle.ints.specs.Table.{tab}
use Rattle.ints.specs.Twos.{twos, bits_of}

-- what a slice of bytes holds: each below 256
pub record Bytes (s : List ℕ) : Type 0 where
  pub each : (i : ℕ) → i < length s → get_or s i 0 < 256

-- the number that bytes stand for, the lowest byte first
unfoldable pub lowest_first : List ℕ → ℕ
lowest_first [] = 0
lowest_first (b ∷ bs) = b + 256 * lowest_first bs

-- the `count` lowest bytes of a number, lowest first
unfoldable pub bytes_of : ℕ → ℕ → List ℕ
bytes_of zero u = []
bytes_of (suc count) u = u % 256 ∷ bytes_of count (u / 256)

-- eight bytes as a number, and a number as eight bytes
abbrev pub number : List ℕ → ℤ
number bytes = twos 64 (lowest_first bytes)

abbrev pub eight : ℤ → List ℕ
eight z = bytes_of 8 (bits_of 64 z)

-- the number at i
abbrev pub number_at : List ℕ → ℕ → ℤ
number_at s i = number (take 8 (drop (8 * i) s))

-- the list that bytes stand for, and the bytes of a list
abbrev pub numbers : List ℕ → List ℤ
numbers s = tab (number_at s) (length s / 8)

unfoldable pub encoded : List ℤ → List ℕ
encoded [] = []
encoded (z ∷ zs) = eight z ++ encoded zs
