-- Numbers in their bytes, computed. Assumes nothing.
use Rattle.std.specs.Prelude.{◌≡◌, refl, [], ◌∷◌, pos, negsuc}
use Rattle.ints.specs.Table.{tab}
use Rattle.numbers.specs.Bytes.{lowest_first, bytes_of, numbers, encoded}

-- -73 and 4,000,000,000
minus-73 : encoded (negsuc 72 ∷ pos 4000000000 ∷ []) ≡ 0xB7 ∷ 0xFF ∷ 0xFF ∷ 0xFF ∷ 0xFF ∷ 0xFF ∷ 0xFF ∷ 0xFF ∷ 0x00 ∷ 0x28 ∷ 0x6B ∷ 0xEE ∷ 0 ∷ 0 ∷ 0 ∷ 0 ∷ []
unfolding encoded bytes_of
minus-73 = refl

read-73 : numbers (0xB7 ∷ 0xFF ∷ 0xFF ∷ 0xFF ∷ 0xFF ∷ 0xFF ∷ 0xFF ∷ 0xFF ∷ 0x00 ∷ 0x28 ∷ 0x6B ∷ 0xEE ∷ 0 ∷ 0 ∷ 0 ∷ 0 ∷ []) ≡ negsuc 72 ∷ pos 4000000000 ∷ []
unfolding lowest_first tab
read-73 = refl

-- the least number
least : numbers (0 ∷ 0 ∷ 0 ∷ 0 ∷ 0 ∷ 0 ∷ 0 ∷ 0x80 ∷ []) ≡ negsuc 0x7FFFFFFFFFFFFFFF ∷ []
unfolding lowest_first tab
least = refl
