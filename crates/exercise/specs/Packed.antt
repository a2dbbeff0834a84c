-- Packed fields (document 01, "The exercise file"): "Fields are packed, most significant bit first." Assumes nothing.
use Rattle.std.specs.Prelude.{List, [], ◌∷◌, ℕ, zero, suc, ◌+◌, ◌*◌, ◌/◌, ◌%◌, ◌^◌, get_or}

-- the `size` bytes from byte k on as one number, the first byte highest
unfoldable pub bytes_at : List ℕ → ℕ → ℕ → ℕ
bytes_at s k zero = 0
bytes_at s k (suc size) = 256 * bytes_at s k size + get_or s (k + size) 0

-- how many bits fields of these widths have together
abbrev pub bits_in : List ℕ → ℕ
bits_in [] = 0
bits_in (width ∷ widths) = width + bits_in widths

-- field j of a number packed by these widths: the first stands above the bits of the others
abbrev pub field_at : List ℕ → ℕ → ℕ → ℕ
field_at [] v j = 0
field_at (width ∷ widths) v zero = v / 2 ^ bits_in widths % 2 ^ width
field_at (width ∷ widths) v (suc j) = field_at widths v j
