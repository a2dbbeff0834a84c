-- What the code reads and writes on the way. Assumes nothing.
use Rattle.std.specs.Prelude.{Bool, ◌&&◌, List, ◌++◌, ℕ, ◌+◌, ◌*◌, ◌/◌, leb, ℤ, take, drop}
use Rattle.numbers.specs.Bytes.{eight}
use Rattle.numbers.specs.Lists.{whole}

-- the bytes of a list with the number z in place i
abbrev pub with_number : List ℕ → ℕ → ℤ → List ℕ
with_number s i z = take (8 * i) s ++ (eight z ++ drop (8 * i + 8) s)

-- so many bytes are whole numbers, and at most so many
abbrev pub listed : ℕ → ℕ → Bool
listed bytes most = whole bytes && leb (bytes / 8) most
