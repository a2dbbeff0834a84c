-- Sign and range of a number. Assumes nothing.
use Rattle.std.specs.Prelude.{Bool, true, false, ◌&&◌, ℕ, ℤ, pos, neg_ℤ}
use Rattle.std.specs.Int.Signed.{lt_z, le_z}

-- x is below 0
abbrev pub below0 : ℤ → Bool
below0 x = lt_z x (pos 0)

-- the number of a sign (true: below 0) and a size
abbrev pub signed : Bool → ℕ → ℤ
signed true size = neg_ℤ (pos size)
signed false size = pos size

-- x is low to high, both included
abbrev pub between : ℤ → ℤ → ℤ → Bool
between low high x = le_z low x && le_z x high
