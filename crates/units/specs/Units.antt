-- How one unit becomes another (document 01): a charge in twelfths of a millionth of a dollar is rounded to cents. The charges themselves, kW times mills, are in crate
-- `hour`, specs/Charges, in the tariff's letters. Assumes nothing.
use Rattle.std.specs.Prelude.{ℕ, ◌+◌, ◌/◌, ℤ, nat_abs}
use Rattle.ints.specs.Number.{below0, signed}

-- "Units and sizes": "A cent is 120,000 of these"
abbrev pub cent : ℕ
cent = 120000

-- "Charges": "rounded once, to the nearest cent, halves away from zero".
-- Of a size: half a cent is added, and the sum cut down to whole cents
abbrev pub whole_cents : ℕ → ℕ
whole_cents size = (size + cent / 2) / cent

-- Of an amount: its size is rounded, and its sign put back
unfoldable pub cents_of : ℤ → ℤ
cents_of amount = signed (below0 amount) (whole_cents (nat_abs amount))
