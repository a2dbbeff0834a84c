-- The leaves of the code: kW at a price in mills per MWh, charged in twelfths of a millionth of a dollar. Assumes nothing.
use Rattle.std.specs.Prelude.{ℤ, pos, ◌*ℤ◌}

-- "Units and sizes": "kW times mills is a millionth of a dollar for a full hour", so a twelfth of one for each of its 12 intervals.
-- The charge, in twelfths, for kW withdrawn less kW injected: of one interval at its price, and of the whole hour at the weight `whole_hour` of its price
abbrev pub charge_of : ℤ → ℤ → ℤ
charge_of kw mills = kw *ℤ mills

-- "Units and sizes": "Real time has 12 intervals". A price for the whole hour weighs as much as in all of them
abbrev pub whole_hour : ℤ → ℤ
whole_hour mills = pos 12 *ℤ mills
