-- What the functions that work out the parts of a size hand to one another. Assumes nothing.
use Rattle.std.specs.Prelude.{◌≡◌, ◌⊎◌, List, ℕ, ◌+◌, ◌*◌, ◌-◌, ◌≤◌, ◌<◌, ℤ, get_or, take}
use Rattle.ints.specs.Table.{tab}
use Rattle.split.specs.Split.{total}
use Rattle.split.specs.Inside.{Shares}

-- shares and a size that passed the tests, and the total, which is 0 only where the size is
pub record SizeGiven (size : ℕ) (shares : List ℤ) (t : ℕ) : Type 0 where
  pub tested : Shares shares
  pub small : size ≤ 1000000000
  pub is : t ≡ total shares
  pub some : (0 < t) ⊎ (size ≡ 0)

-- a remainder and its party's number in one: whoever has the larger key comes before
abbrev pub key_of : (ℕ → ℕ) → ℕ → ℕ
key_of r i = 64 * r i + (64 - i)

-- n keys by their remainders, and behind them what was there before
pub record Keyed (r : ℕ → ℕ) (n : ℕ) (before keys : List ℕ) : Type 0 where
  pub made : take n keys ≡ tab (key_of r) n
  pub rest : (i : ℕ) → n ≤ i → get_or keys i 0 ≡ get_or before i 0
