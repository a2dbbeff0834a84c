-- What the functions know of prices and weights. Assumes nothing.
use Rattle.std.specs.Prelude.{◌≡◌, List, ℕ, ◌+◌, ◌*◌, ◌≤◌, ◌<◌, ℤ, length}
use Rattle.ints.specs.InsideRange.{Within, InRange}
use Rattle.ints.specs.Table.{◌at◌}

-- 13 prices for each of so many locations, one day-ahead and 12 in real time, every one in its range
pub record Listed (locations : ℕ) (list : List ℤ) : Type 0 where
  pub few : locations ≤ 64
  pub long : length list ≡ 13 * locations
  pub range : InRange list 5000000

-- the same of one location: of the others, some may be weights by then
pub record Column (locations l : ℕ) (list : List ℤ) : Type 0 where
  pub few : locations ≤ 64
  pub long : length list ≡ 13 * locations
  pub there : l < locations
  pub each : (k : ℕ) → k < 13 → Within (list at (k * locations + l)) 5000000

-- 13 weights for each, within 24 times the largest price
pub record Table (locations : ℕ) (table : List ℤ) : Type 0 where
  pub few : locations ≤ 64
  pub long : length table ≡ 13 * locations
  pub range : InRange table 120000000
