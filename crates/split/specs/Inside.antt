-- Shares that passed the tests, as the proofs hand them on. Assumes nothing.
use Rattle.std.specs.Prelude.{◌≡◌, List, ℕ, ◌≤◌, ℤ, pos, length}
use Rattle.ints.specs.Table.{◌at◌}
use Rattle.split.specs.Split.{share}

-- at most 64, each 0 to 4,000,000,000
pub record Shares (shares : List ℤ) : Type 0 where
  pub few : length shares ≤ 64
  pub most : (i : ℕ) → share shares i ≤ 4000000000
  pub natural : (i : ℕ) → shares at i ≡ pos (share shares i)
