-- A table of 64 rows of n numbers, one after the other, and what is added in it: for proofs and loops, not to be believed. Assumes nothing.
use Rattle.std.specs.Prelude.{◌≡◌, List, ℕ, ◌*◌, ◌≤◌, ◌<◌, eqb, ℤ, ◌+ℤ◌, length}
use Rattle.ints.specs.InsideRange.{Within}
use Rattle.ints.specs.Sum.{sum_to, only}
use Rattle.ints.specs.Table.{◌at◌}
use Rattle.load.specs.Load.{cell}

-- the first n of a list are within a bound
pub record FrontWithin (list : List ℤ) (n k : ℕ) : Type 0 where
  pub each : (i : ℕ) → i < n → Within (list at i) k

-- n parts can be added, part i to the number at `place i`: these are there, and no sum is too large
pub record Room (table : List ℤ) (place : ℕ → ℕ) (parts : List ℤ) (n : ℕ) : Type 0 where
  pub few : n ≤ 64
  pub given : n ≤ length parts
  pub within : (i : ℕ) → i < n → place i < length table
  pub before : (i : ℕ) → i < n → Within (table at place i) 1000000000000
  pub small : FrontWithin parts n 1000000000000

-- n parts were added to these
pub record Spread (before : List ℤ) (place : ℕ → ℕ) (parts : List ℤ) (n : ℕ) (after : List ℤ) : Type 0 where
  pub same : length after ≡ length before
  pub each : (k : ℕ) → after at k ≡ before at k +ℤ sum_to (λ i. only (eqb (place i) k) (parts at i)) n

-- each number of the 64 rows is within a bound
pub record Cells (n : ℕ) (table : List ℤ) (k : ℕ) : Type 0 where
  pub each : (p b : ℕ) → p < 64 → b < n → Within (cell n table p b) k

-- f p b was added in row p at column b, of 64 rows, and nothing past them
pub record AddedCells (n : ℕ) (f : ℕ → ℕ → ℤ) (before after : List ℤ) : Type 0 where
  pub same : length after ≡ length before
  pub each : (p b : ℕ) → p < 64 → b < n → cell n after p b ≡ cell n before p b +ℤ f p b
  pub past : (k : ℕ) → 64 * n ≤ k → after at k ≡ before at k
