-- Numbers, and lists of numbers, within a bound, as proofs hand them on. Assumes nothing.
use Rattle.std.specs.Prelude.{List, ℕ, ◌≤◌, ℤ, nat_abs, length}
use Rattle.ints.specs.Table.{◌at◌}

-- -k ≤ x ≤ k. A record, so that x and k are found from a proof of it.
pub record Within (x : ℤ) (k : ℕ) : Type 0 where
  pub within : nat_abs x ≤ k

-- every number of the list is -k to k
pub record InRange (xs : List ℤ) (k : ℕ) : Type 0 where
  pub each : (i : ℕ) → Within (xs at i) k

-- a list whose sum fits 64 bits: at most 64 numbers, none larger than a participant's cents of an hour can be
pub record Short (list : List ℤ) : Type 0 where
  pub few : length list ≤ 64
  pub each : InRange list 230584300921368
