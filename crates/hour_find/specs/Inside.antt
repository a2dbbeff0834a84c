-- A list of zeros, one for each participant. Assumes nothing.
use Rattle.std.specs.Prelude.{◌≡◌, List, ℕ, ℤ, length}
use Rattle.ints.specs.InsideRange.{InRange}

pub record Empty (participants : ℕ) (totals : List ℤ) : Type 0 where
  pub each : length totals ≡ participants
  pub none : InRange totals 0
