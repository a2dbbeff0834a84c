-- What billing is given. Assumes nothing.
use Rattle.std.specs.Prelude.{◌≡◌, List, ◌≤◌, ℤ, length}
use Rattle.ints.specs.InsideRange.{InRange}
use Rattle.hour.specs.InsideTotals.{most_cents, Natural}

-- the lists of an hour: each has a number for each of the 1 to 64 participants, charges are in cents, and no share is below 0
pub record Lists (congestion loss shares net : List ℤ) : Type 0 where
  pub some : 1 ≤ length shares
  pub few : length shares ≤ 64
  pub congestion-each : length congestion ≡ length shares
  pub loss-each : length loss ≡ length shares
  pub net-each : length net ≡ length shares
  pub congestion-cents : InRange congestion most_cents
  pub loss-cents : InRange loss most_cents
  pub natural : Natural shares
