-- What the functions know of the page and the lists that they hand to one another. Assumes nothing.
use Rattle.std.specs.Prelude.{◌≡◌, List, ℕ, ◌≤◌, ℤ, length}
use Rattle.ints.specs.InsideRange.{Short}

-- four lists of an hour, a number for each of up to 64 participants, small enough to be summed, and a page of so many bytes, with room for 65 lines of 105
pub record Printable (page : ℕ) (congestion loss credit net : List ℤ) : Type 0 where
  pub loss-each : length loss ≡ length congestion
  pub credit-each : length credit ≡ length congestion
  pub net-each : length net ≡ length congestion
  pub congestion-short : Short congestion
  pub loss-short : Short loss
  pub credit-short : Short credit
  pub net-short : Short net
  pub room : 6825 ≤ page
