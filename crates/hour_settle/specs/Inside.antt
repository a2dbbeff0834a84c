-- What the functions that settle an hour hand to one another. Assumes nothing.
use Rattle.std.specs.Prelude.{◌≡◌, List, ℕ, ◌≤◌, ℤ, pos, length}
use Rattle.ints.specs.InsideRange.{InRange}
use Rattle.ints.specs.Table.{tab}
use Rattle.hour.specs.InsideTotals.{Natural}

-- ---- lists of zeros

abbrev pub zeros : ℕ → List ℤ
zeros n = tab (λ _. pos 0) n

-- the lists in which charges and shares are added up
pub record Cleared (congestion loss credit : List ℤ) : Type 0 where
  pub congestion-empty : InRange congestion 0
  pub loss-empty : InRange loss 0
  pub credit-empty : InRange credit 0

-- ---- what billing is given: lists with a number for each of 1 to 64 participants, and no share below 0

pub record Bills (exact_congestion_of exact_loss_of shares net : List ℤ) : Type 0 where
  pub some : 1 ≤ length shares
  pub few : length shares ≤ 64
  pub congestion-each : length exact_congestion_of ≡ length shares
  pub loss-each : length exact_loss_of ≡ length shares
  pub net-each : length net ≡ length shares
  pub natural : Natural shares

-- ---- the four output lists, as long as the participants

pub record Outputs (participants : ℕ) (congestion loss credit net : List ℤ) : Type 0 where
  pub congestion-each : length congestion ≡ participants
  pub loss-each : length loss ≡ participants
  pub credit-each : length credit ≡ participants
  pub net-each : length net ≡ participants
