-- What the functions of the assignment know of what they hand to one another: for proofs and loops, not to be believed. Assumes nothing.
use Rattle.std.specs.Prelude.{◌≡◌, List, ℕ, ◌+◌, ◌*◌, ◌≤◌, ◌<◌, eqb, ℤ, pos, nat_abs, ◌+ℤ◌, ◌-ℤ◌, length, get_or, replicate}
use Rattle.ints.specs.InsideRange.{Short}
use Rattle.ints.specs.Refusal.{pick}
use Rattle.ints.specs.Sum.{sum_to, sum_nat, only}
use Rattle.ints.specs.Table.{◌at◌}
use Rattle.split.specs.Split.{share, total, parts, split_refusal}
use Rattle.split.specs.Inside.{Shares}
use Rattle.load.specs.Load.{identity, supplier, area, kw, contract_count, parts_of, contract_load, contracted, auctioned}
use Rattle.load.specs.InsideTable.{Cells}

-- kW in range
pub record Ranged (z : ℤ) : Type 0 where
  pub natural : z ≡ pos (nat_abs z)
  pub small : nat_abs z ≤ 20000000

-- kW that can be split over the shares
pub record Splittable (amount : ℤ) (shares : List ℤ) : Type 0 where
  pub accepted : split_refusal amount shares (length shares) ≡ 0
  pub ranged : Ranged amount

-- so many areas' parts, for n buses
pub record Areas (areas n : ℕ) (area_parts : List ℤ) : Type 0 where
  pub few : n ≤ 64
  pub there : areas * n ≤ length area_parts
  pub each : (a : ℕ) → a < areas → Shares (parts_of n area_parts a)

-- the assignment and what is contracted (a table of one row), with room for more
pub record RoomInTables (n : ℕ) (table contracted : List ℤ) : Type 0 where
  pub table-long : length table ≡ 64 * n
  pub contracted-long : length contracted ≡ 64
  pub table-small : Cells n table 1000000000000
  pub contracted-small : Cells n contracted 1000000000000

-- the same before the first contract
pub record Empty (n : ℕ) (table contracted : List ℤ) : Type 0 where
  pub table_empty : table ≡ replicate (64 * n) (pos 0)
  pub contracted-empty : contracted ≡ replicate 64 (pos 0)

-- contracts that passed the tests
pub record Contracts (n : ℕ) (area_parts contracts : List ℤ) : Type 0 where
  pub few : contract_count contracts ≤ 256
  pub buses : n ≤ 64
  pub supplied : (j : ℕ) → j < contract_count contracts → identity (supplier contracts j) < 64
  pub placed : (j : ℕ) → j < contract_count contracts → identity (area contracts j) * n + n ≤ length area_parts
  pub splits : (j : ℕ) → j < contract_count contracts → Splittable (kw contracts j) (parts_of n area_parts (identity (area contracts j)))
  pub whole : (j : ℕ) → j < contract_count contracts → total (parts_of n area_parts (identity (area contracts j))) ≡ 1000000

-- tranches and a distributor that passed the tests
pub record Auction (n distributor : ℕ) (tranches : List ℤ) : Type 0 where
  pub buses : n ≤ 64
  pub named : distributor < 64
  pub tested : Shares tranches
  pub all : length tranches ≡ 64

-- the tranches of the first n participants that aren't 0, in their order: m of them in the front of a list, and in the front of another who won each. What is 0 for each tranche of 0 comes
-- to the same over these
pub record Packed (tranches : List ℤ) (n : ℕ) (won : List ℤ) (winners : List ℕ) (m : ℕ) : Type 0 where
  pub few : m ≤ n
  pub each : (j : ℕ) → j < m → won at j ≡ tranches at get_or winners j 0
  pub named : (j : ℕ) → j < m → get_or winners j 0 < n
  pub ordered : (j k : ℕ) → j < k → k < m → get_or winners j 0 < get_or winners k 0
  pub sums : (f : ℕ → ℕ) → ((i : ℕ) → share tranches i ≡ 0 → f i ≡ 0) → sum_nat (λ j. f (get_or winners j 0)) m ≡ sum_nat f n

-- tranches and their winners, and a distributor
pub record Won (distributor : ℕ) (won : List ℤ) (winners : List ℕ) : Type 0 where
  pub distributed : distributor < 64
  pub tested : Shares won
  pub beside : length winners ≡ length won
  pub named : (j : ℕ) → j < length won → get_or winners j 0 < 64

-- participant p's part of what remains at a bus, by these
unfoldable pub won_part : ℕ → List ℤ → List ℕ → ℤ → ℕ → ℤ
won_part distributor won winners remaining p =
    pick (eqb (total won) 0) (only (eqb distributor p) remaining) (sum_to (λ j. only (eqb (get_or winners j 0) p) (parts remaining won at j)) (length won))

-- what is contracted leaves such kW at each of n buses
pub record Remainings (n : ℕ) (loads contracted : List ℤ) : Type 0 where
  pub loads-there : n ≤ length loads
  pub contracted-there : n ≤ length contracted
  pub each : (b : ℕ) → b < n → Ranged (loads at b -ℤ contracted at b)

-- the loads at n buses
pub record Loads (n : ℕ) (loads : List ℤ) : Type 0 where
  pub there : n ≤ length loads
  pub each : (b : ℕ) → b < n → Ranged (loads at b)

-- what steps 2 and 3 give to participant p at bus b, of the loads there
abbrev pub handed : ℕ → List ℤ → List ℤ → ℕ → List ℤ → (ℕ → ℤ) → ℕ → ℕ → ℤ
handed n area_parts contracts distributor tranches load p b =
    contract_load n area_parts contracts p b +ℤ auctioned distributor tranches (load b -ℤ contracted n area_parts contracts b) p

-- bus loads and meters that passed the tests
pub record MetersGiven (loads imports generation : List ℤ) : Type 0 where
  pub some : 1 ≤ length loads
  pub tested : Shares loads
  pub imports-short : Short imports
  pub generation-short : Short generation
