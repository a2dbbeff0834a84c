-- Load at the buses (document 01, "Load at the buses"; the tariff's 5.1.3(e), same text in 5.4.3(e)). Assumes nothing.
use Rattle.std.specs.Prelude.{Bool, List, ℕ, ◌+◌, ◌*◌, ◌/◌, ◌%◌, eqb, ℤ, pos, nat_abs, ◌+ℤ◌, ◌-ℤ◌, length, take, drop}
use Rattle.ints.specs.Number.{between}
use Rattle.ints.specs.Refusal.{pick}
use Rattle.ints.specs.Sum.{sum_to, sum, only}
use Rattle.ints.specs.Table.{◌at◌, tab}
use Rattle.split.specs.Split.{total, parts}

-- ---- identities and counts, as numbers from 0

-- the participant or area that a number names. Where the load is accepted the number was tested to be 0 or more (refusal 3), so its size is the number itself.
abbrev pub identity : ℤ → ℕ
identity z = nat_abs z

-- "The number of areas is given": likewise tested to be 0 or more (refusal 1)
abbrev pub area_count : ℤ → ℕ
area_count areas = nat_abs areas

-- ---- step 1

-- (e)(i): "the total revenue meter load within the Electric Distributor's territory is calculated as the sum of all net import energy flows reported by their tie
-- revenue meters and all net generation reported via generator revenue meters. The amount of load at each of such Electric Distributor's load buses calculated by the
-- State Estimator is then adjusted, in proportion to its share of the total load of that Electric Distributor". Document 01's words stand with each definition

-- "A distributor is metered (1) or not (0).": it is 1, and no other number
abbrev pub is_metered : ℤ → Bool
is_metered metered = between (pos 1) (pos 1) metered

-- "If metered, its load is the sum of net imports .. and generation"
abbrev pub metered_load : List ℤ → List ℤ → ℤ
metered_load imports generation = sum imports +ℤ sum generation

-- "and that sum is split over its buses by State Estimator load. If not, estimator loads stand": the load at each bus
abbrev pub bus_loads : ℤ → List ℤ → List ℤ → List ℤ → List ℤ
bus_loads metered loads imports generation = pick (is_metered metered) (parts (metered_load imports generation) loads) loads

-- ---- step 2

-- (e)(ii): "load assigned to an LSE at a specified Energy Settlement Area is further assigned to individual load buses included in the Energy Settlement Area"

-- "a contract is supplier, area, kW": those of contract j, and how many contracts there are
module _ (contracts : List ℤ) where
  abbrev pub supplier : ℕ → ℤ
  supplier j = contracts at (3 * j)

  abbrev pub area : ℕ → ℤ
  area j = contracts at (3 * j + 1)

  abbrev pub kw : ℕ → ℤ
  kw j = contracts at (3 * j + 2)

  abbrev pub contract_count : ℕ
  contract_count = length contracts / 3

-- "An area gives each bus a part in millionths", and "parts go area by area"
abbrev pub parts_of : ℕ → List ℤ → ℕ → List ℤ
parts_of buses area_parts a = take buses (drop (a * buses) area_parts)

module _ (buses : ℕ) (area_parts contracts : List ℤ) where
  -- "Each contract (supplier, area, kW) is split over the buses by its area's parts, by itself": contract j, and what it comes to at bus b
  abbrev pub contract_parts : ℕ → List ℤ
  contract_parts j = parts (kw contracts j) (parts_of buses area_parts (identity (area contracts j)))

  unfoldable pub contract_at : ℕ → ℕ → ℤ
  contract_at j b = contract_parts j at b

  -- "the results add up per supplier and bus": for participant p, and for all
  abbrev pub contract_load : ℕ → ℕ → ℤ
  contract_load p b = sum_to (λ j. only (eqb (identity (supplier contracts j)) p) (contract_at j b)) (contract_count contracts)

  abbrev pub contracted : ℕ → ℤ
  contracted b = sum_to (λ j. contract_at j b) (contract_count contracts)

-- ---- step 3

-- (e)(iii): "multiplying the megawatt hours at each bus that were not specifically assigned under load contracts by the percentage of load won by the POLR Supplier in
-- proportion to its share of the total POLR load of the Electric Distributor"

-- what remains at a bus "is split over the participants by tranches won .. With no tranche at all it stays with the distributor": participant p's part of it
unfoldable pub auctioned : ℕ → List ℤ → ℤ → ℕ → ℤ
auctioned distributor tranches remaining p = pick (eqb (total tranches) 0) (only (eqb distributor p) remaining) (parts remaining tranches at p)

-- ---- the three together

-- what an assignment is given
pub record LoadGiven : Type 0 where
  pub metered : ℤ
  pub distributor : ℤ
  pub loads : List ℤ
  pub imports : List ℤ
  pub generation : List ℤ
  pub areas : ℤ
  pub area_parts : List ℤ
  pub contracts : List ℤ
  pub tranches : List ℤ

abbrev pub load_given : ℤ → ℤ → List ℤ → List ℤ → List ℤ → ℤ → List ℤ → List ℤ → List ℤ → LoadGiven
load_given metered distributor loads imports generation areas area_parts contracts tranches =
    record {
      metered = metered;
      distributor = distributor;
      loads = loads;
      imports = imports;
      generation = generation;
      areas = areas;
      area_parts = area_parts;
      contracts = contracts;
      tranches = tranches;
    }

module _ (d : LoadGiven) where
  abbrev pub buses : ℕ
  buses = length d.loads

  -- the load at bus b, "What remains" there after the contracts, participant p's part of that, and all that participant p is assigned
  abbrev pub bus_load : ℕ → ℤ
  bus_load b = bus_loads d.metered d.loads d.imports d.generation at b

  abbrev pub rest : ℕ → ℤ
  rest b = bus_load b -ℤ contracted buses d.area_parts d.contracts b

  abbrev pub rest_part : ℕ → ℕ → ℤ
  rest_part b p = auctioned (identity d.distributor) d.tranches (rest b) p

  abbrev pub assigned : ℕ → ℕ → ℤ
  assigned p b = contract_load buses d.area_parts d.contracts p b +ℤ rest_part b p

  -- "The result is kW for each of 64 participants, 0 to 63, at each bus, participant by participant."
  unfoldable pub assignment : List ℤ
  assignment = tab (λ k. assigned (k / buses) (k % buses)) (64 * buses)

-- in a result for so many buses, the number of participant p at bus b
abbrev pub cell : ℕ → List ℤ → ℕ → ℕ → ℤ
cell buses result p b = result at (p * buses + b)
