-- Demand 3 (document 00), of an assignment: of what is given, `d`, and of the result, `table`. Assumes nothing.
use Rattle.std.specs.Prelude.{◌≡◌, true, false, List, ℕ, ◌*◌, ◌<◌, eqb, ℤ, ◌+ℤ◌, length}
use Rattle.ints.specs.Number.{below0}
use Rattle.ints.specs.Sum.{sum_to, only}
use Rattle.ints.specs.Table.{◌at◌, tab}
use Rattle.split.specs.Fair.{Fair}
use Rattle.split.specs.Split.{total}
use Rattle.load.specs.Load.{identity, is_metered, metered_load, bus_loads, supplier, area, kw, contract_count, parts_of, contract_parts, LoadGiven, buses, bus_load, rest, rest_part, cell}

pub record FairLoad (d : LoadGiven) (table : List ℤ) : Type 0 where
  -- "This holds .. for metered load over buses,": the metered load, the estimator's loads, the loads at the buses
  pub metered : is_metered d.metered ≡ true → Fair (metered_load d.imports d.generation) d.loads (bus_loads d.metered d.loads d.imports d.generation)
  -- document 01, where it isn't metered: "estimator loads stand"
  pub unmetered : is_metered d.metered ≡ false → bus_loads d.metered d.loads d.imports d.generation ≡ d.loads
  -- "for contract load over an area,": each contract's kW, its area's parts, and its own parts, one for each bus
  pub contract : (j : ℕ) → j < contract_count d.contracts
      → Fair (kw d.contracts j) (parts_of (buses d) d.area_parts (identity (area d.contracts j))) (contract_parts (buses d) d.area_parts d.contracts j)
  -- "and for auction load over its winners;": what remains at a bus, the tranches, and the parts of it, one for each participant
  pub auction : (b : ℕ) → b < buses d → (total d.tranches ≡ 0 → ⊥) → Fair (rest d b) d.tranches (tab (rest_part d b) 64)
  -- document 01: "With no tranche at all it stays with the distributor."
  pub no-tranche : (b : ℕ) → total d.tranches ≡ 0 → (p : ℕ) → rest_part d b p ≡ only (eqb (identity d.distributor) p) (rest d b)
  -- The table holds these parts and nothing else. Document 01: "The result is kW for each of 64 participants, 0 to 63, at each bus":
  pub long : length table ≡ 64 * buses d
  -- participant p at bus b has the parts that p's own contracts have there, and p's part of what remains there;
  pub holds : (p b : ℕ) → p < 64 → b < buses d
      → cell (buses d) table p b
      ≡ sum_to (λ j. only (eqb (identity (supplier d.contracts j)) p) (contract_parts (buses d) d.area_parts d.contracts j at b)) (contract_count d.contracts) +ℤ rest_part d b p
  -- and nobody has less than 0 kW.
  pub not-below : (p b : ℕ) → p < 64 → b < buses d → below0 (cell (buses d) table p b) ≡ false
  -- "and at each bus the load handed out is the load that was there."
  pub handed_out : (b : ℕ) → b < buses d → sum_to (λ p. cell (buses d) table p b) 64 ≡ bus_load d b
