-- The refusals of a load assignment (document 01, "Load at the buses"):
-- "Order: 1; 2 (bus loads, imports, generation, parts, contract kW, tranches); 3 (distributor; then each contract: supplier, area); 5; 6; 7; 8."
-- Assumes nothing.
use Rattle.std.specs.Prelude.{Bool, not, ◌||◌, ◌&&◌, List, ℕ, ◌*◌, ◌%◌, ltb, leb, eqb, ℤ, pos, neg_ℤ, nat_abs, ◌-ℤ◌, length}
use Rattle.std.specs.Int.Signed.{le_z}
use Rattle.ints.specs.Each.{all_to}
use Rattle.ints.specs.Number.{between}
use Rattle.ints.specs.Refusal.{unless, lent}
use Rattle.ints.specs.Table.{all}
use Rattle.ints.specs.Turn.{◌then◌}
use Rattle.split.specs.Split.{total}
use Rattle.load.specs.Load.{area_count, is_metered, metered_load, supplier, area, kw, contract_count, parts_of, contracted, LoadGiven, buses, bus_load, assignment}

-- 1: "a count is beyond its size" ("Units and sizes": "for load 1 to 64 buses, 0 to 16 areas, 0 to 256 contracts, 0 to 64 tie meters, 0 to 64 generators")
unfoldable pub counts_refusal : List ℤ → List ℤ → List ℤ → ℤ → List ℤ → ℕ
counts_refusal loads imports generation areas contracts =
    unless (leb 1 (length loads)) 1
    (unless (leb (length loads) 64) 1
    (unless (between (pos 0) (pos 16) areas) 1
    (unless (leb (contract_count contracts) 256) 1
    (unless (leb (length imports) 64) 1
    (unless (leb (length generation) 64) 1
    0)))))

-- 1: "or a list has the wrong length" ("The tranche list has 64 numbers"). n is the length of the list lent for the result
unfoldable pub lengths_refusal : List ℤ → ℤ → List ℤ → List ℤ → List ℤ → ℕ → ℕ
lengths_refusal loads areas area_parts contracts tranches n =
    unless (eqb (length area_parts) (area_count areas * length loads)) 1
    (unless (eqb (length contracts % 3) 0) 1
    (unless (eqb (length tranches) 64) 1
    (unless (eqb n (64 * length loads)) 1
    0)))

-- 2: "a number is outside its range"; "A number that stands for a choice (as metered or not) and names none gets 2, first among the ranges"
unfoldable pub ranges_refusal : ℤ → List ℤ → List ℤ → List ℤ → List ℤ → List ℤ → List ℤ → ℕ
ranges_refusal metered loads imports generation area_parts contracts tranches =
    unless (between (pos 0) (pos 1) metered) 2
    (unless (all (between (pos 0) (pos 20000000)) loads) 2
    (unless (all (between (neg_ℤ (pos 20000000)) (pos 20000000)) imports) 2
    (unless (all (between (pos 0) (pos 20000000)) generation) 2
    (unless (all (between (pos 0) (pos 1000000)) area_parts) 2
    (unless (all_to (λ j. between (pos 0) (pos 20000000) (kw contracts j)) (contract_count contracts)) 2
    (unless (all (between (pos 0) (pos 10000)) tranches) 2
    0))))))

-- 3: "an identity names no participant, location or area"
abbrev pub named : ℤ → List ℤ → ℕ → Bool
named areas contracts j = between (pos 0) (pos 63) (supplier contracts j) && between (pos 0) (areas -ℤ pos 1) (area contracts j)

unfoldable pub identities_refusal : ℤ → ℤ → List ℤ → ℕ
identities_refusal distributor areas contracts =
    unless (between (pos 0) (pos 63) distributor) 3
    (unless (all_to (named areas contracts) (contract_count contracts)) 3
    0)

-- 5: "an area's parts don't total 1,000,000"
unfoldable pub areas_refusal : ℕ → ℤ → List ℤ → ℕ
areas_refusal buses areas area_parts = unless (all_to (λ a. eqb (total (parts_of buses area_parts a)) 1000000) (area_count areas)) 5 0

-- 6: "metered load is below 0 or above 20,000,000", and 7: "shares total 0 and the amount isn't 0", both where the distributor is metered
unfoldable pub meters_refusal : ℤ → List ℤ → List ℤ → List ℤ → ℕ
meters_refusal metered loads imports generation =
    unless (not (is_metered metered) || between (pos 0) (pos 20000000) (metered_load imports generation)) 6
    (unless (not (is_metered metered) || ltb 0 (total loads) || eqb (nat_abs (metered_load imports generation)) 0) 7
    0)

-- 8: "contracts at a bus exceed its load", for loads at so many buses
unfoldable pub contracts_refusal : ℕ → List ℤ → List ℤ → (ℕ → ℤ) → ℕ
contracts_refusal buses area_parts contracts load = unless (all_to (λ b. le_z (contracted buses area_parts contracts b) (load b)) buses) 8 0

module _ (d : LoadGiven) where
  -- 1 to 5: of the lists and numbers that are given
  abbrev pub lists_refusal : ℕ → ℕ
  lists_refusal n =
      counts_refusal d.loads d.imports d.generation d.areas d.contracts
      then lengths_refusal d.loads d.areas d.area_parts d.contracts d.tranches n
      then ranges_refusal d.metered d.loads d.imports d.generation d.area_parts d.contracts d.tranches
      then identities_refusal d.distributor d.areas d.contracts
      then areas_refusal (buses d) d.areas d.area_parts

  unfoldable pub load_refusal : ℕ → ℕ
  load_refusal n =
      lists_refusal n
      then meters_refusal d.metered d.loads d.imports d.generation
      then contracts_refusal (buses d) d.area_parts d.contracts (bus_load d)

  -- what the lent list then holds
  abbrev pub load_outcome : List ℤ → List ℤ
  load_outcome old = lent (load_refusal (length old)) (assignment d) old
