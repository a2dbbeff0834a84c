-- The order of refusals of a load assignment at its limits, and where two reasons meet (document 01):
-- "Order: 1; 2 (bus loads, imports, generation, parts, contract kW, tranches); 3 (distributor; then each contract: supplier, area); 5; 6; 7; 8."
-- In each group below something is wrong that the next group would refuse. So an answer tells both: whether the number tried is taken (then it is the next
-- group's), and that its own reason comes before the next. Assumes nothing.
use Rattle.std.specs.Prelude.{◌≡◌, refl, List, [], ◌∷◌, ◌++◌, ℕ, ◌*◌, ℤ, pos, neg_ℤ, replicate}
use Rattle.ints.specs.Each.{all_to}
use Rattle.ints.specs.Sum.{sum_to, sum_nat}
use Rattle.ints.specs.Table.{tab, all}
use Rattle.split.specs.Split.{total, cut_down, remainder, units_left, before, place, part, parts}
use Rattle.load.specs.Load.{contract_at, load_given}
use Rattle.load.specs.Order.{counts_refusal, lengths_refusal, ranges_refusal, identities_refusal, areas_refusal, meters_refusal, contracts_refusal, load_refusal}

-- nobody won a tranche
abbrev no_tranche : List ℤ
no_tranche = replicate 64 (pos 0)

-- one bus of 10 kW
abbrev bus : List ℤ
bus = pos 10 ∷ []

-- ---- 1, before 2: metered is 2, which names no choice ("first among the ranges")

abbrev sized : List ℤ → List ℤ → List ℤ → ℤ → List ℤ → List ℤ → List ℤ → ℕ → ℕ
sized loads imports generation areas area_parts contracts tranches n = load_refusal (load_given (pos 2) (pos 0) loads imports generation areas area_parts contracts tranches) n

-- so many buses; areas, with so many parts; numbers in the list of contracts; meters; generators; tranches; numbers for the result
abbrev sized_buses : ℕ → ℕ
sized_buses k = sized (replicate k (pos 10)) [] [] (pos 0) [] [] no_tranche (64 * k)

abbrev sized_areas : ℤ → ℕ → ℕ
sized_areas areas k = sized bus [] [] areas (replicate k (pos 1000000)) [] no_tranche 64

abbrev sized_contracts : ℕ → ℕ
sized_contracts k = sized bus [] [] (pos 1) (pos 1000000 ∷ []) (replicate k (pos 0)) no_tranche 64

abbrev sized_meters : ℕ → ℕ
sized_meters k = sized bus (replicate k (pos 1)) [] (pos 0) [] [] no_tranche 64

abbrev sized_generators : ℕ → ℕ
sized_generators k = sized bus [] (replicate k (pos 1)) (pos 0) [] [] no_tranche 64

abbrev sized_tranches : ℕ → ℕ
sized_tranches k = sized bus [] [] (pos 0) [] [] (replicate k (pos 0)) 64

abbrev sized_result : ℕ → ℕ
sized_result n = sized bus [] [] (pos 0) [] [] no_tranche n

pub record SizeCases : Type 0 where
  -- "for load 1 to 64 buses,"
  pub no-bus : sized_buses 0 ≡ 1
  pub one-bus : sized_buses 1 ≡ 2
  pub most-buses : sized_buses 64 ≡ 2
  pub buses-above : sized_buses 65 ≡ 1
  -- "0 to 16 areas,"
  pub areas-below : sized_areas (neg_ℤ (pos 1)) 1 ≡ 1
  pub no-area : sized_areas (pos 0) 0 ≡ 2
  pub most-areas : sized_areas (pos 16) 16 ≡ 2
  pub areas-above : sized_areas (pos 17) 17 ≡ 1
  -- "0 to 256 contracts,"
  pub no-contract : sized_contracts 0 ≡ 2
  pub most-contracts : sized_contracts 768 ≡ 2
  pub contracts-above : sized_contracts 771 ≡ 1
  -- "0 to 64 tie meters, 0 to 64 generators"
  pub no-meter : sized_meters 0 ≡ 2
  pub most-meters : sized_meters 64 ≡ 2
  pub meters-above : sized_meters 65 ≡ 1
  pub no-generator : sized_generators 0 ≡ 2
  pub most-generators : sized_generators 64 ≡ 2
  pub generators-above : sized_generators 65 ≡ 1
  -- "or a list has the wrong length": a part for each area and bus,
  pub part-missing : sized_areas (pos 16) 15 ≡ 1
  pub part-too-many : sized_areas (pos 15) 16 ≡ 1
  pub part-of-no-area : sized_areas (pos 0) 1 ≡ 1
  -- "a contract is supplier, area, kW",
  pub contract-missing-two : sized_contracts 4 ≡ 1
  pub contract-missing-one : sized_contracts 5 ≡ 1
  pub two-contracts : sized_contracts 6 ≡ 2
  -- "The tranche list has 64 numbers",
  pub tranche-missing : sized_tranches 63 ≡ 1
  pub tranches-there : sized_tranches 64 ≡ 2
  pub tranche-too-many : sized_tranches 65 ≡ 1
  -- "The result is kW for each of 64 participants .. at each bus"
  pub result-missing : sized_result 63 ≡ 1
  pub result-there : sized_result 64 ≡ 2
  pub result-too-many : sized_result 65 ≡ 1

pub size-cases : SizeCases
unfolding sum_to sum_nat all all_to tab total cut_down remainder units_left before place part parts contract_at counts_refusal lengths_refusal ranges_refusal identities_refusal areas_refusal meters_refusal contracts_refusal load_refusal
size-cases = record {
  no-bus = refl;
  one-bus = refl;
  most-buses = refl;
  buses-above = refl;
  areas-below = refl;
  no-area = refl;
  most-areas = refl;
  areas-above = refl;
  no-contract = refl;
  most-contracts = refl;
  contracts-above = refl;
  no-meter = refl;
  most-meters = refl;
  meters-above = refl;
  no-generator = refl;
  most-generators = refl;
  generators-above = refl;
  part-missing = refl;
  part-too-many = refl;
  part-of-no-area = refl;
  contract-missing-two = refl;
  contract-missing-one = refl;
  two-contracts = refl;
  tranche-missing = refl;
  tranches-there = refl;
  tranche-too-many = refl;
  result-missing = refl;
  result-there = refl;
  result-too-many = refl;
}

-- ---- 2, before 3: the distributor is 64, who is nobody

-- metered or not; then, "bus loads, imports, generation, parts, contract kW, tranches", one of each
abbrev ranged : ℤ → ℤ → ℤ → ℤ → ℤ → ℤ → ℤ → ℕ
ranged metered load import generation part kw tranche =
    load_refusal (load_given metered (pos 64) (load ∷ []) (import ∷ []) (generation ∷ []) (pos 1) (part ∷ []) (pos 2 ∷ pos 0 ∷ kw ∷ []) (tranche ∷ replicate 63 (pos 0))) 64

pub record RangeCases : Type 0 where
  -- all at their least, and all at their most, are taken
  pub least : ranged (pos 0) (pos 0) (neg_ℤ (pos 20000000)) (pos 0) (pos 0) (pos 0) (pos 0) ≡ 3
  pub most : ranged (pos 1) (pos 20000000) (pos 20000000) (pos 20000000) (pos 1000000) (pos 20000000) (pos 10000) ≡ 3
  -- each by itself one below, and one above
  pub metered-below : ranged (neg_ℤ (pos 1)) (pos 0) (pos 0) (pos 0) (pos 0) (pos 0) (pos 0) ≡ 2
  pub metered-above : ranged (pos 2) (pos 0) (pos 0) (pos 0) (pos 0) (pos 0) (pos 0) ≡ 2
  pub load_below : ranged (pos 0) (neg_ℤ (pos 1)) (pos 0) (pos 0) (pos 0) (pos 0) (pos 0) ≡ 2
  pub load-above : ranged (pos 0) (pos 20000001) (pos 0) (pos 0) (pos 0) (pos 0) (pos 0) ≡ 2
  pub import-below : ranged (pos 0) (pos 0) (neg_ℤ (pos 20000001)) (pos 0) (pos 0) (pos 0) (pos 0) ≡ 2
  pub import-above : ranged (pos 0) (pos 0) (pos 20000001) (pos 0) (pos 0) (pos 0) (pos 0) ≡ 2
  pub generation-below : ranged (pos 0) (pos 0) (pos 0) (neg_ℤ (pos 1)) (pos 0) (pos 0) (pos 0) ≡ 2
  pub generation-above : ranged (pos 0) (pos 0) (pos 0) (pos 20000001) (pos 0) (pos 0) (pos 0) ≡ 2
  pub part-below : ranged (pos 0) (pos 0) (pos 0) (pos 0) (neg_ℤ (pos 1)) (pos 0) (pos 0) ≡ 2
  pub part-above : ranged (pos 0) (pos 0) (pos 0) (pos 0) (pos 1000001) (pos 0) (pos 0) ≡ 2
  pub kw-below : ranged (pos 0) (pos 0) (pos 0) (pos 0) (pos 0) (neg_ℤ (pos 1)) (pos 0) ≡ 2
  pub kw-above : ranged (pos 0) (pos 0) (pos 0) (pos 0) (pos 0) (pos 20000001) (pos 0) ≡ 2
  pub tranche-below : ranged (pos 0) (pos 0) (pos 0) (pos 0) (pos 0) (pos 0) (neg_ℤ (pos 1)) ≡ 2
  pub tranche-above : ranged (pos 0) (pos 0) (pos 0) (pos 0) (pos 0) (pos 0) (pos 10001) ≡ 2
  -- all ranges before all identities: the last tranche's, before the distributor
  pub last-tranche : load_refusal (load_given (pos 0) (pos 64) bus [] [] (pos 0) [] [] (replicate 63 (pos 0) ++ (pos 10001 ∷ []))) 64 ≡ 2
  -- the second contract's, before the first one's supplier, who is nobody
  pub second-kw : load_refusal (load_given (pos 0) (pos 0) bus [] [] (pos 1) (pos 1000000 ∷ []) (pos 64 ∷ pos 0 ∷ pos 1 ∷ pos 2 ∷ pos 0 ∷ pos 20000001 ∷ []) no_tranche) 64 ≡ 2

pub range-cases : RangeCases
unfolding sum_to sum_nat all all_to tab total cut_down remainder units_left before place part parts contract_at counts_refusal lengths_refusal ranges_refusal identities_refusal areas_refusal meters_refusal contracts_refusal load_refusal
range-cases = record {
  least = refl;
  most = refl;
  metered-below = refl;
  metered-above = refl;
  load_below = refl;
  load-above = refl;
  import-below = refl;
  import-above = refl;
  generation-below = refl;
  generation-above = refl;
  part-below = refl;
  part-above = refl;
  kw-below = refl;
  kw-above = refl;
  tranche-below = refl;
  tranche-above = refl;
  last-tranche = refl;
  second-kw = refl;
}

-- ---- 3, before 5: of two areas the first one's parts total 999,999

abbrev identified : ℤ → ℤ → ℤ → ℕ
identified distributor supplier area = load_refusal (load_given (pos 0) distributor bus [] [] (pos 2) (pos 999999 ∷ pos 1000000 ∷ []) (supplier ∷ area ∷ pos 10 ∷ []) no_tranche) 64

pub record IdentityCases : Type 0 where
  -- distributor, supplier and area, all the first and all the last that there are
  pub first : identified (pos 0) (pos 0) (pos 0) ≡ 5
  pub last : identified (pos 63) (pos 63) (pos 1) ≡ 5
  -- each by itself one below, and one above
  pub distributor-below : identified (neg_ℤ (pos 1)) (pos 0) (pos 0) ≡ 3
  pub distributor-above : identified (pos 64) (pos 0) (pos 0) ≡ 3
  pub supplier-below : identified (pos 0) (neg_ℤ (pos 1)) (pos 0) ≡ 3
  pub supplier-above : identified (pos 0) (pos 64) (pos 0) ≡ 3
  pub area-below : identified (pos 0) (pos 0) (neg_ℤ (pos 1)) ≡ 3
  pub area-above : identified (pos 0) (pos 0) (pos 2) ≡ 3
  -- the second contract's area
  pub second-area : load_refusal (load_given (pos 0) (pos 0) bus [] [] (pos 1) (pos 999999 ∷ []) (pos 2 ∷ pos 0 ∷ pos 1 ∷ pos 2 ∷ pos 1 ∷ pos 1 ∷ []) no_tranche) 64 ≡ 3
  -- where there is no area
  pub no-such-area : load_refusal (load_given (pos 0) (pos 0) bus [] [] (pos 0) [] (pos 2 ∷ pos 0 ∷ pos 1 ∷ []) no_tranche) 64 ≡ 3

pub identity-cases : IdentityCases
unfolding sum_to sum_nat all all_to tab total cut_down remainder units_left before place part parts contract_at counts_refusal lengths_refusal ranges_refusal identities_refusal areas_refusal meters_refusal contracts_refusal load_refusal
identity-cases = record {
  first = refl;
  last = refl;
  distributor-below = refl;
  distributor-above = refl;
  supplier-below = refl;
  supplier-above = refl;
  area-below = refl;
  area-above = refl;
  second-area = refl;
  no-such-area = refl;
}

-- ---- 5, before 6: the metered load is -1

abbrev totalling : ℤ → ℤ → ℕ
totalling first second = load_refusal (load_given (pos 1) (pos 0) (pos 10 ∷ pos 10 ∷ []) (neg_ℤ (pos 1) ∷ []) [] (pos 1) (first ∷ second ∷ []) [] no_tranche) 128

pub record AreaCases : Type 0 where
  pub short : totalling (pos 999999) (pos 0) ≡ 5
  pub whole : totalling (pos 1000000) (pos 0) ≡ 6
  pub whole-of-two : totalling (pos 999999) (pos 1) ≡ 6
  pub over : totalling (pos 1000000) (pos 1) ≡ 5
  pub nothing : totalling (pos 0) (pos 0) ≡ 5
  -- the second of two areas, of which no contract makes use
  pub second-area : load_refusal (load_given (pos 1) (pos 0) bus (neg_ℤ (pos 1) ∷ []) [] (pos 2) (pos 1000000 ∷ pos 999999 ∷ []) [] no_tranche) 64 ≡ 5
  -- before 7: 1 kW metered over loads of 0
  pub before-seven : load_refusal (load_given (pos 1) (pos 0) (pos 0 ∷ []) (pos 1 ∷ []) [] (pos 1) (pos 999999 ∷ []) [] no_tranche) 64 ≡ 5
  -- before 8: a contract of 10 kW where there are 9, not metered
  pub before-eight : load_refusal (load_given (pos 0) (pos 0) (pos 9 ∷ []) [] [] (pos 1) (pos 999999 ∷ []) (pos 2 ∷ pos 0 ∷ pos 10 ∷ []) no_tranche) 64 ≡ 5

pub area-cases : AreaCases
unfolding sum_to sum_nat all all_to tab total cut_down remainder units_left before place part parts contract_at counts_refusal lengths_refusal ranges_refusal identities_refusal areas_refusal meters_refusal contracts_refusal load_refusal
area-cases = record { short = refl; whole = refl; whole-of-two = refl; over = refl; nothing = refl; second-area = refl; before-seven = refl; before-eight = refl }

-- ---- 6, before 7, before 8: the estimator's load is 0, and there is a contract of 10 kW

-- metered or not, an import and generation
abbrev metering : ℤ → ℤ → ℤ → ℕ
metering metered import generation = load_refusal (load_given metered (pos 0) (pos 0 ∷ []) (import ∷ []) (generation ∷ []) (pos 1) (pos 1000000 ∷ []) (pos 2 ∷ pos 0 ∷ pos 10 ∷ []) no_tranche) 64

-- 8 last: metered or not, the estimator's load, the metered load, and a contract's kW
abbrev covering : ℤ → ℤ → ℤ → ℤ → ℕ
covering metered load import kw = load_refusal (load_given metered (pos 0) (load ∷ []) (import ∷ []) [] (pos 1) (pos 1000000 ∷ []) (pos 2 ∷ pos 0 ∷ kw ∷ []) no_tranche) 64

pub record LoadCases : Type 0 where
  -- "metered load is below 0 or above 20,000,000", before 7
  pub load_below : metering (pos 1) (neg_ℤ (pos 1)) (pos 0) ≡ 6
  pub load-above : metering (pos 1) (pos 20000000) (pos 1) ≡ 6
  -- "shares total 0 and the amount isn't 0", before 8
  pub load-most : metering (pos 1) (pos 20000000) (pos 0) ≡ 7
  pub one : metering (pos 1) (pos 1) (pos 0) ≡ 7
  pub zero : metering (pos 1) (neg_ℤ (pos 1)) (pos 1) ≡ 8
  -- "If not, estimator loads stand": neither 6 nor 7
  pub unmetered-below : metering (pos 0) (neg_ℤ (pos 1)) (pos 0) ≡ 8
  pub unmetered-above : metering (pos 0) (pos 20000000) (pos 1) ≡ 8
  pub unmetered-one : metering (pos 0) (pos 1) (pos 0) ≡ 8
  -- "contracts at a bus exceed its load", which is the metered one, not the estimator's
  pub as-large : covering (pos 1) (pos 5) (pos 10) (pos 10) ≡ 0
  pub larger : covering (pos 1) (pos 5) (pos 10) (pos 11) ≡ 8
  pub metered-less : covering (pos 1) (pos 20) (pos 9) (pos 10) ≡ 8
  pub metered-most : covering (pos 1) (pos 5) (pos 20000000) (pos 20000000) ≡ 0
  pub six-before-eight : covering (pos 1) (pos 20) (neg_ℤ (pos 1)) (pos 10) ≡ 6
  pub unmetered-as-large : covering (pos 0) (pos 10) (pos 5) (pos 10) ≡ 0
  pub unmetered-larger : covering (pos 0) (pos 9) (pos 20) (pos 10) ≡ 8

pub load-cases : LoadCases
unfolding sum_to sum_nat all all_to tab total cut_down remainder units_left before place part parts contract_at counts_refusal lengths_refusal ranges_refusal identities_refusal areas_refusal meters_refusal contracts_refusal load_refusal
load-cases = record {
  load_below = refl;
  load-above = refl;
  load-most = refl;
  one = refl;
  zero = refl;
  unmetered-below = refl;
  unmetered-above = refl;
  unmetered-one = refl;
  as-large = refl;
  larger = refl;
  metered-less = refl;
  metered-most = refl;
  six-before-eight = refl;
  unmetered-as-large = refl;
  unmetered-larger = refl;
}
