-- Document 01's cases of load that are not marked P, and others of its words, computed. Assumes nothing.
use Rattle.std.specs.Prelude.{◌≡◌, refl, [], ◌∷◌, pos, neg_ℤ, replicate}
use Rattle.ints.specs.Each.{all_to}
use Rattle.ints.specs.Sum.{sum_to, sum_nat}
use Rattle.ints.specs.Table.{tab, all}
use Rattle.split.specs.Split.{total, cut_down, remainder, units_left, before, place, part, parts}
use Rattle.load.specs.Load.{bus_loads, contract_at, auctioned, LoadGiven, load_given, assigned, assignment}
use Rattle.load.specs.Order.{counts_refusal, lengths_refusal, ranges_refusal, identities_refusal, areas_refusal, meters_refusal, contracts_refusal, load_refusal}

-- P11's distributor with "A 10 kW contract over parts 500,000, 333,333, 166,667", of participant 2, and tranches 3 and 1
abbrev case : LoadGiven
case = load_given (pos 1) (pos 0) (pos 100 ∷ pos 200 ∷ pos 300 ∷ []) (pos 500 ∷ neg_ℤ (pos 40) ∷ []) (pos 200 ∷ []) (pos 1)
    (pos 500000 ∷ pos 333333 ∷ pos 166667 ∷ []) (pos 2 ∷ pos 0 ∷ pos 10 ∷ []) (pos 3 ∷ pos 1 ∷ replicate 62 (pos 0))

-- ".. is 5,3,2"
pub contract : tab (contract_at 3 case.area_parts case.contracts 0) 3 ≡ pos 5 ∷ pos 3 ∷ pos 2 ∷ []
unfolding sum_to tab sum_nat total cut_down remainder units_left before place part parts contract_at
contract = refl

-- "of the rest of P11, tranches 3 and 1 give 79,163,246 and 26,54,82"
pub first : tab (assigned case 0) 3 ≡ pos 79 ∷ pos 163 ∷ pos 246 ∷ []
unfolding sum_to tab sum_nat total cut_down remainder units_left before place part parts contract_at auctioned
first = refl

pub second : tab (assigned case 1) 3 ≡ pos 26 ∷ pos 54 ∷ pos 82 ∷ []
unfolding sum_to tab sum_nat total cut_down remainder units_left before place part parts contract_at auctioned
second = refl

-- "A metered load of 0 over loads 0: zeros; a metered load of 1 over loads 0: 7."
pub nothing : bus_loads (pos 1) (pos 0 ∷ pos 0 ∷ []) [] [] ≡ pos 0 ∷ pos 0 ∷ []
unfolding sum_to tab sum_nat total cut_down remainder units_left before place part parts
nothing = refl

pub nowhere : meters_refusal (pos 1) (pos 0 ∷ pos 0 ∷ []) (pos 1 ∷ []) [] ≡ 7
unfolding sum_to sum_nat total meters_refusal
nowhere = refl

-- that distributor's assignment is accepted
pub passes : load_refusal case 192 ≡ 0
unfolding sum_to sum_nat all all_to tab total cut_down remainder units_left before place part parts contract_at counts_refusal lengths_refusal ranges_refusal identities_refusal areas_refusal meters_refusal contracts_refusal load_refusal
passes = refl

-- ---- "by itself": two contracts of 1 kW over parts 500,000 and 500,000, both of participant 2. Each one's unit goes to the first bus; split together they would give 1,1.

abbrev alike : LoadGiven
alike = load_given (pos 0) (pos 0) (pos 2 ∷ pos 0 ∷ []) [] [] (pos 1) (pos 500000 ∷ pos 500000 ∷ []) (pos 2 ∷ pos 0 ∷ pos 1 ∷ pos 2 ∷ pos 0 ∷ pos 1 ∷ []) (replicate 64 (pos 0))

pub by_itself : (load_refusal alike 128 ≡ 0) × (tab (assigned alike 2) 2 ≡ pos 2 ∷ pos 0 ∷ [])
unfolding sum_to sum_nat all all_to tab total cut_down remainder units_left before place part parts contract_at auctioned assignment counts_refusal lengths_refusal ranges_refusal identities_refusal areas_refusal meters_refusal contracts_refusal load_refusal
by_itself = (refl, refl)

-- ---- "If not, estimator loads stand": the first case's distributor, not metered. 100,200,300 less 5,3,2 are 95,197,298.

abbrev estimated : LoadGiven
estimated = load_given (pos 0) case.distributor case.loads case.imports case.generation case.areas case.area_parts case.contracts case.tranches

pub not-metered : (load_refusal estimated 192 ≡ 0) × (tab (assigned estimated 0) 3 ≡ pos 71 ∷ pos 148 ∷ pos 224 ∷ []) × (tab (assigned estimated 1) 3 ≡ pos 24 ∷ pos 49 ∷ pos 74 ∷ [])
unfolding sum_to sum_nat all all_to tab total cut_down remainder units_left before place part parts contract_at auctioned assignment counts_refusal lengths_refusal ranges_refusal identities_refusal areas_refusal meters_refusal contracts_refusal load_refusal
not-metered = (refl, refl, refl)

-- ---- "With no tranche at all it stays with the distributor", here participant 7. 110,220,330 less 5,3,2 are 105,217,328.

abbrev unsold : LoadGiven
unsold = load_given case.metered (pos 7) case.loads case.imports case.generation case.areas case.area_parts case.contracts (replicate 64 (pos 0))

pub stays-with-distributor : (load_refusal unsold 192 ≡ 0) × (tab (assigned unsold 7) 3 ≡ pos 105 ∷ pos 217 ∷ pos 328 ∷ []) × (tab (assigned unsold 0) 3 ≡ pos 0 ∷ pos 0 ∷ pos 0 ∷ [])
unfolding sum_to sum_nat all all_to tab total cut_down remainder units_left before place part parts contract_at auctioned assignment counts_refusal lengths_refusal ranges_refusal identities_refusal areas_refusal meters_refusal contracts_refusal load_refusal
stays-with-distributor = (refl, refl, refl)

-- ---- "The distributor may hold contracts and tranches like others.": participant 2 is the distributor, too

abbrev own : LoadGiven
own = load_given case.metered (pos 2) case.loads case.imports case.generation case.areas case.area_parts case.contracts (replicate 64 (pos 0))

pub own-contract : (load_refusal own 192 ≡ 0) × (tab (assigned own 2) 3 ≡ pos 110 ∷ pos 220 ∷ pos 330 ∷ [])
unfolding sum_to sum_nat all all_to tab total cut_down remainder units_left before place part parts contract_at auctioned assignment counts_refusal lengths_refusal ranges_refusal identities_refusal areas_refusal meters_refusal contracts_refusal load_refusal
own-contract = (refl, refl)

-- ---- "participant by participant": the whole list for loads 3,4 and a contract of participant 1 for 1 kW at the first bus

abbrev two_buses : LoadGiven
two_buses = load_given (pos 0) (pos 0) (pos 3 ∷ pos 4 ∷ []) [] [] (pos 1) (pos 1000000 ∷ pos 0 ∷ []) (pos 1 ∷ pos 0 ∷ pos 1 ∷ []) (replicate 64 (pos 0))

pub participant-by-participant : assignment two_buses ≡ pos 2 ∷ pos 4 ∷ pos 1 ∷ pos 0 ∷ replicate 124 (pos 0)
unfolding sum_to sum_nat all all_to tab total cut_down remainder units_left before place part parts contract_at auctioned assignment counts_refusal lengths_refusal ranges_refusal identities_refusal areas_refusal meters_refusal contracts_refusal load_refusal
participant-by-participant = refl
