-- Document 01, "Cases": those marked P, proved together in a single table, in the paper's order and words. Assumes nothing.
use Rattle.std.specs.Prelude.{◌≡◌, refl, List, [], ◌∷◌, ℕ, ℤ, pos, neg_ℤ, length}
use Rattle.ints.specs.Sum.{sum_to, sum_nat}
use Rattle.ints.specs.Table.{tab, all}
use Rattle.units.specs.Units.{cents_of}
use Rattle.split.specs.Split.{total, cut_down, remainder, units_left, before, place, part, parts, split_refusal}
use Rattle.load.specs.Load.{bus_loads}
use Rattle.load.specs.Order.{meters_refusal}

-- an amount over shares is accepted and has these parts
abbrev Splits : ℤ → List ℤ → List ℤ → Type 0
Splits amount shares result = (split_refusal amount shares (length shares) ≡ 0) × (parts amount shares ≡ result)

-- an amount over shares is refused
abbrev Refuses : ℤ → List ℤ → ℕ → Type 0
Refuses amount shares number = split_refusal amount shares (length shares) ≡ number

-- a metered distributor's estimator loads, imports and generation are accepted and give these loads at the buses
abbrev Metered : List ℤ → List ℤ → List ℤ → List ℤ → Type 0
Metered loads imports generation result = (meters_refusal (pos 1) loads imports generation ≡ 0) × (bus_loads (pos 1) loads imports generation ≡ result)

pub record Cases : Type 0 where
  -- "P1 10 over 1,1,1 is 4,3,3."
  pub P1 : Splits (pos 10) (pos 1 ∷ pos 1 ∷ pos 1 ∷ []) (pos 4 ∷ pos 3 ∷ pos 3 ∷ [])
  -- "P2 -10 is -4,-3,-3."
  pub P2 : Splits (neg_ℤ (pos 10)) (pos 1 ∷ pos 1 ∷ pos 1 ∷ []) (neg_ℤ (pos 4) ∷ neg_ℤ (pos 3) ∷ neg_ℤ (pos 3) ∷ [])
  -- "P3 5 over 0,1 is 0,5."
  pub P3 : Splits (pos 5) (pos 0 ∷ pos 1 ∷ []) (pos 0 ∷ pos 5 ∷ [])
  -- "P4 100 over 1,2,3 is 17,33,50."
  pub P4 : Splits (pos 100) (pos 1 ∷ pos 2 ∷ pos 3 ∷ []) (pos 17 ∷ pos 33 ∷ pos 50 ∷ [])
  -- "P5 1 over 1,1 is 1,0."
  pub P5 : Splits (pos 1) (pos 1 ∷ pos 1 ∷ []) (pos 1 ∷ pos 0 ∷ [])
  -- "P6 0 over 0 is 0."
  pub P6 : Splits (pos 0) (pos 0 ∷ []) (pos 0 ∷ [])
  -- "P7 1 over 0: refusal 7."
  pub P7 : Refuses (pos 1) (pos 0 ∷ []) 7
  -- "Rounding, in twelfths: P8 60,000 is 1 cent."
  pub P8 : cents_of (pos 60000) ≡ pos 1
  -- "P9 59,999 is 0."
  pub P9 : cents_of (pos 59999) ≡ pos 0
  -- "P10 -60,000 is -1."
  pub P10 : cents_of (neg_ℤ (pos 60000)) ≡ neg_ℤ (pos 1)
  -- "P11 estimator 100,200,300 and imports 500,-40 with generation 200 give 110,220,330."
  pub P11 : Metered (pos 100 ∷ pos 200 ∷ pos 300 ∷ []) (pos 500 ∷ neg_ℤ (pos 40) ∷ []) (pos 200 ∷ []) (pos 110 ∷ pos 220 ∷ pos 330 ∷ [])
  -- "P12 601 metered gives 100,200,301."
  pub P12 : Metered (pos 100 ∷ pos 200 ∷ pos 300 ∷ []) (pos 601 ∷ []) [] (pos 100 ∷ pos 200 ∷ pos 301 ∷ [])

pub cases : Cases
unfolding split_refusal parts part total cut_down remainder units_left before place sum_nat sum_to tab all cents_of meters_refusal
cases = record { P1 = (refl, refl); P2 = (refl, refl); P3 = (refl, refl); P4 = (refl, refl); P5 = (refl, refl); P6 = (refl, refl); P7 = refl; P8 = refl; P9 = refl; P10 = refl; P11 = (refl, refl); P12 = (refl, refl) }
