-- Slices that the C server may hand over, ragged ones among them, computed by the definitions. Assumes nothing.
use Rattle.std.specs.Prelude.{◌≡◌, refl, List, [], ◌∷◌, ◌++◌, ℕ, pos, replicate}
use Rattle.ints.specs.Each.{all_to}
use Rattle.ints.specs.Sum.{sum_to, sum_nat}
use Rattle.ints.specs.Table.{tab, all}
use Rattle.numbers.specs.Bytes.{lowest_first, bytes_of, encoded}
use Rattle.split.specs.Split.{total, cut_down, remainder, units_left, before, place, part, parts, split_refusal}
use Rattle.load.specs.Load.{contract_at}
use Rattle.load.specs.Order as load
use Rattle.wunzelihle.specs.Load.{load_bytes_refusal}
use Rattle.wunzelihle.specs.Split.{split_bytes_refusal, split_bytes_outcome}

-- a number below 256 as it crosses
abbrev small : ℕ → List ℕ
small n = n ∷ replicate 7 0

-- ---- the split

abbrev three_ones : List ℕ
three_ones = small 1 ++ small 1 ++ small 1

-- P1: the parts stand in the slice
split-10 : split_bytes_outcome (pos 10) three_ones (replicate 24 0xFF) ≡ small 4 ++ small 3 ++ small 3
unfolding split_bytes_refusal split_refusal parts part total cut_down remainder units_left before place sum_nat tab all lowest_first encoded bytes_of
split-10 = refl

-- "a list's slice that is no multiple of eight gets refusal 1, in the place of a list of the wrong length": before the amount, which is beyond its range
ragged-shares : split_bytes_refusal (pos 1000000001) (three_ones ++ (0 ∷ [])) 24 ≡ 1
unfolding split_bytes_refusal
ragged-shares = refl

ragged-parts : split_bytes_refusal (pos 1000000001) three_ones 25 ≡ 1
unfolding split_bytes_refusal
ragged-parts = refl

-- a slice for two parts
short-parts : split_bytes_refusal (pos 1000000001) three_ones 16 ≡ 1
unfolding split_bytes_refusal split_refusal lowest_first tab
short-parts = refl

amount-beyond : split_bytes_refusal (pos 1000000001) three_ones 24 ≡ 2
unfolding split_bytes_refusal split_refusal lowest_first tab
amount-beyond = refl

-- a share of -1, eight bytes 0xFF; and the slice keeps what it held
share-below : split_bytes_outcome (pos 10) (small 1 ++ replicate 8 0xFF) (replicate 16 0xAA) ≡ replicate 16 0xAA
unfolding split_bytes_refusal split_refusal all lowest_first tab
share-below = refl

-- ---- the load: one bus, 5 kW, no meter, generator, area or contract, and 64 tranches of which none is won

abbrev tranches : List ℕ
tranches = replicate 512 0

load-passes : load_bytes_refusal (pos 0) (pos 0) (small 5) [] [] (pos 0) [] [] tranches 512 ≡ 0
unfolding load_bytes_refusal load.load_refusal load.counts_refusal load.lengths_refusal load.ranges_refusal load.identities_refusal load.areas_refusal load.meters_refusal load.contracts_refusal sum_to sum_nat all all_to tab total contract_at lowest_first
load-passes = refl

-- metered 2 names no choice: 2, before the distributor that is nobody
no-choice : load_bytes_refusal (pos 2) (pos 64) (small 5) [] [] (pos 0) [] [] tranches 512 ≡ 2
unfolding load_bytes_refusal load.load_refusal load.counts_refusal load.lengths_refusal load.ranges_refusal tab all all_to lowest_first
no-choice = refl

-- a byte too many in each of the seven slices, before that
ragged-loads : load_bytes_refusal (pos 2) (pos 64) (small 5 ++ (0 ∷ [])) [] [] (pos 0) [] [] tranches 512 ≡ 1
unfolding load_bytes_refusal
ragged-loads = refl

ragged-imports : load_bytes_refusal (pos 2) (pos 64) (small 5) (0 ∷ []) [] (pos 0) [] [] tranches 512 ≡ 1
unfolding load_bytes_refusal
ragged-imports = refl

ragged-generation : load_bytes_refusal (pos 2) (pos 64) (small 5) [] (0 ∷ []) (pos 0) [] [] tranches 512 ≡ 1
unfolding load_bytes_refusal
ragged-generation = refl

ragged-area-parts : load_bytes_refusal (pos 2) (pos 64) (small 5) [] [] (pos 0) (0 ∷ []) [] tranches 512 ≡ 1
unfolding load_bytes_refusal
ragged-area-parts = refl

ragged-contracts : load_bytes_refusal (pos 2) (pos 64) (small 5) [] [] (pos 0) [] (0 ∷ []) tranches 512 ≡ 1
unfolding load_bytes_refusal
ragged-contracts = refl

ragged-tranches : load_bytes_refusal (pos 2) (pos 64) (small 5) [] [] (pos 0) [] [] (tranches ++ (0 ∷ [])) 512 ≡ 1
unfolding load_bytes_refusal
ragged-tranches = refl

ragged-result : load_bytes_refusal (pos 2) (pos 64) (small 5) [] [] (pos 0) [] [] tranches 513 ≡ 1
unfolding load_bytes_refusal
ragged-result = refl
