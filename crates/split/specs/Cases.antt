-- The order of refusals of a split: every limit tried on both sides, and every two reasons that can meet; the sign, and the cut toward zero. Assumes nothing.
use Rattle.std.specs.Prelude.{◌≡◌, refl, List, [], ◌∷◌, ℕ, ℤ, pos, neg_ℤ, replicate}
use Rattle.ints.specs.Sum.{sum_nat}
use Rattle.ints.specs.Table.{tab, all}
use Rattle.split.specs.Split.{total, cut_down, remainder, units_left, before, place, part, parts, split_refusal}
use Rattle.split.specs.Fair.{proportion, further}

-- n shares of 1
abbrev ones : ℕ → List ℤ
ones n = replicate n (pos 1)

-- ---- "Shares: 1 to 64 numbers", and a list for the parts that is as long

no-shares : split_refusal (pos 1) [] 0 ≡ 1
unfolding split_refusal all total sum_nat
no-shares = refl

one-share : split_refusal (pos 1) (pos 1 ∷ []) 1 ≡ 0
unfolding split_refusal all total sum_nat
one-share = refl

most-shares : split_refusal (pos 1) (ones 64) 64 ≡ 0
unfolding split_refusal all total sum_nat
most-shares = refl

shares-more : split_refusal (pos 1) (ones 65) 65 ≡ 1
unfolding split_refusal all total sum_nat
shares-more = refl

parts-short : split_refusal (pos 1) (pos 1 ∷ pos 1 ∷ []) 1 ≡ 1
unfolding split_refusal all total sum_nat
parts-short = refl

parts-long : split_refusal (pos 1) (pos 1 ∷ pos 1 ∷ []) 3 ≡ 1
unfolding split_refusal all total sum_nat
parts-long = refl

parts_same : split_refusal (pos 1) (pos 1 ∷ pos 1 ∷ []) 2 ≡ 0
unfolding split_refusal all total sum_nat
parts_same = refl

-- ---- "Amount: -1,000,000,000 to 1,000,000,000"

amount-most : split_refusal (pos 1000000000) (pos 1 ∷ []) 1 ≡ 0
unfolding split_refusal all total sum_nat
amount-most = refl

amount-more : split_refusal (pos 1000000001) (pos 1 ∷ []) 1 ≡ 2
unfolding split_refusal all total sum_nat
amount-more = refl

amount-least : split_refusal (neg_ℤ (pos 1000000000)) (pos 1 ∷ []) 1 ≡ 0
unfolding split_refusal all total sum_nat
amount-least = refl

amount-less : split_refusal (neg_ℤ (pos 1000000001)) (pos 1 ∷ []) 1 ≡ 2
unfolding split_refusal all total sum_nat
amount-less = refl

-- ---- "0 to 4,000,000,000"

share-most : split_refusal (pos 1) (pos 4000000000 ∷ []) 1 ≡ 0
unfolding split_refusal all total sum_nat
share-most = refl

share-more : split_refusal (pos 1) (pos 4000000001 ∷ []) 1 ≡ 2
unfolding split_refusal all total sum_nat
share-more = refl

share-least : split_refusal (pos 1) (pos 0 ∷ pos 1 ∷ []) 2 ≡ 0
unfolding split_refusal all total sum_nat
share-least = refl

share-less : split_refusal (pos 1) (neg_ℤ (pos 1) ∷ pos 1 ∷ []) 2 ≡ 2
unfolding split_refusal all total sum_nat
share-less = refl

share-last : split_refusal (pos 1) (pos 1 ∷ pos 1 ∷ pos 4000000001 ∷ []) 3 ≡ 2
unfolding split_refusal all total sum_nat
share-last = refl

-- ---- "shares total 0 and the amount isn't 0"

total-0 : split_refusal (pos 0) (pos 0 ∷ pos 0 ∷ []) 2 ≡ 0
unfolding split_refusal all total sum_nat
total-0 = refl

total-0-above : split_refusal (pos 1) (pos 0 ∷ pos 0 ∷ []) 2 ≡ 7
unfolding split_refusal all total sum_nat
total-0-above = refl

total-0-below : split_refusal (neg_ℤ (pos 1)) (pos 0 ∷ pos 0 ∷ []) 2 ≡ 7
unfolding split_refusal all total sum_nat
total-0-below = refl

total-1 : split_refusal (pos 1) (pos 0 ∷ pos 1 ∷ []) 2 ≡ 0
unfolding split_refusal all total sum_nat
total-1 = refl

-- ---- "Order: 1, 2 (amount, then shares), 7"

-- 1 before 2: no shares, too many and a list of another length, each with an amount beyond its range, and with a share beyond
no-shares-before-amount : split_refusal (pos 1000000001) [] 0 ≡ 1
unfolding split_refusal all total sum_nat
no-shares-before-amount = refl

many-before-amount : split_refusal (pos 1000000001) (ones 65) 65 ≡ 1
unfolding split_refusal all total sum_nat
many-before-amount = refl

list-before-amount : split_refusal (pos 1000000001) (pos 1 ∷ []) 2 ≡ 1
unfolding split_refusal all total sum_nat
list-before-amount = refl

many-before-share : split_refusal (pos 1) (neg_ℤ (pos 1) ∷ ones 64) 65 ≡ 1
unfolding split_refusal all total sum_nat
many-before-share = refl

list-before-share : split_refusal (pos 1) (neg_ℤ (pos 1) ∷ []) 2 ≡ 1
unfolding split_refusal all total sum_nat
list-before-share = refl

-- 1 before 7, as in `no-shares`
many-before-total : split_refusal (pos 1) (replicate 65 (pos 0)) 65 ≡ 1
unfolding split_refusal all total sum_nat
many-before-total = refl

list-before-total : split_refusal (pos 1) (pos 0 ∷ []) 2 ≡ 1
unfolding split_refusal all total sum_nat
list-before-total = refl

-- 2 before 7, of the amount
amount-before-total : split_refusal (pos 1000000001) (pos 0 ∷ []) 1 ≡ 2
unfolding split_refusal all total sum_nat
amount-before-total = refl

-- 2 before 7, of a share: shares beyond their range whose sum is 0. `total` adds up sizes, by which a share beyond is never in a total of 0 (`in-range` of proofs/Accepted.antt)
share-before-total : split_refusal (pos 1) (neg_ℤ (pos 1) ∷ pos 1 ∷ []) 2 ≡ 2
unfolding split_refusal all total sum_nat
share-before-total = refl

-- ---- "then the sign is put back": P1 and P2

above-0 : parts (pos 10) (ones 3) ≡ pos 4 ∷ pos 3 ∷ pos 3 ∷ []
unfolding parts part total cut_down remainder units_left before place sum_nat tab
above-0 = refl

below-0 : parts (neg_ℤ (pos 10)) (ones 3) ≡ neg_ℤ (pos 4) ∷ neg_ℤ (pos 3) ∷ neg_ℤ (pos 3) ∷ []
unfolding parts part total cut_down remainder units_left before place sum_nat tab
below-0 = refl

-- ---- "its exact proportion cut toward zero, or one unit further from zero": a third of 10, and of -10

cut-above-0 : proportion (pos 10) (ones 3) 0 ≡ pos 3
unfolding total sum_nat
cut-above-0 = refl

cut-below-0 : proportion (neg_ℤ (pos 10)) (ones 3) 0 ≡ neg_ℤ (pos 3)
unfolding total sum_nat
cut-below-0 = refl

further-above-0 : further (pos 10) (ones 3) 0 ≡ pos 4
unfolding total sum_nat
further-above-0 = refl

further-below-0 : further (neg_ℤ (pos 10)) (ones 3) 0 ≡ neg_ℤ (pos 4)
unfolding total sum_nat
further-below-0 = refl
