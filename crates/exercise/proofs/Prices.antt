-- Prices that have no refusal are in range, and a list that was read holds them. Assumes nothing.
use mathlib.Core.Path.{◌≡◌, refl, sym, ap, ap₂, ◌∙◌, subst}
use mathlib.Core.Bool.{Bool, true, false}
use mathlib.Core.List.{List}
use Prim.Native.Nat.{ℕ, suc, ◌+◌, ◌*◌, ◌-◌, ◌%◌, ◌≤◌, ◌<◌}
use native.Mathlib.Nat.{zero-add, add_assoc}
use native.Mathlib.Decide.{dec_lt}
use native.Mathlib.Omega.{arith}
use lib.Dec.{ltb}
use lib.IntN.{ℤ, pos, negsuc, neg_ℤ, sub_ℕ, ◌-ℤ◌}
use lib.ListN.{take, drop, get_or-eq_default}
use lib.Seq.{take_at, drop_at}
use borrow.Author.Tests.{ltb-true, ltb-false}
use Rattle.ints.specs.Number.{between}
use Rattle.ints.specs.InsideRange.{Within, InRange}
use Rattle.ints.specs.Refusal.{pick, unless}
use Rattle.ints.specs.Turn.{◌then◌}
use Rattle.ints.specs.Twos.{twos}
use Rattle.ints.specs.Table.{◌at◌, tab, all}
use Rattle.ints.proofs.Diff.{sub-is-pos, sub-is-neg}
use Rattle.ints.proofs.Eachs.{turn-all}
use Rattle.ints.proofs.Ranges.{tab-range}
use Rattle.ints.proofs.Refusals.{passed}
use Rattle.ints.proofs.Sizes.{w-lit, w-up}
use Rattle.ints.proofs.Tables.{length-tab, get_or-tab, tab-ext, tab-parts}
use Rattle.ints.proofs.Tests.{between-size}
use Rattle.ints.proofs.Turns.{turn-none, turn-ext, turn-parts}
use Rattle.exercise.specs.File.{price_at, prices_from}
use Rattle.hour.specs.Hour.{price_list}
use Rattle.hour.specs.InsideParts.{listed_prices}
use Rattle.exercise.specs.Inside.{price_refusal, prices_in_refusal, prices_from_refusal}
use Rattle.hour.specs.Order.{is_price}

-- the test of a price, and its refusal
module _ (price : ℤ) where
  pub price-inside : is_price price ≡ true → price_refusal price ≡ 0
  unfolding price_refusal
  price-inside e = ap (λ (b : Bool). unless b 2 0) e

  pub price-outside : is_price price ≡ false → price_refusal price ≡ 2
  unfolding price_refusal
  price-outside e = ap (λ (b : Bool). unless b 2 0) e

price-within : (price : ℤ) → price_refusal price ≡ 0 → Within price 5000000
unfolding price_refusal
price-within price e = record { within = between-size price 5000000 (passed (between (neg_ℤ (pos 5000000)) (pos 5000000) price) 1 0 e).0 }

module _ (s : List ℕ) (n : ℕ) (e : prices_in_refusal s n ≡ 0) where
  -- every number of a list that is read from the first n prices; past its end stands 0
  pub prices-within : (j m : ℕ) → j + m ≤ n → (i : ℕ) → Within (prices_from s j m at i) 5000000
  prices-within j m h i = by (dec_lt i m)
    where
      by : Dec (i < m) → Within (prices_from s j m at i) 5000000
      by (yes l) =
          subst (λ (z : ℤ). Within z 5000000) (sym (get_or-tab (λ i. price_at s (j + i)) (pos 0) m i l))
          (price-within (price_at s (j + i)) (turn-none (λ j. price_refusal (price_at s j)) n e (j + i) (omega arith)))
      by (no l) =
          let none : prices_from s j m at i ≡ pos 0 = get_or-eq_default (prices_from s j m) (pos 0) (omega (arith, length-tab (λ i. price_at s (j + i)) m)) in
          subst (λ (z : ℤ). Within z 5000000) (sym none) (w-up (w-lit {x = pos 0} {k = 0} tt) (omega arith))

-- ---- the two price lists of a stretch, read one after the other

module _ (s : List ℕ) (j n : ℕ) where
  -- all of a list tested
  pub list-refusal : unless (all is_price (prices_from s j n)) 2 0 ≡ prices_from_refusal s j n
  unfolding price_refusal
  list-refusal = sym (turn-all is_price (λ i. price_at s (j + i)) 1 n)

  pub list-range : prices_from_refusal s j n ≡ 0 → InRange (prices_from s j n) 5000000
  list-range e = tab-range (λ i. price_at s (j + i)) n 5000000 (λ i l. price-within (price_at s (j + i)) (turn-none (λ i. price_refusal (price_at s (j + i))) n e i l))

-- the congestion prices, then the loss prices
pub in_two : (s : List ℕ) (n m : ℕ) → prices_in_refusal s (n + m) ≡ (prices_from_refusal s 0 n then prices_from_refusal s n m)
in_two s n m =
    turn-parts (λ j. price_refusal (price_at s j)) n m
    ∙ ap (λ (r : ℕ). r then prices_from_refusal s n m) (turn-ext _ _ n (λ i _. ap (λ (k : ℕ). price_refusal (price_at s k)) (sym (zero-add i))))

-- a list that was read, as prices: its front is day-ahead, and the rest in real time
pub list-prices : (s : List ℕ) (j n : ℕ) → listed_prices n (prices_from s j (13 * n)) ≡ price_list n (prices_from s j n) (prices_from s (j + n) (12 * n))
list-prices s j n =
    let f : ℕ → ℤ = λ i. price_at s (j + i) in
    let whole : 13 * n ≡ n + 12 * n = omega arith in
    let parts = ap (tab f) whole ∙ tab-parts f n (12 * n) in
    ap₂ (price_list n)
    (ap (take n) parts ∙ take_at (tab f n) (tab (λ i. f (n + i)) (12 * n)) n (length-tab f n))
    (ap (drop n) parts ∙ drop_at (tab f n) (tab (λ i. f (n + i)) (12 * n)) n (length-tab f n) ∙ tab-ext _ _ (12 * n) (λ i _. ap (price_at s) (sym (add_assoc j n i))))

-- ---- 24 bits

pub bits-within : (u : ℕ) → u < 16777216 → Within (twos 24 u) 8388608
bits-within u l = by (ltb u 8388608) refl
  where
    by : (t : Bool) → ltb u 8388608 ≡ t → Within (pick t (pos u) (negsuc (16777216 - suc u))) 8388608
    by true e = record { within = omega (arith, ltb-true u 8388608 e) }
    by false e = record { within = omega (arith, ltb-false u 8388608 e) }

-- moved up by half of the patterns, and back
pub moved : (u : ℕ) → u < 16777216 → pos ((u + 8388608) % 16777216) -ℤ pos 8388608 ≡ twos 24 u
moved u l = by (ltb u 8388608) refl
  where
    by : (t : Bool) → ltb u 8388608 ≡ t → sub_ℕ ((u + 8388608) % 16777216) 8388608 ≡ pick t (pos u) (negsuc (16777216 - suc u))
    by true e = sub-is-pos ((u + 8388608) % 16777216) 8388608 u (omega (arith, ltb-true u 8388608 e))
    by false e = sub-is-neg ((u + 8388608) % 16777216) 8388608 (16777216 - suc u) (omega (arith, ltb-false u 8388608 e))
