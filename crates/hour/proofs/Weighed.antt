-- The table that rows and transactions are weighed by is what a kW counts. Assumes nothing.
use mathlib.Core.Path.{◌≡◌, refl, sym, ap, ap₂, ◌∙◌, subst}
use mathlib.Core.Logic.{inl, inr}
use mathlib.Core.Bool.{Bool, true, false}
use mathlib.Core.List.{List}
use Prim.Native.Nat.{ℕ, ◌+◌, ◌*◌, ◌-◌, ◌≤◌, ◌<◌}
use native.Mathlib.Nat.{zero-mul, suc-mul}
use native.Mathlib.Omega.{arith}
use lib.Dec.{ltb, lit≤}
use lib.IntN.{ℤ, pos, ◌-ℤ◌, ◌*ℤ◌}
use lib.ListN.{drop, get_or-append}
use lib.Seq.{get_or-take, get_or-drop, get_or-append-add}
use borrow.Author.Tests.{eq-eqb, ne_eqb, ltb-true, ltb-false}
use Rattle.ints.specs.InsideRange.{Within, InRange}
use Rattle.ints.specs.Refusal.{pick}
use Rattle.ints.specs.Sum.{sum_to}
use Rattle.ints.specs.Table.{◌at◌, tab}
use Rattle.ints.proofs.Ranges.{cut_range, drop-range}
use Rattle.ints.proofs.Sizes.{w-sub, w-mul, w-lit, w-up}
use Rattle.ints.proofs.Sums.{sum_to-abs, sum_to-ext}
use Rattle.ints.proofs.Tables.{length-tab, get_or-tab}
use Rattle.hour.specs.Charges.{P, C}
use Rattle.hour.specs.Hour.{Prices}
use Rattle.hour.specs.InsideParts.{ahead_weight, weight, listed_prices, weighed, weight_in}
use Rattle.hour.specs.InsideTested.{Timed}

-- twelve prices, and at most twelve taken back, 5,000,000 mills each at most
pub taken-range : (prices : Prices) (l : ℕ) → Within (P prices l) 5000000 → (k : ℕ) → k ≤ 12 → ((j : ℕ) → j < k → Within (C prices j l) 5000000) → Within (pos 12 *ℤ P prices l -ℤ sum_to (λ j. C prices j l) k) 120000000
taken-range prices l w k m c = w-sub (w-mul (w-lit {x = pos 12} {k = 12} tt) w) back
  where
    back : Within (sum_to (λ j. C prices j l) k) 60000000
    back = record { within = omega (arith, sum_to-abs (λ j. C prices j l) 5000000 k (λ j h. (c j h).within)) }

module _ (n : ℕ) (list : List ℤ) where
  -- ---- where a price stands in a list

  pub ahead-at : (l : ℕ) → l < n → list at l ≡ P (listed_prices n list) l
  ahead-at l m = sym (get_or-take n list l (pos 0) m)

  pub real-at : (k l : ℕ) → l < n → list at ((k + 1) * n + l) ≡ C (listed_prices n list) k l
  real-at k l m =
      let place : (k + 1) * n + l ≡ n + (k * n + l) = omega (arith, suc-mul k n) in
      ap (λ (i : ℕ). list at i) place ∙ sym (get_or-drop n list (k * n + l) (pos 0)) ∙ sym (get_or-drop (k * n) (drop n list) l (pos 0)) ∙ sym (get_or-take n (drop (k * n) (drop n list)) l (pos 0) m)

  -- ---- where a weight stands in its table

  weighed-front : (l : ℕ) → l < n → weighed n list at l ≡ ahead_weight (listed_prices n list) l
  weighed-front l m =
      let f = ahead_weight (listed_prices n list) in
      get_or-append (tab f n) (drop n list) (pos 0) l (omega (arith, length-tab f n)) ∙ get_or-tab f (pos 0) n l m

  weighed-back : (i : ℕ) → weighed n list at (n + i) ≡ list at (n + i)
  weighed-back i =
      let f = ahead_weight (listed_prices n list) in
      ap (λ (k : ℕ). weighed n list at (k + i)) (sym (length-tab f n)) ∙ get_or-append-add (tab f n) (drop n list) i (pos 0) ∙ get_or-drop n list i (pos 0)

  weighed-later : (k l : ℕ) → weighed n list at ((k + 1) * n + l) ≡ list at ((k + 1) * n + l)
  weighed-later k l =
      let place : (k + 1) * n + l ≡ n + (k * n + l) = omega (arith, suc-mul k n) in
      ap (λ (i : ℕ). weighed n list at i) place ∙ weighed-back (k * n + l) ∙ ap (λ (i : ℕ). list at i) (sym place)

  -- it is what a kW counts there
  pub weighed-is : (market interval l : ℕ) → Timed market interval → l < n → weight_in (weighed n list) n market interval l ≡ weight (listed_prices n list) market interval l
  weighed-is market interval l (inl t) m =
      let stage : market + interval ≡ 0 = omega (arith, t) in
      let place : 0 * n + l ≡ l = omega (arith, zero-mul n) in
      ap (λ (k : ℕ). weighed n list at (k * n + l)) stage ∙ ap (λ (i : ℕ). weighed n list at i) place ∙ weighed-front l m
      ∙ sym (ap (λ (b : Bool). pick b (ahead_weight (listed_prices n list) l) (C (listed_prices n list) interval l)) (eq-eqb market 0 t.0))
  weighed-is market interval l (inr t) m =
      let stage : market + interval ≡ interval + 1 = omega (arith, t) in
      let other : market ≡ 0 → ⊥ = λ e. omega (arith, e, t.0) in
      ap (λ (k : ℕ). weighed n list at (k * n + l)) stage ∙ weighed-later interval l ∙ real-at interval l m
      ∙ sym (ap (λ (b : Bool). pick b (ahead_weight (listed_prices n list) l) (C (listed_prices n list) interval l)) (ne_eqb market 0 other))

  -- ---- sizes

  module _ (r : InRange list 5000000) where
    ahead-range : (l : ℕ) → Within (ahead_weight (listed_prices n list) l) 120000000
    unfolding ahead_weight
    ahead-range l = taken-range (listed_prices n list) l ((cut_range 0 n r).each l) 12 (omega arith) (λ k _. (cut_range (k * n) n (drop-range n r)).each l)

    pub weighed-range : InRange (weighed n list) 120000000
    weighed-range = record { each = λ i. by i (ltb i n) refl }
      where
        by : (i : ℕ) (t : Bool) → ltb i n ≡ t → Within (weighed n list at i) 120000000
        by i true e = subst (λ (z : ℤ). Within z 120000000) (sym (weighed-front i (ltb-true i n e))) (ahead-range i)
        by i false e =
            let place : i ≡ n + (i - n) = omega (arith, ltb-false i n e) in
            subst (λ (z : ℤ). Within z 120000000) (sym (ap (λ (k : ℕ). weighed n list at k) place ∙ weighed-back (i - n))) (w-up (r.each (n + (i - n))) (lit≤ tt))

-- a weight is made of one price of each stretch
pub same-weight : (n : ℕ) (list other : List ℤ) (l : ℕ) → l < n → list at l ≡ other at l → ((k : ℕ) → list at ((k + 1) * n + l) ≡ other at ((k + 1) * n + l))
    → ahead_weight (listed_prices n list) l ≡ ahead_weight (listed_prices n other) l
unfolding ahead_weight
same-weight n list other l m e f =
    ap₂ (λ (p c : ℤ). pos 12 *ℤ p -ℤ c)
    (sym (ahead-at n list l m) ∙ e ∙ ahead-at n other l m)
    (sum_to-ext _ _ 12 (λ k _. sym (real-at n list k l m) ∙ f k ∙ real-at n other k l m))
