-- A day-ahead weight as it comes about, so many intervals taken back; and what is known of a table. Assumes nothing.
use mathlib.Core.Path.{◌≡◌, refl, sym, ap, ◌∙◌, subst}
use mathlib.Core.List.{List}
use Prim.Native.Nat.{ℕ, ◌+◌, ◌*◌, ◌<◌, ◌≤◌}
use native.Mathlib.Nat.{zero-mul}
use native.Mathlib.Omega.{arith}
use lib.IntN.{ℤ, pos, neg_ℤ, ◌+ℤ◌, ◌-ℤ◌, +ℤ_idr, +ℤ_assoc, neg_ℤ-+ℤ}
use lib.ListN.{length, drop, length-append, length-drop}
use lib.Seq.{length-take-le, get_or-take, get_or-drop}
use Rattle.ints.specs.InsideRange.{Within}
use Rattle.ints.specs.Sum.{sum_to}
use Rattle.ints.specs.Table.{◌at◌, tab}
use Rattle.ints.proofs.Ranges.{room}
use Rattle.ints.proofs.Sums.{sum_to-zero, sum_to-next}
use Rattle.ints.proofs.Tables.{length-tab, InPlace}
use Rattle.units.specs.Inside.{whole_hour}
use Rattle.hour.specs.Hour.{Prices, interval_of}
use Rattle.hour.specs.InsideParts.{ahead_weight, listed_prices, weighed, weight_in}
use Rattle.hour.specs.Charges.{P, C}
use Rattle.hour.proofs.Weighed.{taken-range, ahead-at, real-at, same-weight, weighed-range}
use Rattle.hour_weights.specs.Inside.{Listed, Column, Table}

-- ---- of a price list: what a day-ahead kW counts when the first k intervals are taken back

abbrev pub sofar : Prices → ℕ → ℕ → ℤ
sofar prices k l = whole_hour (P prices l) -ℤ sum_to (λ j. C prices j l) k

module _ (prices : Prices) (l : ℕ) where
  pub sofar-none : whole_hour (P prices l) ≡ sofar prices 0 l
  sofar-none = sym (ap (λ (z : ℤ). whole_hour (P prices l) -ℤ z) (sum_to-zero (λ j. C prices j l)) ∙ +ℤ_idr (whole_hour (P prices l)))

  pub sofar-next : (k : ℕ) → sofar prices k l -ℤ C prices k l ≡ sofar prices (k + 1) l
  sofar-next k =
      +ℤ_assoc (whole_hour (P prices l)) (neg_ℤ (sum_to (λ j. C prices j l) k)) (neg_ℤ (C prices k l))
      ∙ ap (λ (z : ℤ). whole_hour (P prices l) +ℤ z) (sym (neg_ℤ-+ℤ (sum_to (λ j. C prices j l) k) (C prices k l)) ∙ ap neg_ℤ (sym (sum_to-next (λ j. C prices j l) k)))

  pub sofar-all : sofar prices 12 l ≡ ahead_weight prices l
  unfolding ahead_weight
  sofar-all = refl

-- ---- places and sizes

pub sofar-range : {n l : ℕ} {list : List ℤ} → Column n l list → (k : ℕ) → k ≤ 12 → Within (sofar (listed_prices n list) k l) 120000000
sofar-range {n} {l} {list} h k m =
    taken-range (listed_prices n list) l
    (subst (λ (z : ℤ). Within z 5000000) (ap (λ (i : ℕ). list at i) (first n l) ∙ ahead-at n list l h.there) (h.each 0 (omega arith)))
    k m
    (λ j q. subst (λ (z : ℤ). Within z 5000000) (real-at n list j l h.there) (h.each (j + 1) (omega (arith, q, m))))
  where
    first : (n l : ℕ) → 0 * n + l ≡ l
    first n l = omega (arith, zero-mul n)

-- the table that is made of a list
pub table : {n : ℕ} {list : List ℤ} → Listed n list → Table n (weighed n list)
table {n} {list} h = record {
  few = h.few;
  long = omega (arith, length-append (tab (ahead_weight (listed_prices n list)) n) (drop n list), length-tab (ahead_weight (listed_prices n list)) n, length-drop n list, h.long);
  range = weighed-range n list h.range;
}

-- the first l weights have come in their place: from there on the prices stand as before
module _ {n l : ℕ} {list now : List ℤ} (h : Listed n list) (m : l < n) (p : InPlace (pos 0) (ahead_weight (listed_prices n list)) list l now) where
  pub column : Column n l now
  column = record {
    few = h.few;
    long = p.long ∙ h.long;
    there = m;
    each = λ k _. subst (λ (z : ℤ). Within z 5000000) (sym (p.rest (k * n + l) (omega arith))) (h.range.each (k * n + l));
  }

  pub next-weight : ahead_weight (listed_prices n now) l ≡ ahead_weight (listed_prices n list) l
  next-weight = same-weight n now list l m (p.rest l (omega arith)) (λ k. p.rest ((k + 1) * n + l) (omega arith))

-- a stage's stretch: its length, and what stands in it
module _ (n : ℕ) (list : List ℤ) (stage : ℕ) where
  pub stage-length : stage < 13 → length list ≡ 13 * n → length (interval_of list n stage) ≡ n
  stage-length m long = length-take-le n (drop (stage * n) list) (omega (arith, length-drop (stage * n) list, room stage 13 n m, long))

  pub stage_at : (l : ℕ) → l < n → interval_of list n stage at l ≡ list at (stage * n + l)
  stage_at l m = get_or-take n (drop (stage * n) list) l (pos 0) m ∙ get_or-drop (stage * n) list l (pos 0)

-- ---- a weight is at most 120,000,000 in size

pub weight-range : {locations : ℕ} {table : List ℤ} → Table locations table → (market interval l : ℕ) → Within (weight_in table locations market interval l) 120000000
weight-range {locations} h market interval l = h.range.each ((market + interval) * locations + l)
