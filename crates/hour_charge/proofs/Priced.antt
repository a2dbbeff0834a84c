-- The price lists of a file, as they were read: its congestion prices, and its loss prices. Assumes nothing.
use mathlib.Core.Path.{◌≡◌, sym, ap, ◌∙◌, subst}
use mathlib.Core.List.{List}
use Prim.Native.Nat.{ℕ, ◌+◌, ◌*◌, ◌≤◌}
use native.Mathlib.Nat.{zero-add}
use native.Mathlib.Omega.{arith}
use lib.IntN.{ℤ}
use Rattle.ints.specs.Turn.{◌then◌}
use Rattle.ints.proofs.Turns.{then-assoc}
use Rattle.ints.proofs.Tables.{length-tab}
use Rattle.exercise.specs.declared.Header.{Header}
use Rattle.hour.specs.declared.Edition.{Edition}
use Rattle.hour.specs.declared.Row.{Row}
use Rattle.hour.specs.declared.Transaction.{Transaction}
use Rattle.exercise.specs.File.{price_at, prices_from}
use Rattle.exercise.specs.Inside.{prices_in_refusal, prices_from_refusal, both_refusal, stretches_refusal}
use Rattle.exercise.proofs.Prices.{list-range, list-prices, in_two}
use Rattle.hour.specs.Hour.{Prices, price_list}
use Rattle.hour.specs.InsideParts.{listed_prices}
use Rattle.hour.specs.InsideTotals.{Charged}
use Rattle.hour_weights.specs.Inside.{Listed}

module _ (s : List ℕ) (n : ℕ) where
  pub congestion-is : listed_prices n (prices_from s 0 (13 * n)) ≡ price_list n (prices_from s 0 n) (prices_from s n (12 * n))
  congestion-is = list-prices s 0 n ∙ ap (λ (j : ℕ). price_list n (prices_from s 0 n) (prices_from s j (12 * n))) (zero-add n)

  pub loss-is : listed_prices n (prices_from s (13 * n) (13 * n)) ≡ price_list n (prices_from s (13 * n) n) (prices_from s (14 * n) (12 * n))
  loss-is =
      let place : 13 * n + n ≡ 14 * n = omega arith in
      list-prices s (13 * n) n ∙ ap (λ (j : ℕ). price_list n (prices_from s (13 * n) n) (prices_from s j (12 * n))) place

  -- a list that was read without a refusal
  pub listed : (j : ℕ) → n ≤ 64 → prices_from_refusal s j (13 * n) ≡ 0 → Listed n (prices_from s j (13 * n))
  listed j few none = record { few = few; long = length-tab (λ i. price_at s (j + i)) (13 * n); range = list-range s j (13 * n) none }

-- the refusals of both lists, then of rows and transactions
pub in_order_lem : (h : Header) (s rows transactions : List ℕ) → stretches_refusal h s rows transactions
    ≡ (prices_from_refusal s 0 (13 * h.locations) then prices_from_refusal s (13 * h.locations) (13 * h.locations) then both_refusal h rows transactions)
in_order_lem h s rows transactions =
    let n = 13 * h.locations in
    let whole : 26 * h.locations ≡ n + n = omega arith in
    ap (λ (r : ℕ). r then both_refusal h rows transactions) (ap (prices_in_refusal s) whole ∙ in_two s n n)
    ∙ sym (then-assoc (prices_from_refusal s 0 n) (prices_from_refusal s n n) (both_refusal h rows transactions))

-- charges at the one are charges at the other
pub at-prices : {edition : Edition} {prices other : Prices} {rows : List Row} {transactions : List Transaction} {totals : List ℤ} → prices ≡ other → Charged edition prices rows transactions totals → Charged edition other rows transactions totals
at-prices {edition = edition} {rows = rows} {transactions = transactions} {totals = totals} e = subst (λ (x : Prices). Charged edition x rows transactions totals) e
