-- The charges in document 01's words, where these are shorter than the tariff's: the same numbers. Assumes nothing.
use mathlib.Core.Path.{◌≡◌, ap, ◌∙◌}
use mathlib.Core.List.{List}
use Prim.Native.Nat.{ℕ}
use lib.IntN.{ℤ, ◌-ℤ◌, ◌*ℤ◌}
use Rattle.ints.specs.Sum.{sum_to}
use Rattle.ints.proofs.Gather.{sum_to-minus}
use Rattle.hour.specs.Hour.{day_ahead, real_time, Prices, Position}
use Rattle.hour.specs.declared.Transaction.{Transaction}
use Rattle.hour.specs.Charges.{P, C, A, B, D, E, withdrawn, injected, carried, ahead_at, real_at, real_path, excess, shortfall}
use Rattle.hour.proofs.Terms.{factor, above-less}

module _ (prices : Prices) (xs : List Position) (p : ℕ) where
  -- "(withdrawals - injections) times the day-ahead price"
  pub ahead-form : (l : ℕ) → ahead_at prices xs p l ≡ (withdrawn xs day_ahead 0 p l -ℤ injected xs day_ahead 0 p l) *ℤ P prices l
  unfolding ahead_at
  ahead-form l = factor (withdrawn xs day_ahead 0 p l) (injected xs day_ahead 0 p l) (P prices l)

  -- 5.1.3(d) over n locations: "the difference between the total day-ahead transmission congestion withdrawal charge" "and the total day-ahead transmission congestion
  -- injection credit"
  pub totals-form : (n : ℕ) → sum_to (ahead_at prices xs p) n ≡ sum_to (λ l. withdrawn xs day_ahead 0 p l *ℤ P prices l) n -ℤ sum_to (λ l. injected xs day_ahead 0 p l *ℤ P prices l) n
  unfolding ahead_at
  totals-form n = sum_to-minus (λ l. withdrawn xs day_ahead 0 p l *ℤ P prices l) (λ l. injected xs day_ahead 0 p l *ℤ P prices l) n

  -- "[(A - B) - (D - E)] times C"
  pub real-form : (k l : ℕ) → real_at prices xs p k l ≡ ((A xs p k l -ℤ B xs p l) -ℤ (D xs p k l -ℤ E xs p l)) *ℤ C prices k l
  unfolding real_at
  real-form k l = factor (A xs p k l -ℤ B xs p l) (D xs p k l -ℤ E xs p l) (C prices k l)

-- excess and shortfall at once: real time less day-ahead
pub path-form : (prices : Prices) (transactions : List Transaction) (p k source sink : ℕ) → real_path prices transactions p k source sink
    ≡ (carried transactions real_time k p source sink -ℤ carried transactions day_ahead 0 p source sink) *ℤ (C prices k sink -ℤ C prices k source)
unfolding real_path
path-form prices transactions p k source sink =
    factor (excess transactions p k source sink) (shortfall transactions p k source sink) (C prices k sink -ℤ C prices k source)
    ∙ ap (λ (z : ℤ). z *ℤ (C prices k sink -ℤ C prices k source)) (above-less (carried transactions real_time k p source sink) (carried transactions day_ahead 0 p source sink))
