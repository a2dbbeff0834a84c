use Rattle.std.proofs.Common.{◌≡◌}
use Rattle.exercise.specs.Inside.{prices_in_refusal}
use Rattle.exercise_prices.proofs.prices_refusal.Given as goal

abbrev pub invariant-loop-j : goal.invariant-loop-j
invariant-loop-j l = prices_in_refusal l.prices l.j ≡ 0
