use Rattle.std.proofs.Common.{◌≡◌}
use Rattle.exercise_lists.specs.Inside.{prices_given_refusal}
use Rattle.exercise_lists.proofs.prices_refusal.Given as goal

abbrev pub invariant-loop-j : goal.invariant-loop-j
invariant-loop-j l = prices_given_refusal l.prices l.j ≡ 0
