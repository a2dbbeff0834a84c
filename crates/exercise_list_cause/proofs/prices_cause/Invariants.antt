use Rattle.numbers.specs.Bytes.{number_at}
use Rattle.hour.specs.Cause.{price_cause}
use Rattle.hour.proofs.Causes.{Left}
use Rattle.exercise_list_cause.proofs.prices_cause.Given as goal

abbrev pub invariant-loop-j : goal.invariant-loop-j
invariant-loop-j l = Left (λ k. price_cause k (number_at l.prices k)) l.n l.j
