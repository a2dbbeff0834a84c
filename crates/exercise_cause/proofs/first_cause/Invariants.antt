use Rattle.hour.proofs.Causes.{Left}
use Rattle.exercise_cause.specs.Inside.{cause_at}
use Rattle.exercise_cause.proofs.first_cause.Given as goal

abbrev pub invariant-loop-i : goal.invariant-loop-i
invariant-loop-i l = Left (cause_at l.item l.sizes.participants l.sizes.locations l.stretch) l.n l.i
