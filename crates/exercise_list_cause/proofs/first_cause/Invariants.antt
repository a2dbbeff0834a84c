use Rattle.hour.proofs.Causes.{Left}
use Rattle.exercise_list_cause.specs.Inside.{cause_given}
use Rattle.exercise_list_cause.proofs.first_cause.Given as goal

abbrev pub invariant-loop-i : goal.invariant-loop-i
invariant-loop-i l = Left (cause_given l.item l.sizes.participants l.sizes.locations l.list) l.n l.i
