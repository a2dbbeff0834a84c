use Rattle.hour_credits.proofs.Rounding.{Rounds}
use Rattle.hour_credits.proofs.round.Given as goal

abbrev pub invariant-loop-amount : goal.invariant-loop-amount
invariant-loop-amount l = Rounds l.initial.list l.amount-index l.list
