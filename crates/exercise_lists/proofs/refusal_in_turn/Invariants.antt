use Rattle.std.proofs.Common.{◌≡◌}
use Rattle.ints.specs.Turn.{in_turn}
use Rattle.exercise_lists.specs.Inside.{refusal_given}
use Rattle.exercise_lists.proofs.refusal_in_turn.Given as goal

abbrev pub invariant-loop-i : goal.invariant-loop-i
invariant-loop-i l = in_turn (refusal_given l.item l.participants l.locations l.list) l.i ≡ 0
