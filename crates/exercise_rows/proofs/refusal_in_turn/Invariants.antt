use Rattle.std.proofs.Common.{◌≡◌}
use Rattle.ints.specs.Turn.{in_turn}
use Rattle.exercise_rows.specs.Inside.{refusal_at}
use Rattle.exercise_rows.proofs.refusal_in_turn.Given as goal

abbrev pub invariant-loop-i : goal.invariant-loop-i
invariant-loop-i l = in_turn (refusal_at l.item l.participants l.locations l.stretch) l.i ≡ 0
