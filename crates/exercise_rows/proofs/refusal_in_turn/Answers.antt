use Rattle.std.proofs.Common.{arith}
use Rattle.std.proofs.lemmas.Grind.{common_steps}
use Rattle.ints.proofs.Turns.{turn-start, turn-next, turn-first}
use Rattle.exercise_rows.proofs.refusal_in_turn.Goals as goal

pub loop-i-init : goal.loop-i-init
loop-i-init c = turn-start _

pub returns-in_err-refusal_at : goal.returns-in_err-refusal_at
returns-in_err-refusal_at c = grind (arith, common_steps, turn-first)

pub loop-i-preserved : goal.loop-i-preserved
loop-i-preserved c = grind (arith, common_steps, turn-next)
