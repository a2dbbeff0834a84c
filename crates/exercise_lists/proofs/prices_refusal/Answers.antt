use Rattle.std.proofs.Common.{arith}
use Rattle.std.proofs.lemmas.Grind.{common_steps}
use Rattle.exercise.specs.Inside.{price_refusal}
use Rattle.ints.proofs.Turns.{turn-start, turn-next, turn-first}
use Rattle.exercise_lists.proofs.prices_refusal.Goals as goal

pub loop-j-init : goal.loop-j-init
loop-j-init c = turn-start _

pub returns-in_err-price_refusal : goal.returns-in_err-price_refusal
unfolding price_refusal
returns-in_err-price_refusal c = grind (arith, common_steps, turn-first)

pub loop-j-preserved : goal.loop-j-preserved
unfolding price_refusal
loop-j-preserved c = grind (arith, common_steps, turn-next)
