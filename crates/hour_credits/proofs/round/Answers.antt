use mathlib.Core.Path.{ap, ◌∙◌}
use native.Mathlib.Omega.{arith}
use mir.Syntax.{w64}
use mir.Val.{SFits}
use mir.Facts.{to_z-of_z}
use borrow.Author.Rules.{rules, sfits_of}
use Rattle.ints.specs.Table.{◌at◌}
use Rattle.units.specs.Units.{cents_of}
use Rattle.hour_credits.proofs.Rounding.{rounds-none, rounds-next, rounds-done}
use Rattle.hour_credits.proofs.round.Goals as goal

pub loop-amount-init : goal.loop-amount-init
loop-amount-init c = rounds-none c.args.list.now

pub loop-amount-preserved : goal.loop-amount-preserved
loop-amount-preserved c = let read : SFits w64 (c.loop-amount.list at c.loop-amount.amount-index) = sfits_of c.to_cents-arg-1.given in
    rounds-next c.args.list.now c.loop-amount.list c.loop-amount.amount-index c.loop-amount.invariant _ (search rules) read (to_z-of_z {w = w64} (sfits_of c.struct_told-1.given.0.1) ∙ c.to_cents.ensures ∙ ap cents_of (to_z-of_z {w = w64} read))

pub returns : goal.returns
returns c = let made = rounds-done c.args.list.now c.loop-amount.list c.loop-amount.amount-index c.loop-amount.invariant (omega arith) (omega arith) in record { list_after = made.0; in_range = made.1 }
