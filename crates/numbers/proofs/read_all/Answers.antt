use mathlib.Core.Path.{◌∙◌}
use mir.Syntax.{w64}
use mir.Facts.{to_z-of_z}
use borrow.Author.Rules.{rules, sfits_of}
use Rattle.ints.proofs.Tables.{tab-none, tab-store}
use Rattle.numbers.specs.Bytes.{number_at}
use Rattle.numbers.proofs.read_all.Goals as goal

pub loop-i-init : goal.loop-i-init
loop-i-init c = tab-none (number_at c.args.s.now)

pub loop-i-preserved : goal.loop-i-preserved
loop-i-preserved c = let s = c.args.s.now in
    tab-store (number_at s) c.loop-i.list c.loop-i.i _ (search rules) (to_z-of_z {w = w64} (sfits_of c.number_at.type_inv) ∙ c.number_at.ensures) c.loop-i.invariant
