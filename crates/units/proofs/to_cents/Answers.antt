use mathlib.Core.Path.{◌≡◌, ap, ◌∙◌}
use lib.IntN.{nat_abs}
use mir.Syntax.{w64}
use mir.Val.{SFits}
use mir.Facts.{to_z-of_z}
use borrow.Author.Rules.{sfits_of}
use Rattle.units.specs.Units.{cents_of}
use Rattle.units.proofs.to_cents.Goals as goal
use Rattle.units.proofs.to_cents.Goals.{After-size, After-struct_told-1}

fits : (c : After-struct_told-1) → SFits w64 c.args.amount.0
fits c = sfits_of c.struct_told-1.given.0.1

size_is : (c : After-size) → c.size.result ≡ nat_abs c.args.amount.0
size_is c = c.size.ensures ∙ ap nat_abs (to_z-of_z (fits (goal.at.After-size c).After-struct_told-1))

pub returns : goal.returns
unfolding cents_of
returns c = let s = (goal.at.returns c).After-size in to_z-of_z {w = w64} (sfits_of c.with_sign.type_inv) ∙ c.with_sign.ensures ∙ simp (c.negative.ensures, size_is s, to_z-of_z (fits (goal.at.returns c).After-struct_told-1))
