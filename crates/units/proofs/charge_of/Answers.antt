use lib.IntN.{◌*ℤ◌}
use mir.Syntax.{w64}
use mir.Val.{SFits}
use mir.Facts.{to_z-of_z}
use Rattle.ints.proofs.Sizes.{w-mul, w_fits, w-read}
use Rattle.units.proofs.charge_of.Goals as goal
use Rattle.units.proofs.charge_of.Goals.{Start}

product : (s : Start) → SFits w64 (s.args.kw.0 *ℤ s.args.price.0)
product s = w_fits (w-mul s.requires.0 s.requires.1) tt

pub returns : goal.returns
returns c = let s = (goal.at.returns c).Start in simp (w-read s.requires.0 tt, w-read s.requires.1 tt, to_z-of_z (product s))
