use Rattle.load.proofs.Splits.{sum-total}
use borrow.Author.Rules.{sfits_of}
use mir.Facts.{to_z-of_z}
use mir.Syntax.{w64}
use lib.IntN.{nat_abs}
use lib.Dec.{eqb}
use Prim.Native.Nat.{ℕ}
use mathlib.Core.Path.{ap, ◌∙◌}
use Rattle.load_refusals.proofs.totals_million.Goals as goal

pub returns : goal.returns
returns c = ap (λ (n : ℕ). eqb n 1000000) (c.size.ensures ∙ ap nat_abs (to_z-of_z {w = w64} (sfits_of c.sum.type_inv) ∙ (c.sum.ensures ∙ sum-total c.requires)))
