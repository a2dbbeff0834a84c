use Rattle.load.proofs.Tables.{spread_none, spread-next, spread-within}
use Rattle.ints.specs.Table.{◌at◌}
use Rattle.ints.specs.InsideRange.{Within}
use mir.Facts.{to_z-of_z}
use mir.Syntax.{w64}
use lib.IntN.{ℤ}
use lib.ListN.{length}
use mathlib.Core.Path.{sym, subst}
use borrow.Author.Rules.{rules}
use Rattle.load.specs.InsideTable.{Spread}
use native.Mathlib.Omega.{arith}
use Prim.Native.Nat.{◌+◌, ◌<◌}
use Rattle.load_hand_out.proofs.add.Goals as goal
use Rattle.load_hand_out.proofs.add.Goals.{In-loop-i}

-- the place is there
there : (c : In-loop-i) → c.args.start + c.loop-i.i < length c.loop-i.table
there c = omega (arith, c.requires.within c.loop-i.i c.loop-i-test.true, c.loop-i.invariant.same)

pub loop-i-init : goal.loop-i-init
loop-i-init c = spread_none

pub add_at-requires : goal.add_at-requires
add_at-requires c = (
  there (goal.at.add_at-requires c).In-loop-i,
  spread-within c.requires c.loop-i.invariant c.loop-i-test.true,
  subst (λ (z : ℤ). Within z 1000000000000) (sym (to_z-of_z {w = w64} {z = c.args.parts.now at c.loop-i.i} (search rules))) (c.requires.small.each c.loop-i.i c.loop-i-test.true),
)

pub loop-i-preserved : goal.loop-i-preserved
loop-i-preserved c =
    subst (Spread c.args.table.now (λ i. c.args.start + i) c.args.parts.now (c.loop-i.i + 1)) (sym c.add_at.ensures)
    (spread-next _ c.loop-i.invariant (there (goal.at.loop-i-preserved c).In-loop-i) (to_z-of_z {w = w64} {z = c.args.parts.now at c.loop-i.i} (search rules)))
