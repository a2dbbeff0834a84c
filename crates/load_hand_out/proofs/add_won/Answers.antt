use Rattle.load.proofs.Tables.{spread_none, spread-next, spread-within}
use Rattle.ints.specs.Table.{◌at◌}
use Rattle.ints.specs.InsideRange.{Within}
use mir.Facts.{to_z-of_z}
use mir.Syntax.{w64}
use lib.IntN.{ℤ}
use lib.ListN.{length}
use mathlib.Core.Path.{sym, subst}
use borrow.Author.Rules.{rules}
use Rattle.load.specs.InsideTable.{Spread}
use native.Mathlib.Omega.{arith}
use Prim.Native.Nat.{◌+◌, ◌<◌}
use Rattle.load_hand_out.proofs.add_won.Goals as goal
use Rattle.load_hand_out.proofs.add_won.Invariants.{place}
use Rattle.load_hand_out.proofs.add_won.Goals.{In-loop-j}

-- it is there
there : (c : In-loop-j) → let a = c.args in place a.winners.now a.n a.bus c.loop-j.j < length c.loop-j.table
there c = omega (arith, c.requires.within c.loop-j.j c.loop-j-test.true, c.loop-j.invariant.same)

pub loop-j-init : goal.loop-j-init
loop-j-init c = spread_none

pub add_at-requires : goal.add_at-requires
add_at-requires c = (
  there (goal.at.add_at-requires c).In-loop-j,
  spread-within c.requires c.loop-j.invariant c.loop-j-test.true,
  subst (λ (z : ℤ). Within z 1000000000000) (sym (to_z-of_z {w = w64} {z = c.args.parts.now at c.loop-j.j} (search rules))) (c.requires.small.each c.loop-j.j c.loop-j-test.true),
)

pub loop-j-preserved : goal.loop-j-preserved
loop-j-preserved c =
    subst (Spread c.args.table.now (place c.args.winners.now c.args.n c.args.bus) c.args.parts.now (c.loop-j.j + 1)) (sym c.add_at.ensures)
    (spread-next _ c.loop-j.invariant (there (goal.at.loop-j-preserved c).In-loop-j) (to_z-of_z {w = w64} {z = c.args.parts.now at c.loop-j.j} (search rules)))
