use Rattle.load.proofs.Tranches.{packed_none, packed-next}
use Rattle.ints.specs.Sum.{one}
use Rattle.ints.specs.Table.{◌at◌}
use mir.Facts.{to_z-of_z}
use mir.Val.{to_z, of_z}
use mir.Syntax.{w64}
use lib.Dec.{ltb}
use lib.IntN.{ℤ, nat_abs}
use lib.ListN.{length}
use native.Mathlib.Omega.{arith}
use Prim.Native.Nat.{◌<◌}
use mathlib.Core.Path.{◌≡◌, ap, ◌∙◌}
use borrow.Author.Rules.{rules}
use Rattle.load_hand_out.proofs.pack.Goals as goal
use Rattle.load_hand_out.proofs.pack.Goals.{In-loop-i}

-- there is room for one more
room : (c : In-loop-i) → let l = c.loop-i in (l.m < length l.won) × (l.m < length l.winners)
room c = let l = c.loop-i in (omega (arith, l.invariant.few, c.requires.1, c.loop-i-test.true), omega (arith, l.invariant.few, c.requires.2, c.loop-i-test.true))

pub loop-i-init : goal.loop-i-init
loop-i-init c = packed_none

pub loop-i-preserved : goal.loop-i-preserved
loop-i-preserved c =
    let tranches = c.args.tranches.now in
    let read : to_z w64 (of_z w64 (tranches at c.loop-i.i)) ≡ tranches at c.loop-i.i = to_z-of_z {w = w64} {z = tranches at c.loop-i.i} (search rules) in
    packed-next _ c.counted-m.result c.loop-i.invariant read (room (goal.at.loop-i-preserved c).In-loop-i).0 (room (goal.at.loop-i-preserved c).In-loop-i).1 (c.counted-m.ensures ∙ ap (λ (z : ℤ). one (ltb 0 (nat_abs z))) read)
