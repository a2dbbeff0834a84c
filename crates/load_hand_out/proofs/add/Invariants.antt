use Rattle.load.specs.InsideTable.{Spread}
use Prim.Native.Nat.{◌+◌}
use Rattle.load_hand_out.proofs.add.Given as goal

abbrev pub invariant-loop-i : goal.invariant-loop-i
invariant-loop-i l = Spread l.initial.table (λ i. l.start + i) l.parts l.i l.table
