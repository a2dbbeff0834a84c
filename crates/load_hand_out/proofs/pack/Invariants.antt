use Rattle.load.specs.Inside.{Packed}
use Rattle.load_hand_out.proofs.pack.Given as goal

abbrev pub invariant-loop-i : goal.invariant-loop-i
invariant-loop-i l = Packed l.tranches l.i l.won l.winners l.m
