use mathlib.Core.Path.{◌≡◌}
use mathlib.Core.List.{◌++◌}
use Prim.Native.Nat.{◌*◌}
use lib.ListN.{length, drop}
use Rattle.exercise_read.specs.Inside.{listed_at}
use Rattle.exercise_read.proofs.put_all.Given as goal

abbrev pub invariant-loop-i : goal.invariant-loop-i
invariant-loop-i l = (length l.list ≡ length l.initial.list) × (l.list ≡ listed_at l.item l.stretch l.i ++ drop (l.each * l.i) l.initial.list)
