use mathlib.Core.Path.{◌≡◌}
use mathlib.Core.List.{◌++◌}
use Prim.Native.Nat.{◌*◌}
use lib.ListN.{length, take, drop}
use Rattle.numbers.specs.Bytes.{encoded}
use Rattle.numbers.proofs.write_all.Given as goal

abbrev pub invariant-loop-i : goal.invariant-loop-i
invariant-loop-i l = (length l.out ≡ 8 * length l.list) × (l.out ≡ encoded (take l.i l.list) ++ drop (8 * l.i) l.initial.out)
