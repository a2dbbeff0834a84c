use mathlib.Core.Path.{◌≡◌}
use mathlib.Core.List.{◌++◌}
use Prim.Native.Nat.{◌*◌}
use lib.ListN.{length, take, drop}
use Rattle.ints.specs.Table.{tab}
use Rattle.numbers.specs.Bytes.{encoded}
use Rattle.exercise.specs.File.{price_at}
use Rattle.exercise_read.proofs.put_prices.Given as goal

abbrev pub invariant-loop-j : goal.invariant-loop-j
invariant-loop-j l = (length l.list ≡ length l.initial.list) × (l.list ≡ encoded (take l.j (tab (price_at l.stretch) l.n)) ++ drop (8 * l.j) l.initial.list)
