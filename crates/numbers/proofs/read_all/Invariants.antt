use mathlib.Core.Path.{◌≡◌}
use lib.ListN.{take}
use Rattle.ints.specs.Table.{tab}
use Rattle.numbers.specs.Bytes.{number_at}
use Rattle.numbers.proofs.read_all.Given as goal

abbrev pub invariant-loop-i : goal.invariant-loop-i
invariant-loop-i l = take l.i l.list ≡ tab (number_at l.s) l.i
