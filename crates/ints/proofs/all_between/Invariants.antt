use mathlib.Core.Path.{◌≡◌}
use mathlib.Core.Bool.{◌&&◌}
use lib.ListN.{drop}
use Rattle.ints.specs.Number.{between}
use Rattle.ints.specs.Table.{all}
use Rattle.ints.proofs.all_between.Given as goal

abbrev pub invariant-loop-x : goal.invariant-loop-x
invariant-loop-x l = all (between l.low l.high) l.list ≡ (l.passed && all (between l.low l.high) (drop l.x-index l.list))
