use mathlib.Core.Path.{◌≡◌}
use Rattle.load.specs.Order.{named}
use Rattle.ints.specs.Each.{all_to}
use mathlib.Core.Bool.{true}
use Rattle.load_refusals.proofs.all_named.Given as goal

abbrev pub invariant-loop-j : goal.invariant-loop-j
invariant-loop-j l = all_to (named l.areas l.contracts) l.j ≡ true
