use mathlib.Core.Path.{◌≡◌}
use Rattle.hour.specs.InsideParts.{listed_prices}
use Rattle.hour_weights.proofs.Weights.{sofar}
use Rattle.hour_weights.proofs.ahead_weight.Given as goal

abbrev pub invariant-loop-k : goal.invariant-loop-k
invariant-loop-k l = l.weight ≡ sofar (listed_prices l.locations l.list) l.k l.l
