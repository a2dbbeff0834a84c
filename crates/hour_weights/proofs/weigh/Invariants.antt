use lib.IntN.{pos}
use Rattle.ints.proofs.Tables.{InPlace}
use Rattle.hour.specs.InsideParts.{ahead_weight, listed_prices}
use Rattle.hour_weights.proofs.weigh.Given as goal

abbrev pub invariant-loop-l : goal.invariant-loop-l
invariant-loop-l l = InPlace (pos 0) (ahead_weight (listed_prices l.locations l.initial.list)) l.initial.list l.l l.list
