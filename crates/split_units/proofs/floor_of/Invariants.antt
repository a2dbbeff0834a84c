use Rattle.split_units.specs.Inside.{apart, Counted}
use Rattle.split_units.proofs.floor_of.Given as goal

abbrev pub invariant-loop-at : goal.invariant-loop-at
invariant-loop-at l = Counted l.keys l.n l.at

abbrev pub decreases-loop-at : goal.decreases-loop-at
decreases-loop-at l = apart l.at.count l.units
