use Rattle.std.proofs.Common.{◌≡◌}
use Rattle.split_units.specs.Inside.{keys_above}
use Rattle.split_units.proofs.keys_above.Given as goal

abbrev pub invariant-loop-key : goal.invariant-loop-key
invariant-loop-key l = l.count ≡ keys_above l.keys l.key-index l.floor
