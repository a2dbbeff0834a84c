use Rattle.std.proofs.Common.{◌≡◌, take}
use Rattle.ints.specs.Table.{all}
use Rattle.exercise.specs.File.{prices_from}
use Rattle.hour.specs.Order.{is_price}
use Rattle.exercise_prices.proofs.read_list.Given as goal

abbrev pub invariant-loop-i : goal.invariant-loop-i
invariant-loop-i l = record { read : take l.i l.list ≡ prices_from l.prices l.j l.i; tested : l.passed ≡ all is_price (prices_from l.prices l.j l.i) }
