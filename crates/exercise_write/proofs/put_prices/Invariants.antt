use mathlib.Core.Path.{◌≡◌}
use lib.ListN.{length}
use lib.Seq.{sets}
use Rattle.ints.specs.Table.{tab}
use Rattle.numbers.specs.Bytes.{number_at}
use Rattle.exercise.specs.Written.{run, price_bits}
use Rattle.exercise_write.proofs.put_prices.Given as goal

abbrev pub invariant-loop-j : goal.invariant-loop-j
invariant-loop-j l = (length l.out ≡ length l.initial.out) × (l.out ≡ sets l.initial.out 5 (run 3 price_bits (tab (number_at l.prices) l.j)))
