use mathlib.Core.Path.{◌≡◌}
use lib.ListN.{length}
use lib.Seq.{sets}
use Rattle.ints.specs.Table.{tab}
use Rattle.exercise.specs.Written.{packed, run}
use Rattle.exercise_write.specs.Inside.{fields_given}
use Rattle.exercise_write.proofs.put_packed.Given as goal

abbrev pub invariant-loop-i : goal.invariant-loop-i
invariant-loop-i l = (length l.out ≡ length l.initial.out) × (l.out ≡ sets l.initial.out l.k (run l.size packed (tab (fields_given l.item l.list) l.i)))
