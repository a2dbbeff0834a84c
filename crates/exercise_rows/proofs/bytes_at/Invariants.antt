use Rattle.std.proofs.Common.{◌≡◌, ◌<◌, ◌^◌}
use Rattle.exercise.specs.Packed.{bytes_at}
use Rattle.exercise_rows.proofs.bytes_at.Given as goal

abbrev pub invariant-loop-i : goal.invariant-loop-i
invariant-loop-i g l = record { value : l.v ≡ bytes_at l.s l.k l.i; small : l.v < 256 ^ l.i }
