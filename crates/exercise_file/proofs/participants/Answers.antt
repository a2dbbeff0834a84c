use native.Mathlib.Omega.{arith}
use Rattle.exercise.proofs.Whole.{small-read}
use Rattle.exercise_file.proofs.participants.Goals as goal

pub overflow_cast-result : goal.overflow_cast-result
overflow_cast-result c = let h = (small-read _ _ c.read_header.ensures).participants in record { fits = omega (arith, h) }
