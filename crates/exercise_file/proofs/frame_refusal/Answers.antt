use Rattle.exercise.proofs.Whole.{small-read}
use Rattle.exercise_file.proofs.frame_refusal.Goals as goal

pub header_refusal-requires : goal.header_refusal-requires
header_refusal-requires c = small-read _ _ c.read_header.ensures
