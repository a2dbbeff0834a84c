use Rattle.exercise.proofs.Whole.{small-read}
use Rattle.exercise_cause.proofs.frame_cause.Goals as goal

pub header_cause-requires : goal.header_cause-requires
header_cause-requires c = small-read _ _ c.read_header.ensures
