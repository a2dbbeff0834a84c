-- The cause that seven numbers stand for. Assumes nothing.
use Rattle.hour.specs.Cause.{Cause, cause}
use Rattle.hour_cause.specs.declared.CauseNumbers.{CauseNumbers}

abbrev pub as_cause : CauseNumbers → Cause
as_cause n = cause n.refusal n.part n.number n.field n.found n.least n.most
