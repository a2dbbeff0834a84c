use lib.ListN.{length}
use Rattle.ints.specs.Table.{◌at◌}
use Rattle.hour.specs.Cause.{share_cause}
use Rattle.hour.proofs.Causes.{Left}
use Rattle.hour_cause.proofs.shares_cause.Given as goal

abbrev pub invariant-loop-p : goal.invariant-loop-p
invariant-loop-p l = Left (λ k. share_cause k (l.shares at k)) (length l.shares) l.p
