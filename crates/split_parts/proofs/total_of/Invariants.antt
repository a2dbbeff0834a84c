use mathlib.Core.Path.{◌≡◌}
use Rattle.ints.specs.Sum.{sum_nat}
use Rattle.split.specs.Split.{share}
use Rattle.split_parts.proofs.total_of.Given as goal

abbrev pub invariant-loop-share : goal.invariant-loop-share
invariant-loop-share l = l.sum ≡ sum_nat (share l.shares) l.share-index
