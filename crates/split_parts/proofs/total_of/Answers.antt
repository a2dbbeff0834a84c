use Rattle.std.proofs.Common.{◌≡◌, ℕ, ◌+◌, List, ℤ, nat_abs, sym, ap, ap₂, ◌∙◌, arith, w64, to_z, of_z}
use Rattle.ints.specs.Sum.{sum_nat}
use Rattle.ints.specs.Table.{◌at◌}
use Rattle.ints.proofs.Counts.{sum_nat-zero, sum_nat-next, sum_nat-most}
use Rattle.ints.proofs.Sizes.{w-read}
use Rattle.split.specs.Inside.{Shares}
use Rattle.split.specs.Split.{share, total}
use Rattle.split_parts.proofs.total_of.Goals as goal

-- what is read at i is party i's share
read_is : (shares : List ℤ) → Shares shares → (i : ℕ) → nat_abs (to_z w64 (of_z w64 (shares at i))) ≡ share shares i
read_is shares s i = ap nat_abs (w-read {x = shares at i} {k = 4000000000} (record { within = s.most i }) tt)

pub loop-share-init : goal.loop-share-init
loop-share-init c = sym (sum_nat-zero (share c.args.shares.now))

pub overflow_add-sum : goal.overflow_add-sum
overflow_add-sum c = record { fits = omega (arith, read_is c.args.shares.now c.requires c.loop-share.share-index, c.loop-share.invariant, sum_nat-most (share c.args.shares.now) 4000000000 c.loop-share.share-index (λ i _. c.requires.most i), c.requires.most c.loop-share.share-index) }

pub loop-share-preserved : goal.loop-share-preserved
loop-share-preserved c = ap₂ ◌+◌ c.loop-share.invariant (read_is c.args.shares.now c.requires c.loop-share.share-index) ∙ sym (sum_nat-next (share c.args.shares.now) c.loop-share.share-index)

pub returns : goal.returns
unfolding total
returns c = c.loop-share.invariant ∙ ap (sum_nat (share c.args.shares.now)) (omega arith)
