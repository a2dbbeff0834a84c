use Rattle.std.proofs.Common.{sym, ◌∙◌, length, rules}
use Rattle.std.proofs.lemmas.Result.{err_from_is_err_and}
use Rattle.ints.specs.Table.{◌at◌}
use Rattle.hour.specs.Cause.{share_cause}
use Rattle.hour.proofs.Causes.{cause-list}
use Rattle.hour.proofs.Told.{left_passed, left_stopped, left_done}
use Rattle.hour_cause.proofs.shares_cause.Goals as goal

pub returns-in_err-in_range : goal.returns-in_err-in_range
returns-in_err-in_range c = let xs = c.args.shares.now in
    let p = err_from_is_err_and c.from_residual.result c.from_residual.ensures.1 in
    rw (p.1, p.2) (left_stopped (λ k. share_cause k (xs at k)) (length xs) c.loop-p.p c.loop-p-test.true c.loop-p.invariant _ (search rules) ∙ sym (cause-list share_cause xs))

pub loop-p-preserved : goal.loop-p-preserved
loop-p-preserved c = let xs = c.args.shares.now in
    left_passed (λ k. share_cause k (xs at k)) (length xs) c.loop-p.p c.loop-p-test.true c.loop-p.invariant (search rules)

pub returns : goal.returns
returns c = let xs = c.args.shares.now in left_done (λ k. share_cause k (xs at k)) (length xs) c.loop-p.p c.loop-p-test.false c.loop-p.invariant ∙ sym (cause-list share_cause xs)
