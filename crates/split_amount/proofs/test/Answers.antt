use mathlib.Core.Path.{sym, ◌∙◌}
use Rattle.split.proofs.Accepted.{shares_of}
use Rattle.split_amount.proofs.test.Goals as goal

-- what passed the tests
pub total_of-total-requires : goal.total_of-total-requires
total_of-total-requires c = shares_of c.args.shares.now c.if-shares-gt64.false (sym c.all_between.ensures ∙ c.if-not-all_between.false)
