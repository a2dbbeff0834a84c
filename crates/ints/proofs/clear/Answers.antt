use Rattle.std.proofs.Common.{pos, length, ◌∙◌}
use Rattle.ints.proofs.Tables.{replicate-tab}
use Rattle.ints.proofs.clear.Goals as goal

pub returns : goal.returns
returns c = c.fill.ensures.after (λ y e. e) ∙ replicate-tab (pos 0) (length c.args.list.now)
