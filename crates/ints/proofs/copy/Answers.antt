use Rattle.std.proofs.Common.{pos, length, ◌∙◌}
use Rattle.ints.proofs.Tables.{take-tab}
use Rattle.ints.proofs.copy.Goals as goal

pub returns : goal.returns
returns c = c.copy_from_slice.ensures.after ∙ take-tab (pos 0) c.args.from.now (length c.args.to.now) c.requires
