use Rattle.std.proofs.Common.{◌∙◌}
use Rattle.numbers.proofs.Words.{le-bytes}
use Rattle.numbers.proofs.put_word.Goals as goal

pub returns : goal.returns
returns c = c.copy_from_slice.ensures.after ∙ c.to_le_bytes.ensures ∙ le-bytes c.args.u
