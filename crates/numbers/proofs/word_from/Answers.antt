use Rattle.std.proofs.Common.{◌∙◌}
use Rattle.numbers.proofs.Words.{le-word}
use Rattle.numbers.proofs.word_from.Goals as goal

pub returns : goal.returns
returns c = c.from_le_bytes.ensures ∙ le-word c.args.s.now c.args.k c.requires
