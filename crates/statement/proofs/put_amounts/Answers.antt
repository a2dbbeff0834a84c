use borrow.Author.Rules.{rules}
use Rattle.text.proofs.Laws.{more}
use Rattle.statement.proofs.put_amounts.Goals as goal

pub returns : goal.returns
returns c = let w = more (more (more (more c.put_amount-a.ensures.written c.put_amount-b.ensures.written) c.put_amount-c.ensures.written) c.put_amount-d.ensures.written) c.put_byte.ensures in record {
  written = w;
  upper_bound = search rules;
}
