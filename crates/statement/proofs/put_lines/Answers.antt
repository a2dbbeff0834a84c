use native.Mathlib.Omega.{arith}
use borrow.Author.Rules.{rules}
use Rattle.text.proofs.Laws.{nothing, more, told}
use Rattle.statement.specs.Statement.{line}
use Rattle.statement.proofs.Lines.{joined-none, joined-next}
use Rattle.statement.proofs.put_lines.Goals as goal

pub loop-p-init : goal.loop-p-init
loop-p-init c = (search rules, told (nothing c.args.page.now 0) (joined-none (line c.args.bills.congestion.now c.args.bills.loss.now c.args.bills.credit.now c.args.bills.net.now)))

pub loop-p-preserved : goal.loop-p-preserved
loop-p-preserved c = (omega (arith, c.put_line-at.ensures.upper_bound, c.loop-p.invariant.0), told (more c.loop-p.invariant.1 c.put_line-at.ensures.written) (joined-next _ c.loop-p.p))
