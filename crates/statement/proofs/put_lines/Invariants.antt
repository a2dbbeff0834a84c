use Prim.Native.Nat.{◌*◌, ◌≤◌}
use Rattle.text.specs.Inside.{Written}
use Rattle.statement.specs.Statement.{joined, line}
use Rattle.statement.proofs.put_lines.Given as goal

abbrev pub invariant-loop-p : goal.invariant-loop-p
invariant-loop-p l = (l.at ≤ 105 * l.p) × Written l.initial.page 0 (joined (line l.bills.congestion.now l.bills.loss.now l.bills.credit.now l.bills.net.now) l.p) l.page l.at
