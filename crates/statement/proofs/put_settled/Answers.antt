use native.Mathlib.Omega.{arith}
use Rattle.text.proofs.Laws.{more}
use Rattle.statement.proofs.put_settled.Goals as goal

pub returns : goal.returns
returns c = let w = c.put_lines-at.ensures in
    let l = c.put_last.ensures in record {
      written = more w.written l.written;
      upper_bound = omega (arith, l.upper_bound, w.upper_bound, c.requires.congestion-short.few);
    }
