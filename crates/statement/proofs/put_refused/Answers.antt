use mathlib.Core.Path.{ap}
use mathlib.Core.List.{◌++◌}
use native.Mathlib.Omega.{arith}
use lib.IntN.{ℤ}
use mir.Syntax.{w64}
use mir.Facts.{to_z_pos}
use borrow.Author.Rules.{rules}
use Rattle.text.specs.Ascii.{ascii}
use Rattle.text.specs.Decimal.{decimal}
use Rattle.text.proofs.Laws.{more, told}
use Rattle.statement.proofs.put_refused.Goals as goal

pub returns : goal.returns
returns c = record {
  written = told (more (more c.put_bytes-start.ensures c.put_decimal-end.ensures.written) c.put_byte.ensures) (ap (λ (z : ℤ). ascii "refused " ++ decimal z ++ ascii "\n") (to_z_pos w64 {n = c.args.number} (omega (arith, c.ranges.number))));
  upper_bound = search rules;
}
