use mathlib.Core.Path.{◌≡◌, ap, ap₂}
use mathlib.Core.List.{List, ◌++◌}
use Prim.Native.Nat.{ℕ}
use native.Mathlib.Omega.{arith}
use lib.IntN.{ℤ}
use mir.Syntax.{w64}
use mir.Val.{SFits, to_z, of_z}
use mir.Facts.{to_z-of_z, to_z_pos}
use borrow.Author.Rules.{rules, sfits_of}
use Rattle.ints.specs.Table.{◌at◌}
use Rattle.text.specs.Decimal.{decimal}
use Rattle.text.proofs.Laws.{more, told}
use Rattle.statement.proofs.Lines.{same-amounts}
use Rattle.statement.proofs.put_line.Goals as goal

-- a number of a list, as it is handed on
read : (xs : List ℤ) (p : ℕ) → SFits w64 (xs at p) → to_z w64 (of_z w64 (xs at p)) ≡ xs at p
read xs p f = to_z-of_z f

pub returns : goal.returns
returns c = record {
  written = told (more c.put_decimal-start.ensures.written c.put_amounts.ensures.written)
      (ap₂ (λ (a b : List ℕ). a ++ b) (ap decimal (to_z_pos w64 {n = c.args.p} (omega (arith, c.requires.p_bound.0))))
      (same-amounts
      (read c.args.bills.congestion.now c.args.p (sfits_of c.put_amounts-arg-2-1.given))
      (read c.args.bills.loss.now c.args.p (sfits_of c.put_amounts-arg-3-1.given))
      (read c.args.bills.credit.now c.args.p (sfits_of c.put_amounts-arg-4-1.given))
      (read c.args.bills.net.now c.args.p (sfits_of c.put_amounts-arg-5-1.given))));
  upper_bound = search rules;
}
