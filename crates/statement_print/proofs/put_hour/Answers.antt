use mathlib.Core.Path.{◌≡◌, ap, ◌∙◌}
use mathlib.Core.List.{List}
use Prim.Native.Nat.{ℕ, ◌≤◌}
use borrow.Author.Rules.{rules}
use Rattle.ints.proofs.Refusals.{lent-result}
use Rattle.refusals.specs.Number.{answer}
use Rattle.refusals.proofs.Numbers.{number-not-zero}
use Rattle.text.proofs.Laws.{told}
use Rattle.exercise.specs.File.{hour_of}
use Rattle.hour.specs.Charges.{congestion_charges_of, loss_charges_of}
use Rattle.hour.specs.Surplus.{credits, nets}
use Rattle.statement.specs.Inside.{Printable}
use Rattle.statement.specs.Statement.{refused_line}
use Rattle.statement_print.proofs.Hours as hours
use Rattle.statement_print.proofs.put_hour.Goals as goal
use Rattle.statement_print.proofs.put_hour.Goals.{After-settle, In_default, Start}

-- after the hour was settled and accepted: the lists are those of the definition
module _ (l : In_default) where
  abbrev t : After-settle
  t = (goal.at.In_default l).After-settle

  abbrev s : Start
  s = (goal.at.In_default l).Start

  abbrev file : List ℕ
  file = s.args.file.now

  congestion-is : t.settle.new.congestion ≡ congestion_charges_of (hour_of file)
  congestion-is = t.settle.ensures.congestion_after ∙ lent-result (answer t.settle.result) _ _ (ap answer l.in_default.is)

  loss-is : t.settle.new.loss ≡ loss_charges_of (hour_of file)
  loss-is = t.settle.ensures.loss_after ∙ lent-result (answer t.settle.result) _ _ (ap answer l.in_default.is)

  credit-is : t.settle.new.credit ≡ credits (hour_of file)
  credit-is = t.settle.ensures.credit_after ∙ lent-result (answer t.settle.result) _ _ (ap answer l.in_default.is)

  net-is : t.settle.new.net ≡ nets (hour_of file)
  net-is = t.settle.ensures.net_after ∙ lent-result (answer t.settle.result) _ _ (ap answer l.in_default.is)

  lists : {page : ℕ} → 6825 ≤ page → Printable page t.settle.new.congestion t.settle.new.loss t.settle.new.credit t.settle.new.net
  lists = hours.lists_of file s.requires.file_value.0 s.requires.outputs (answer t.settle.result) t.settle.ensures.value (ap answer l.in_default.is) congestion-is loss-is credit-is net-is

pub returns-in-Err : goal.returns-in-Err
returns-in-Err c = record {
  written = told c.put_refused.ensures.written (ap refused_line c.from.ensures ∙ hours.refused-late c.args.file.now c.requires.file_value.0 c.requires.outputs _ c.in-Err.ensures.value (number-not-zero _));
  upper_bound = search rules;
}

pub put_settled-requires : goal.put_settled-requires
put_settled-requires c = lists (goal.at.put_settled-requires c).In_default (s (goal.at.put_settled-requires c).In_default).requires.file_value.1

pub returns : goal.returns
returns c = let w = c.put_settled.ensures in record {
  written = told w.written (hours.lines_are (file (goal.at.returns c).In_default) (s (goal.at.returns c).In_default).requires.file_value.0 (s (goal.at.returns c).In_default).requires.outputs (answer (t (goal.at.returns c).In_default).settle.result) (t (goal.at.returns c).In_default).settle.ensures.value (ap answer c.in_default.is) (congestion-is (goal.at.returns c).In_default) (loss-is (goal.at.returns c).In_default) (credit-is (goal.at.returns c).In_default) (net-is (goal.at.returns c).In_default));
  upper_bound = w.upper_bound;
}
