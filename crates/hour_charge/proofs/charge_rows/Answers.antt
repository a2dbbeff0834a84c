use Rattle.std.proofs.Common.{◌≡◌, ◌≤◌, sym, ap, ◌∙◌, arith}
use Rattle.std.specs.Prelude.{Ok}
use Rattle.refusals.specs.Number.{answer}
use lib.Dec.{lit≤}
use Rattle.ints.proofs.Adding.{adding-start, owner-next, adding-range}
use Rattle.ints.proofs.Turns.{turn-start}
use Rattle.exercise.specs.File.{row_at}
use Rattle.exercise.specs.Inside.{decoded_row_at}
use Rattle.exercise.specs.Order.{row_refusal_at}
use Rattle.hour.specs.InsideTested.{RowTested}
use Rattle.hour.specs.declared.Row.{Row}
use Rattle.hour.proofs.Tested.{row-wider}
use Rattle.hour_charge.specs.Inside.{Totals}
use Rattle.hour.specs.InsideTotals.{shares_most, rows_most}
use Rattle.hour_charge.proofs.Decoded.{row_is, row-passed, next, first-refused}
use Rattle.hour_totals.proofs.Sizes.{part-range}
use Rattle.hour.proofs.Theorems.{share-range}
use Rattle.hour_charge.proofs.charge_rows.Goals as goal
use Rattle.hour_charge.proofs.charge_rows.Goals.{In-Ok}

-- a row that was decoded in the loop
module _ (d : In-Ok) where
  abbrev row : Row
  row = d.in-Ok.row

  decoded : decoded_row_at d.args.participants d.args.locations d.args.rows.now d.loop-i.i ≡ Ok row
  decoded = sym d.in-Ok.ensures

  is : row_at d.args.rows.now d.loop-i.i ≡ row
  is = row_is _ _ _ _ row decoded

  tested : RowTested d.args.participants d.args.locations row
  tested = row-passed _ _ _ _ row decoded

  few : d.loop-i.i ≤ 2048
  few = omega (arith, d.requires.n_bound.0, d.loop-i-test.true)

  congestion-now : Totals d.args.participants d.loop-i.exact_congestion rows_most
  congestion-now = record { long = omega (arith, d.loop-i.invariant.congestion.long, d.requires.totals.0.long); range = adding-range _ _ _ _ d.loop-i.invariant.congestion 2048 rows_most few (lit≤ tt) }

  loss-now : Totals d.args.participants d.loop-i.exact_loss rows_most
  loss-now = record { long = omega (arith, d.loop-i.invariant.loss.long, d.requires.totals.1.long); range = adding-range _ _ _ _ d.loop-i.invariant.loss 2048 rows_most few (lit≤ tt) }

  shares-now : Totals d.args.participants d.loop-i.shares shares_most
  shares-now = record { long = omega (arith, d.loop-i.invariant.shares.long, d.requires.totals.2.long); range = adding-range _ _ _ _ d.loop-i.invariant.shares 2048 shares_most few (lit≤ tt) }

pub loop-i-init : goal.loop-i-init
loop-i-init c = let t = c.requires.totals in record {
  passed = turn-start _;
  congestion = adding-start _ _ _ _ t.0.range;
  loss = adding-start _ _ _ _ t.1.range;
  shares = adding-start _ _ _ _ t.2.range;
}

pub returns-in_default-clause-value : goal.returns-in_default-clause-value
returns-in_default-clause-value c = let a = c.args in
    ap answer c.and.ensures ∙ first-refused (row_refusal_at a.participants a.locations a.rows.now) (row_at a.rows.now) c.loop-i.i c.loop-i.invariant.passed _ c.in_default.not-Ok c.row_at-decoded.ensures _ c.loop-i-test.true

pub add_row-requires : goal.add_row-requires
add_row-requires c = let d = (goal.at.add_row-requires c).In-Ok in (row-wider (congestion-now d).long (tested d), d.requires.table.0, (congestion-now d).range)

pub add_row-requires-in-loop-i : goal.add_row-requires-in-loop-i
add_row-requires-in-loop-i c = let d = (goal.at.add_row-requires-in-loop-i c).In-Ok in (row-wider (loss-now d).long (tested d), d.requires.table.1, (loss-now d).range)

pub add_share-requires : goal.add_share-requires
add_share-requires c = let d = (goal.at.add_share-requires c).In-Ok in ((row-wider (shares-now d).long (tested d)).participant, (tested d).kw, (shares-now d).range)

pub loop-i-preserved : goal.loop-i-preserved
loop-i-preserved c = let d = (goal.at.loop-i-preserved c).In-Ok in
    let a = d.args in record {
      passed = next (row_refusal_at a.participants a.locations a.rows.now) (row_at a.rows.now) d.loop-i.i d.loop-i.invariant.passed (row d) (decoded d);
      congestion = owner-next _ _ _ _ _ d.loop-i.invariant.congestion (row d) (is d) (omega (arith, (tested d).participant, (congestion-now d).long)) c.add_row.ensures (part-range d.requires.table.0 (tested d));
      loss = owner-next _ _ _ _ _ d.loop-i.invariant.loss (row d) (is d) (omega (arith, (tested d).participant, (loss-now d).long)) c.add_row-in-loop-i.ensures (part-range d.requires.table.1 (tested d));
      shares = owner-next _ _ _ _ _ d.loop-i.invariant.shares (row d) (is d) (omega (arith, (tested d).participant, (shares-now d).long)) c.add_share.ensures (share-range (row d) (tested d).kw);
    }
