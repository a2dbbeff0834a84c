use mathlib.Core.Path.{◌≡◌, refl, sym, ap, ap₂, ◌∙◌, subst}
use mathlib.Core.List.{List}
use Prim.Native.Nat.{ℕ}
use native.Mathlib.Omega.{arith}
use lib.IntN.{ℤ}
use lib.ListN.{length}
use Rattle.ints.specs.InsideRange.{InRange}
use Rattle.ints.specs.Refusal.{lent}
use Rattle.ints.proofs.Refusals.{lent-result}
use Rattle.ints.proofs.Turns.{then-follows}
use Rattle.refusals.specs.Number.{answer}
use Rattle.exercise.specs.File.{hour_of}
use Rattle.exercise.proofs.Whole.{small, some-participant}
use Rattle.hour.specs.InsideTotals.{Natural, rounded}
use Rattle.hour.specs.Charges.{congestion_charges_of, loss_charges_of}
use Rattle.hour.specs.Hour.{Hour}
use Rattle.hour.specs.Surplus.{shares}
use Rattle.hour.proofs.Billed.{congestion-charges, loss-charges, the-shares, shares-natural, the-refusal, the-credits, net-lists}
use Rattle.hour_charge.proofs.Added.{as-they-were}
use Rattle.hour_settle.specs.Inside.{zeros}
use Rattle.hour_settle.proofs.settle_whole.Goals as goal
use Rattle.hour_settle.proofs.settle_whole.Goals.{After-charge_hour, In_ok-charge_hour, Start}

-- the list as it is made, or as it was
outcome : (r : ℕ) {result own before : List ℤ} {n : ℕ} → result ≡ own → InRange before 0 → n ≡ length before → lent r result (zeros n) ≡ lent r own before
outcome r e z l = ap₂ (lent r) e (as-they-were z l refl)

-- where the file was charged: what is handed on is what the file's lists are made of
module _ (l : In_ok-charge_hour) where
  abbrev charged : After-charge_hour
  charged = (goal.at.In_ok-charge_hour l).After-charge_hour

  abbrev start : Start
  start = (goal.at.In_ok-charge_hour l).Start

  abbrev hour : Hour
  hour = hour_of start.args.file.now

  congestion-made : rounded charged.charge_hour.new.exact_congestion ≡ congestion_charges_of hour
  congestion-made = congestion-charges hour start.requires.outputs.congestion-each (charged.charge_hour.ensures.exact_congestion_after ∙ lent-result _ _ _ (ap answer l.in_ok-charge_hour.was))

  loss-made : rounded charged.charge_hour.new.exact_loss ≡ loss_charges_of hour
  loss-made = loss-charges hour start.requires.outputs.loss-each (charged.charge_hour.ensures.exact_loss_after ∙ lent-result _ _ _ (ap answer l.in_ok-charge_hour.was))

  shared : charged.charge_hour.new.shares ≡ shares hour
  shared = the-shares hour start.requires.outputs.credit-each (charged.charge_hour.ensures.shares_after ∙ lent-result _ _ _ (ap answer l.in_ok-charge_hour.was))

pub round_and_bill-requires : goal.round_and_bill-requires
round_and_bill-requires c = let s = start (goal.at.round_and_bill-requires c).In_ok-charge_hour in
    let o = s.requires.outputs in
    let k = (charged (goal.at.round_and_bill-requires c).In_ok-charge_hour).charge_hour.auto in
    let n = k.shares ∙ o.credit-each in
    record {
      some = omega (arith, n, some-participant s.args.file.now);
      few = omega (arith, n, (small s.args.file.now).participants);
      congestion-each = k.exact_congestion ∙ o.congestion-each ∙ sym n;
      loss-each = k.exact_loss ∙ o.loss-each ∙ sym n;
      net-each = o.net-each ∙ sym n;
      natural = subst Natural (sym (shared (goal.at.round_and_bill-requires c).In_ok-charge_hour)) (shares-natural (hour (goal.at.round_and_bill-requires c).In_ok-charge_hour));
    }

pub returns : goal.returns
returns c = let z = (start (goal.at.returns c).In_ok-charge_hour).requires.cleared in
    let k = (charged (goal.at.returns c).In_ok-charge_hour).charge_hour.auto in
    let r = answer c.round_and_bill.result in
    let e = c.round_and_bill.ensures in record {
      value = e.value ∙ the-refusal (hour (goal.at.returns c).In_ok-charge_hour) _ _ (loss-made (goal.at.returns c).In_ok-charge_hour) (shared (goal.at.returns c).In_ok-charge_hour) ∙ then-follows _ _ _ (ap answer c.in_ok-charge_hour.was) (charged (goal.at.returns c).In_ok-charge_hour).charge_hour.ensures.value;
      congestion_after = e.congestion_after ∙ outcome r (congestion-made (goal.at.returns c).In_ok-charge_hour) z.congestion-empty k.exact_congestion;
      loss_after = e.loss_after ∙ outcome r (loss-made (goal.at.returns c).In_ok-charge_hour) z.loss-empty k.exact_loss;
      credit_after = e.credit_after ∙ outcome r (the-credits (hour (goal.at.returns c).In_ok-charge_hour) _ _ (loss-made (goal.at.returns c).In_ok-charge_hour) (shared (goal.at.returns c).In_ok-charge_hour)) z.credit-empty k.shares;
      net_after = e.net_after ∙ ap₂ (lent r) (net-lists (hour (goal.at.returns c).In_ok-charge_hour) _ _ (loss-made (goal.at.returns c).In_ok-charge_hour) (shared (goal.at.returns c).In_ok-charge_hour) _ (congestion-made (goal.at.returns c).In_ok-charge_hour)) refl;
    }
