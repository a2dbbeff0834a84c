use mathlib.Core.Path.{◌≡◌, sym, ◌∙◌, subst}
use Rattle.hour.specs.InsideParts.{weighed}
use Rattle.hour_weights.specs.Inside.{Table}
use Rattle.hour_weights.proofs.Weights.{table}
use Rattle.hour_charge.proofs.Total.{charged}
use Rattle.hour_charge.proofs.charge_listed.Goals as goal
use Rattle.hour_charge.proofs.charge_listed.Goals.{After-weigh, After-weigh-2, Start}

module _ (w : After-weigh-2) where
  abbrev first : After-weigh
  first = (goal.at.After-weigh-2 w).After-weigh

  abbrev given : Start
  given = (goal.at.After-weigh-2 w).Start

  congestion-is : first.weigh.new.list ≡ weighed given.args.header.locations given.args.congestion.now
  congestion-is = first.weigh.ensures

  loss-is : w.weigh-2.new.list ≡ weighed given.args.header.locations given.args.loss.now
  loss-is = w.weigh-2.ensures

pub charge_both-requires : goal.charge_both-requires
charge_both-requires c = let s = given (goal.at.charge_both-requires c).After-weigh-2 in
    let n = s.args.header.locations in record {
      rows_bound = s.requires.rows_bound;
      table = (subst (Table n) (sym (congestion-is (goal.at.charge_both-requires c).After-weigh-2)) (table s.requires.listed.0), subst (Table n) (sym (loss-is (goal.at.charge_both-requires c).After-weigh-2)) (table s.requires.listed.1));
      totals = s.requires.totals;
    }

pub returns : goal.returns
returns c = let h = (given (goal.at.returns c).After-weigh-2).args.header in
    let e = c.charge_both.ensures in record {
      value = e.value;
      charged_in = λ z. charged h _ _ (congestion-is (goal.at.returns c).After-weigh-2) _ _ (sym e.value ∙ z) (e.both_added z);
      charged_in_2 = λ z. charged h _ _ (loss-is (goal.at.returns c).After-weigh-2) _ _ (sym e.value ∙ z) (e.both_added_2 z);
      shared = e.shared;
    }
