use mathlib.Core.Path.{◌≡◌, refl, sym, ap, ◌∙◌}
use Rattle.std.proofs.lemmas.Result.{err_from_is_err_and}
use Rattle.refusals.proofs.Numbers.{number-not-zero}
use Rattle.exercise.specs.Order.{frame_refusal, in_numbers}
use Rattle.exercise.specs.declared.Header.{Header}
use Rattle.exercise.proofs.Whole.{whole}
use Rattle.exercise.specs.File.{hour_of}
use Rattle.hour_settle.specs.Inside.{Outputs}
use Rattle.exercise.proofs.Order.{ends-early, ends_there, goes_on}
use Rattle.hour_settle.proofs.settle.Goals as goal
use Rattle.hour_settle.proofs.settle.Goals.{After-read_header-n, Else-net-n, Start}

module _ (h : After-read_header-n) where
  abbrev start : Start
  start = (goal.at.After-read_header-n h).Start

  passes : frame_refusal start.args.file.now ≡ 0
  passes = sym h.in_ok-frame_refusal.ensures

  count : h.read_header-n.result.participants ≡ (hour_of start.args.file.now).participants
  count = ap (λ (x : Header). x.participants) h.read_header-n.ensures

module _ (a : Else-net-n) where
  abbrev head : After-read_header-n
  head = (goal.at.Else-net-n a).After-read_header-n

  all-long : Outputs (hour_of (start head).args.file.now).participants (start head).args.congestion.now (start head).args.loss.now (start head).args.credit.now (start head).args.net.now
  all-long = record {
    congestion-each = a.if-congestion-n.false ∙ count head;
    loss-each = a.if-loss-n.false ∙ count head;
    credit-each = a.if-credit-n.false ∙ count head;
    net-each = a.if-net-n.false ∙ count head;
  }

pub returns-in_err-frame_refusal-clause-value : goal.returns-in_err-frame_refusal-clause-value
returns-in_err-frame_refusal-clause-value c = let p = err_from_is_err_and c.from_residual.result c.from_residual.ensures.1 in
    rw (p.1, p.2) (ends-early in_numbers _ _ _ _ _ _ (number-not-zero _) c.in_err-frame_refusal.ensures)

pub read_header-n-requires : goal.read_header-n-requires
read_header-n-requires c = (whole _ (sym c.in_ok-frame_refusal.ensures)).begun

pub returns-then-congestion-n : goal.returns-then-congestion-n
returns-then-congestion-n c = record {
  value = ends_there in_numbers _ _ _ _ _ (passes (goal.at.returns-then-congestion-n c).After-read_header-n) (λ e. c.if-congestion-n.true (e.0 ∙ sym (count (goal.at.returns-then-congestion-n c).After-read_header-n)));
  congestion_after = refl;
  loss_after = refl;
  credit_after = refl;
  net_after = refl;
}

pub returns-then-loss-n : goal.returns-then-loss-n
returns-then-loss-n c = record {
  value = ends_there in_numbers _ _ _ _ _ (passes (goal.at.returns-then-loss-n c).After-read_header-n) (λ e. c.if-loss-n.true (e.1 ∙ sym (count (goal.at.returns-then-loss-n c).After-read_header-n)));
  congestion_after = refl;
  loss_after = refl;
  credit_after = refl;
  net_after = refl;
}

pub returns-then-credit-n : goal.returns-then-credit-n
returns-then-credit-n c = record {
  value = ends_there in_numbers _ _ _ _ _ (passes (goal.at.returns-then-credit-n c).After-read_header-n) (λ e. c.if-credit-n.true (e.2 ∙ sym (count (goal.at.returns-then-credit-n c).After-read_header-n)));
  congestion_after = refl;
  loss_after = refl;
  credit_after = refl;
  net_after = refl;
}

pub returns-then-net-n : goal.returns-then-net-n
returns-then-net-n c = record {
  value = ends_there in_numbers _ _ _ _ _ (passes (goal.at.returns-then-net-n c).After-read_header-n) (λ e. c.if-net-n.true (e.3 ∙ sym (count (goal.at.returns-then-net-n c).After-read_header-n)));
  congestion_after = refl;
  loss_after = refl;
  credit_after = refl;
  net_after = refl;
}

pub returns : goal.returns
returns c = let o = all-long (goal.at.returns c).Else-net-n in
    let e = c.settle_whole.ensures in record {
      value = c.settle_whole.ensures.value ∙ goes_on in_numbers _ _ _ _ _ (passes (head (goal.at.returns c).Else-net-n)) o.congestion-each o.loss-each o.credit-each o.net-each;
      congestion_after = e.congestion_after;
      loss_after = e.loss_after;
      credit_after = e.credit_after;
      net_after = e.net_after;
    }
