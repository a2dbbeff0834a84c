use Rattle.std.proofs.Common.{◌≡◌, ℕ, List, ◌*◌, refl, sym, ap, ◌∙◌, subst}
use Rattle.std.proofs.lemmas.Result.{err_from_is_err_and}
use Rattle.ints.proofs.Turns.{then-ends, then-follows}
use Rattle.refusals.specs.Number.{answer}
use Rattle.refusals.proofs.Numbers.{number-not-zero}
use Rattle.exercise.specs.File.{prices_from}
use Rattle.exercise.specs.Inside.{prices_from_refusal}
use Rattle.hour.specs.InsideParts.{listed_prices}
use Rattle.hour_weights.specs.Inside.{Listed}
use Rattle.hour_charge.proofs.Priced.{congestion-is, loss-is, listed, in_order_lem, at-prices}
use Rattle.hour_charge.proofs.charge_priced.Goals as goal
use Rattle.hour_charge.proofs.charge_priced.Goals.{After-read_list, After-read_list-2}

-- the congestion prices as they are read
module _ (r : After-read_list) where
  abbrev locations : ℕ
  locations = r.args.header.locations

  abbrev prices : List ℕ
  prices = r.args.prices.now

  congestion-answer : answer r.read_list.result ≡ prices_from_refusal prices 0 (13 * locations)
  congestion-answer = r.read_list.ensures.value ∙ ap (prices_from_refusal prices 0) r.requires.congestion_len.0

  congestion-list : r.read_list.new.list ≡ prices_from prices 0 (13 * locations)
  congestion-list = r.read_list.ensures.list_after ∙ ap (prices_from prices 0) r.requires.congestion_len.0

-- .. and then the loss prices
module _ (t : After-read_list-2) where
  abbrev first : After-read_list
  first = (goal.at.After-read_list-2 t).After-read_list

  -- the first list was accepted
  accepted : 0 ≡ prices_from_refusal (prices first) 0 (13 * locations first)
  accepted = t.in_ok-read_list.ensures.value ∙ ap (prices_from_refusal (prices first) 0) t.requires.congestion_len.0

  loss-answer : answer t.read_list-2.result ≡ prices_from_refusal (prices first) (13 * locations first) (13 * locations first)
  loss-answer = t.read_list-2.ensures.value ∙ ap (prices_from_refusal (prices first) (13 * locations first)) t.requires.congestion_len.1

  loss-list : t.read_list-2.new.list ≡ prices_from (prices first) (13 * locations first) (13 * locations first)
  loss-list = t.read_list-2.ensures.list_after ∙ ap (prices_from (prices first) (13 * locations first)) t.requires.congestion_len.1

pub returns-in_err-read_list-clause-value : goal.returns-in_err-read_list-clause-value
returns-in_err-read_list-clause-value c = let p = err_from_is_err_and c.from_residual.result c.from_residual.ensures.1 in
    let r = (goal.at.returns-in_err-read_list-clause-value c).After-read_list in
    let a = c.args in
    rw (p.1, p.2)
    (then-ends _ _ _ (number-not-zero _) (ap answer (sym c.in_err-read_list.was) ∙ congestion-answer r)
    ∙ sym (in_order_lem a.header a.prices.now a.rows.now a.transactions.now))

pub returns-in_err-read_list-2-clause-value : goal.returns-in_err-read_list-2-clause-value
returns-in_err-read_list-2-clause-value c = let p = err_from_is_err_and c.from_residual-in_err-read_list-2.result c.from_residual-in_err-read_list-2.ensures.1 in
    let t = (goal.at.returns-in_err-read_list-2-clause-value c).After-read_list-2 in
    let a = c.args in
    rw (p.1, p.2)
    (then-ends _ _ _ (number-not-zero _) (ap answer (sym c.in_err-read_list-2.was) ∙ loss-answer t)
    ∙ then-follows _ _ 0 refl (accepted t)
    ∙ sym (in_order_lem a.header a.prices.now a.rows.now a.transactions.now))

pub charge_listed-requires-clause-listed : goal.charge_listed-requires-clause-listed
charge_listed-requires-clause-listed c = let t = (goal.at.charge_listed-requires-clause-listed c).After-read_list-2 in
    let r = first t in
    let n = locations r in
    let few = c.requires.stretches.locations in (
      subst (Listed n) (sym (congestion-list r)) (listed (prices r) n 0 few (sym (accepted t))),
      subst (Listed n) (sym (loss-list t)) (listed (prices r) n (13 * n) few (sym (loss-answer t) ∙ ap answer c.in_ok-read_list-2.was)),
    )

pub returns-clause-value : goal.returns-clause-value
returns-clause-value c = let t = (goal.at.returns-clause-value c).After-read_list-2 in
    let a = c.args in
    c.charge_listed.ensures.value
    ∙ then-follows _ _ 0 refl (ap answer (sym c.in_ok-read_list-2.was) ∙ loss-answer t)
    ∙ then-follows _ _ 0 refl (accepted t)
    ∙ sym (in_order_lem a.header a.prices.now a.rows.now a.transactions.now)

pub returns-clause-charged_in : goal.returns-clause-charged_in
returns-clause-charged_in c = let r = first (goal.at.returns-clause-charged_in c).After-read_list-2 in
    λ z. at-prices (ap (listed_prices (locations r)) (congestion-list r) ∙ congestion-is (prices r) (locations r)) (c.charge_listed.ensures.charged_in z)

pub returns-clause-charged_in_2 : goal.returns-clause-charged_in_2
returns-clause-charged_in_2 c = let t = (goal.at.returns-clause-charged_in_2 c).After-read_list-2 in
    let r = first t in
    λ z. at-prices (ap (listed_prices (locations r)) (loss-list t) ∙ loss-is (prices r) (locations r)) (c.charge_listed.ensures.charged_in_2 z)
