use Rattle.std.proofs.Common.{◌≡◌, ℕ, List, ◌+◌, ◌≤◌, length, sym, ap, ◌∙◌, arith}
use Rattle.std.specs.Prelude.{ℤ, Ok}
use Rattle.refusals.specs.Number.{answer}
use lib.Dec.{lit≤}
use Rattle.ints.specs.Table.{◌at◌}
use Rattle.ints.proofs.Adding.{adding-start, adding-next, adding-range}
use Rattle.ints.proofs.Turns.{turn-start}
use Rattle.exercise.specs.File.{transaction_at}
use Rattle.exercise.specs.Inside.{decoded_transaction_at}
use Rattle.exercise.specs.Order.{transaction_refusal_at}
use Rattle.hour.specs.InsideTested.{TransactionTested}
use Rattle.hour.specs.declared.Edition.{Edition}
use Rattle.hour.specs.declared.Transaction.{Transaction}
use Rattle.hour.specs.InsideParts.{weight_in}
use Rattle.hour.specs.InsideTotals.{hour_most}
use Rattle.hour.proofs.Legs.{adds-within}
use Rattle.hour.proofs.Tested.{transaction-wider}
use Rattle.hour_weights.specs.Inside.{Table}
use Rattle.hour_weights.proofs.Weights.{weight-range}
use Rattle.hour_totals.specs.Inside.{transaction_added}
use Rattle.hour_totals.proofs.Added.{length-added, added-at}
use Rattle.hour_charge.specs.Inside.{Totals}
use Rattle.hour_charge.proofs.Decoded.{transaction-is, transaction-passed, next, first-refused}
use Rattle.hour_charge.proofs.charge_transactions.Goals as goal
use Rattle.hour_charge.proofs.charge_transactions.Goals.{In-Ok}
use Rattle.hour_charge.proofs.charge_transactions.Invariants.{Charging}

-- one transaction more, whatever its edition
one_more : (edition : Edition) (transactions : List ℕ) (i : ℕ) {locations : ℕ} {table before totals after : List ℤ} {t : Transaction}
    → TransactionTested (length totals) locations t → Table locations table → Charging edition transactions locations table before i totals → transaction_at edition transactions i ≡ t
    → after ≡ transaction_added edition (weight_in table locations) t totals → Charging edition transactions locations table before (i + 1) after
one_more edition transactions i {locations = locations} {table = table} {totals = totals} {t = t} q h a is stored =
    let counts = weight_in table locations in
    adding-next _ _ _ _ a t is
    (λ p. ap (λ (xs : List ℤ). xs at p) stored ∙ added-at counts t totals q.participant q.seller p edition)
    (λ p. adds-within counts (weight-range h) edition t q.kw p)
    (ap length stored ∙ length-added counts t totals edition)

-- a transaction that was decoded in the loop
module _ (d : In-Ok) where
  abbrev transaction : Transaction
  transaction = d.in-Ok.transaction

  decoded : decoded_transaction_at d.args.edition d.args.participants d.args.locations d.args.transactions.now d.loop-i.i ≡ Ok transaction
  decoded = sym d.in-Ok.ensures

  is : transaction_at d.args.edition d.args.transactions.now d.loop-i.i ≡ transaction
  is = transaction-is d.args.edition d.args.participants d.args.locations d.args.transactions.now d.loop-i.i transaction decoded

  tested : TransactionTested d.args.participants d.args.locations transaction
  tested = transaction-passed d.args.edition d.args.participants d.args.locations d.args.transactions.now d.loop-i.i transaction decoded

  few : d.loop-i.i ≤ 256
  few = omega (arith, d.requires.n_bound.0, d.loop-i-test.true)

  congestion-now : Totals d.args.participants d.loop-i.exact_congestion hour_most
  congestion-now = record { long = omega (arith, d.loop-i.invariant.congestion.long, d.requires.totals.0.long); range = adding-range _ _ _ _ d.loop-i.invariant.congestion 256 hour_most few (lit≤ tt) }

  loss-now : Totals d.args.participants d.loop-i.exact_loss hour_most
  loss-now = record { long = omega (arith, d.loop-i.invariant.loss.long, d.requires.totals.1.long); range = adding-range _ _ _ _ d.loop-i.invariant.loss 256 hour_most few (lit≤ tt) }

pub loop-i-init : goal.loop-i-init
loop-i-init c = let t = c.requires.totals in record { passed = turn-start _; congestion = adding-start _ _ _ _ t.0.range; loss = adding-start _ _ _ _ t.1.range }

pub returns-in_default-clause-value : goal.returns-in_default-clause-value
returns-in_default-clause-value c = let a = c.args in
    ap answer c.and.ensures ∙ first-refused (transaction_refusal_at a.edition a.participants a.locations a.transactions.now) (transaction_at a.edition a.transactions.now) c.loop-i.i c.loop-i.invariant.passed _ c.in_default.not-Ok c.transaction_at-decoded.ensures _ c.loop-i-test.true

pub add_transaction-requires : goal.add_transaction-requires
add_transaction-requires c = let d = (goal.at.add_transaction-requires c).In-Ok in (transaction-wider (congestion-now d).long (tested d), d.requires.table.0, (congestion-now d).range)

pub add_transaction-requires-in-loop-i : goal.add_transaction-requires-in-loop-i
add_transaction-requires-in-loop-i c = let d = (goal.at.add_transaction-requires-in-loop-i c).In-Ok in (transaction-wider (loss-now d).long (tested d), d.requires.table.1, (loss-now d).range)

pub loop-i-preserved : goal.loop-i-preserved
loop-i-preserved c = let d = (goal.at.loop-i-preserved c).In-Ok in
    let a = d.args in
    let s = a.transactions.now in
    let t = d.requires.table in record {
      passed = next (transaction_refusal_at a.edition a.participants a.locations s) (transaction_at a.edition s) d.loop-i.i d.loop-i.invariant.passed (transaction d) (decoded d);
      congestion = one_more a.edition s d.loop-i.i (transaction-wider (congestion-now d).long (tested d)) t.0 d.loop-i.invariant.congestion (is d) c.add_transaction.ensures;
      loss = one_more a.edition s d.loop-i.i (transaction-wider (loss-now d).long (tested d)) t.1 d.loop-i.invariant.loss (is d) c.add_transaction-in-loop-i.ensures;
    }
