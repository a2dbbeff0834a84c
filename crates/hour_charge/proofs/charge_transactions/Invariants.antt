use Rattle.std.proofs.Common.{◌≡◌, ℕ, List}
use Rattle.std.specs.Prelude.{ℤ}
use Rattle.ints.proofs.Adding.{Adding}
use Rattle.exercise.specs.File.{transaction_at}
use Rattle.hour.specs.declared.Edition.{Edition}
use Rattle.hour.specs.InsideParts.{weight_in, adds_to}
use Rattle.hour.specs.InsideTotals.{rows_most}
use Rattle.exercise.specs.Inside.{transactions_in_refusal}
use Rattle.hour_charge.proofs.charge_transactions.Given as goal

-- totals to which the first i transactions have been added
abbrev pub Charging : Edition → List ℕ → ℕ → List ℤ → List ℤ → ℕ → List ℤ → Type 0
Charging edition transactions locations table before i totals = Adding (adds_to edition (weight_in table locations)) (transaction_at edition transactions) rows_most 4800000000000000 before i totals

abbrev pub invariant-loop-i : goal.invariant-loop-i
invariant-loop-i l = record {
  passed : transactions_in_refusal l.edition l.participants l.locations l.transactions l.i ≡ 0;
  congestion : Charging l.edition l.transactions l.locations l.congestion l.initial.exact_congestion l.i l.exact_congestion;
  loss : Charging l.edition l.transactions l.locations l.loss l.initial.exact_loss l.i l.exact_loss;
}
