use Rattle.std.proofs.Common.{◌≡◌, ℕ, List}
use Rattle.std.specs.Prelude.{ℤ}
use Rattle.ints.proofs.Adding.{Adding}
use Rattle.ints.specs.InsideEvery.{to_owner}
use Rattle.exercise.specs.File.{row_at}
use Rattle.hour_totals.specs.Inside.{part_in}
use Rattle.hour.specs.Surplus.{share_kw}
use Rattle.exercise.specs.Inside.{rows_in_refusal}
use Rattle.hour_charge.proofs.charge_rows.Given as goal

abbrev pub Sharing : List ℕ → List ℤ → ℕ → List ℤ → Type 0
Sharing rows before i shares = Adding (to_owner (λ r. r.participant) share_kw) (row_at rows) 0 20000000 before i shares

-- totals to which the first i rows, and shares to which their kW, have been added
abbrev pub Charging : List ℕ → ℕ → List ℤ → List ℤ → ℕ → List ℤ → Type 0
Charging rows locations table before i totals = Adding (to_owner (λ r. r.participant) (part_in table locations)) (row_at rows) 0 2400000000000000 before i totals

abbrev pub invariant-loop-i : goal.invariant-loop-i
invariant-loop-i l = record {
  passed : rows_in_refusal l.participants l.locations l.rows l.i ≡ 0;
  congestion : Charging l.rows l.locations l.congestion l.initial.exact_congestion l.i l.exact_congestion;
  loss : Charging l.rows l.locations l.loss l.initial.exact_loss l.i l.exact_loss;
  shares : Sharing l.rows l.initial.shares l.i l.shares;
}
