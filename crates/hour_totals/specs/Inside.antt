-- What a row or a transaction adds to totals. Assumes nothing.
use Rattle.std.specs.Prelude.{List, ℕ, ℤ, pos, ◌+ℤ◌, ◌*ℤ◌, set}
use Rattle.ints.specs.Table.{◌at◌}
use Rattle.hour.specs.declared.Edition.{Edition}
use Rattle.hour.specs.declared.Row.{Row}
use Rattle.hour.specs.declared.Transaction.{Transaction}
use Rattle.hour.specs.Hour.{withdraws}
use Rattle.hour.specs.InsideParts.{sign, weight_in, buyer_part, seller_part}

-- what a row adds to its participant's total
abbrev pub part_in : List ℤ → ℕ → Row → ℤ
part_in table locations r =
    sign (withdraws r.kind) *ℤ pos r.kw.0 *ℤ weight_in table locations r.market r.interval r.location

-- totals with an amount added to p's
abbrev pub plus : List ℤ → ℕ → ℤ → List ℤ
plus totals p amount = set totals p (totals at p +ℤ amount)

-- totals with a transaction's parts, by what a kW counts: to its participant, and with a seller also to that
unfoldable pub transaction_added : Edition → (ℕ → ℕ → ℕ → ℤ) → Transaction → List ℤ → List ℤ
transaction_added Edition.PathOnly counts t totals = plus totals t.participant (buyer_part Edition.PathOnly counts t)
transaction_added Edition.WithSeller counts t totals =
    plus (plus totals t.participant (buyer_part Edition.WithSeller counts t)) t.seller (seller_part Edition.WithSeller counts t)
