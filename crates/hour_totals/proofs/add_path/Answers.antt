use mathlib.Core.Path.{◌≡◌, ap, ap₂, ◌∙◌}
use lib.IntN.{ℤ, pos, ◌+ℤ◌, ◌-ℤ◌, ◌*ℤ◌}
use lib.ListN.{set}
use Rattle.ints.specs.Table.{◌at◌}
use Rattle.ints.proofs.Sizes.{w-add, w_fits}
use Rattle.hour.specs.declared.Edition.TheVariants as Edition
use Rattle.hour.specs.InsideParts.{weight_in, buyer_part}
use Rattle.hour_totals.specs.Inside.{transaction_added}
use Rattle.hour_totals.proofs.Sizes.{path-range}
use Rattle.hour_totals.proofs.add_path.Goals as goal
use Rattle.hour_totals.proofs.add_path.Goals.{After-struct_known-1}

-- what is added is the transaction's part
amount : (c : After-struct_known-1) → let a = c.args in c.path_part-amount.result.0 ≡ buyer_part Edition.PathOnly (weight_in a.table.now a.locations) a.transaction
unfolding buyer_part
amount c =
    c.path_part-amount.ensures
    ∙ ap (λ (z : ℤ). pos c.args.transaction.kw.0 *ℤ z) (ap₂ ◌-ℤ◌ c.weight_of-sink.ensures c.weight_of-source.ensures)

pub add_amount-requires : goal.add_amount-requires
add_amount-requires c = (
  c.requires.0.participant,
  rw (amount c) (w_fits (w-add (c.requires.2.each c.args.transaction.participant) (path-range c.requires.1 c.requires.0)) tt),
)

pub returns : goal.returns
unfolding transaction_added
returns c = c.add_amount.ensures ∙ ap (λ (z : ℤ). set c.args.totals.now c.args.transaction.participant (c.args.totals.now at c.args.transaction.participant +ℤ z)) (amount (goal.at.returns c).After-struct_known-1)
