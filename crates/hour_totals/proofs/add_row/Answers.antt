use mathlib.Core.Path.{◌≡◌, ap₂, ◌∙◌}
use lib.IntN.{◌*ℤ◌}
use Rattle.ints.proofs.Sizes.{w-add, w_fits}
use Rattle.hour_totals.specs.Inside.{part_in}
use Rattle.hour_totals.proofs.Sizes.{part-range}
use Rattle.hour_totals.proofs.add_row.Goals as goal
use Rattle.hour_totals.proofs.add_row.Goals.{After-charge_of-amount}

-- what is added is the row's part
amount : (c : After-charge_of-amount) → let a = c.args in c.charge_of-amount.result.0 ≡ part_in a.table.now a.locations a.row
amount c = c.charge_of-amount.ensures ∙ ap₂ ◌*ℤ◌ c.net_kw.ensures c.weight_of-weight.ensures

pub add_amount-requires : goal.add_amount-requires
add_amount-requires c = (c.requires.0.participant, rw (amount (goal.at.add_amount-requires c).After-charge_of-amount) (w_fits (w-add (c.requires.2.each c.args.row.participant) (part-range c.requires.1 c.requires.0)) tt))
