use Rattle.std.proofs.Common.{refl, ap, ◌∙◌}
use Rattle.ints.specs.Table.{tab}
use Rattle.ints.proofs.Refusals.{lent-before}
use Rattle.refusals.proofs.Numbers.{number-not-zero}
use Rattle.exercise.specs.File.{hour_of}
use Rattle.hour.specs.Charges.{exact_congestion_of, exact_loss_of}
use Rattle.hour.specs.Surplus.{share_of}
use Rattle.hour.proofs.Billed.{congestion-totals, loss-totals, share-totals}
use Rattle.hour_charge.proofs.Added.{as-they-were}
use Rattle.hour_charge.proofs.charge_hour.Goals as goal

pub returns-in-Err-clause-exact_congestion_after : goal.returns-in-Err-clause-exact_congestion_after
returns-in-Err-clause-exact_congestion_after c = as-they-were c.requires.totals.0.range c.charge_file.auto.exact_congestion c.clear.ensures ∙ lent-before _ _ _ (number-not-zero c.in-Err.refusal)

pub returns-in-Err-clause-exact_loss_after : goal.returns-in-Err-clause-exact_loss_after
returns-in-Err-clause-exact_loss_after c = as-they-were c.requires.totals.1.range c.charge_file.auto.exact_loss c.clear-in-Err.ensures ∙ lent-before _ _ _ (number-not-zero c.in-Err.refusal)

pub returns-in-Err-clause-shares_after : goal.returns-in-Err-clause-shares_after
returns-in-Err-clause-shares_after c = as-they-were c.requires.totals.2.range c.charge_file.auto.shares c.clear-in-Err-2.ensures ∙ lent-before _ _ _ (number-not-zero c.in-Err.refusal)

pub returns-clause-exact_congestion_after : goal.returns-clause-exact_congestion_after
returns-clause-exact_congestion_after c = let hour = hour_of c.args.file.now in
    congestion-totals hour (c.in_default.ensures.charged refl) ∙ ap (tab (exact_congestion_of hour)) c.charge_file.auto.exact_congestion

pub returns-clause-exact_loss_after : goal.returns-clause-exact_loss_after
returns-clause-exact_loss_after c = let hour = hour_of c.args.file.now in
    loss-totals hour (c.in_default.ensures.charged_2 refl) ∙ ap (tab (exact_loss_of hour)) c.charge_file.auto.exact_loss

pub returns-clause-shares_after : goal.returns-clause-shares_after
returns-clause-shares_after c = let hour = hour_of c.args.file.now in
    share-totals hour (c.in_default.ensures.shared refl) ∙ ap (tab (share_of hour)) c.charge_file.auto.shares
