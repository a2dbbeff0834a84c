use mathlib.Core.Path.{◌≡◌, ap₂, ◌∙◌}
use native.Mathlib.Omega.{arith}
use Rattle.ints.proofs.Refusals.{lent-result}
use Rattle.refusals.specs.Number.{answer}
use Rattle.hour.specs.Cause.{surplus_cause}
use Rattle.hour.proofs.Billed.{loss-charges, the-shares, the-surplus}
use Rattle.exercise.specs.File.{hour_of}
use Rattle.exercise.proofs.Whole.{small}
use Rattle.hour_find.proofs.charged_cause.Goals as goal

pub rounded_cause-requires : goal.rounded_cause-requires
rounded_cause-requires c = let e = c.requires.empty in let k = c.charge_hour.auto in
    (omega (arith, k.exact_loss, e.1.each, (small c.args.file.now).participants), omega (arith, k.shares, e.2.each, (small c.args.file.now).participants))

pub returns : goal.returns
returns c = let e = c.requires.empty in
    let hour = hour_of c.args.file.now in
    let none : answer c.charge_hour.result ≡ 0 = c.charge_hour.ensures.value ∙ c.requires.file_value_2 in
    c.rounded_cause.ensures
    ∙ ap₂ surplus_cause
    (the-surplus hour _ (loss-charges hour e.1.each (c.charge_hour.ensures.exact_loss_after ∙ lent-result _ _ _ none)))
    (the-shares hour e.2.each (c.charge_hour.ensures.shares_after ∙ lent-result _ _ _ none))
