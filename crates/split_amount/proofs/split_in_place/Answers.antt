use mathlib.Core.Path.{◌≡◌, sym, ap, ◌∙◌}
use lib.IntN.{ℤ, nat_abs}
use lib.ListN.{length}
use mir.Facts.{to_z-of_z}
use Rattle.ints.specs.Number.{below0}
use Rattle.ints.proofs.Refusals.{lent-result}
use Rattle.split.specs.Split.{parts, split_refusal}
use Rattle.split_parts.proofs.Parts.{amount-made}
use Rattle.split_amount.proofs.Given.{size-given}
use Rattle.split_amount.proofs.split_in_place.Goals as goal
use Rattle.split_amount.proofs.split_in_place.Goals.{After-size-size}

-- the shares have passed the tests
module _ (c : After-size-size) where
  pub accepted : split_refusal c.args.amount c.args.numbers.now (length c.args.numbers.now) ≡ 0
  accepted = sym (c.in_ok-total.ensures.refusal_value ∙ ap (λ (z : ℤ). split_refusal z c.args.numbers.now (length c.args.numbers.now)) (to_z-of_z c.ranges.amount))

  pub size_is : c.size-size.result ≡ nat_abs c.args.amount
  size_is = c.size-size.ensures ∙ ap nat_abs (to_z-of_z c.ranges.amount)

pub fill_in_place-requires : goal.fill_in_place-requires
fill_in_place-requires c = let a = c.args in
    let s = (goal.at.fill_in_place-requires c).After-size-size in
    size-given a.amount a.numbers.now (length a.numbers.now) _ c.size-size.result (accepted s) c.in_ok-total.ensures.total_value (size_is s)

pub returns-clause-numbers_after : goal.returns-clause-numbers_after
returns-clause-numbers_after c = let a = c.args in
    let s = (goal.at.returns-clause-numbers_after c).After-size-size in
    c.fill_in_place.ensures ∙ amount-made a.amount a.numbers.now _ _ (c.negative-neg.ensures ∙ ap below0 (to_z-of_z c.ranges.amount)) (size_is s)
    ∙ sym (lent-result _ (parts a.amount a.numbers.now) a.numbers.now (accepted s))
