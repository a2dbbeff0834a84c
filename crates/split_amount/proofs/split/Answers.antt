use mathlib.Core.Path.{◌≡◌, sym, ap, ◌∙◌}
use lib.IntN.{ℤ, nat_abs}
use lib.ListN.{length}
use mir.Facts.{to_z-of_z}
use Rattle.ints.specs.Number.{below0}
use Rattle.ints.proofs.Refusals.{lent-result}
use Rattle.split.specs.Split.{parts, split_refusal}
use Rattle.split_parts.proofs.Parts.{amount-made}
use Rattle.split_amount.proofs.Given.{size-given}
use Rattle.split_amount.proofs.split.Goals as goal
use Rattle.split_amount.proofs.split.Goals.{After-size-size}

-- the shares have passed the tests, and there are as many parts
module _ (c : After-size-size) where
  pub accepted : split_refusal c.args.amount c.args.shares.now (length c.args.parts.now) ≡ 0
  accepted =
      ap (split_refusal c.args.amount c.args.shares.now) c.if-parts-shares.false
      ∙ sym (c.in_ok-total.ensures.refusal_value ∙ ap (λ (z : ℤ). split_refusal z c.args.shares.now (length c.args.shares.now)) (to_z-of_z c.ranges.amount))

  pub size_is : c.size-size.result ≡ nat_abs c.args.amount
  size_is = c.size-size.ensures ∙ ap nat_abs (to_z-of_z c.ranges.amount)

pub fill-requires-clause-size_given : goal.fill-requires-clause-size_given
fill-requires-clause-size_given c = let a = c.args in
    let s = (goal.at.fill-requires-clause-size_given c).After-size-size in
    size-given a.amount a.shares.now (length a.parts.now) _ c.size-size.result (accepted s) c.in_ok-total.ensures.total_value (size_is s)

pub returns-clause-parts_after : goal.returns-clause-parts_after
returns-clause-parts_after c = let a = c.args in
    let s = (goal.at.returns-clause-parts_after c).After-size-size in
    c.fill.ensures ∙ amount-made a.amount a.shares.now _ _ (c.negative-neg.ensures ∙ ap below0 (to_z-of_z c.ranges.amount)) (size_is s)
    ∙ sym (lent-result _ (parts a.amount a.shares.now) a.parts.now (accepted s))
