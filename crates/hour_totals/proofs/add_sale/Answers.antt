use mathlib.Core.Path.{◌≡◌, sym, ap, ap₂, ◌∙◌, subst}
use mathlib.Core.List.{List}
use Prim.Native.Nat.{ℕ, ◌<◌}
use native.Mathlib.Omega.{arith}
use lib.ListN.{length}
use lib.IntN.{ℤ, neg_ℤ, ◌+ℤ◌, ◌*ℤ◌}
use mir.Val.{SFits}
use mir.Syntax.{w64}
use Rattle.ints.specs.Table.{◌at◌}
use Rattle.ints.specs.InsideRange.{Within, InRange}
use Rattle.ints.proofs.Sizes.{w-add, w-neg, w_fits}
use Rattle.hour.specs.declared.Edition.TheVariants as Edition
use Rattle.hour.specs.InsideParts.{weight_in, buyer_part, seller_part}
use Rattle.hour_totals.proofs.Added.{length-plus, plus-range}
use Rattle.hour_totals.proofs.Sizes.{sale-range}
use Rattle.hour_totals.specs.Inside.{plus, transaction_added}
use Rattle.hour_totals.proofs.add_sale.Goals as goal
use Rattle.hour_totals.proofs.add_sale.Goals.{After-add_amount, After-charge_of-amount, Start}

-- what is added for the seller, and taken back for the participant
module _ (c : After-charge_of-amount) where
  abbrev start : Start
  start = (goal.at.After-charge_of-amount c).Start

  abbrev counts : ℕ → ℕ → ℕ → ℤ
  counts = weight_in start.args.table.now start.args.locations

  abbrev seller-part : ℤ
  seller-part = seller_part Edition.WithSeller counts start.args.transaction

  own : c.charge_of-amount.result.0 ≡ seller-part
  unfolding seller_part
  own = c.charge_of-amount.ensures ∙ ap₂ ◌*ℤ◌ c.withdrawn.ensures c.weight_of-weight.ensures

  range : Within seller-part 2400000000000000
  range = sale-range start.requires.1 start.requires.0

-- the participant's total first
module _ (c : After-add_amount) where
  abbrev charged : After-charge_of-amount
  charged = (goal.at.After-add_amount c).After-charge_of-amount

  abbrev begun : Start
  begun = start charged

  abbrev paid : List ℤ
  paid = plus begun.args.totals.now begun.args.transaction.participant (neg_ℤ (seller-part charged))

  first : c.add_amount.new.totals ≡ paid
  first =
      c.add_amount.ensures
      ∙ ap (λ (z : ℤ). plus begun.args.totals.now begun.args.transaction.participant z) (c.reimbursed.ensures ∙ ap neg_ℤ (own charged))

  there : begun.args.transaction.participant < length begun.args.totals.now
  there = begun.requires.0.participant

  there-too : begun.args.transaction.seller < length paid
  there-too = omega (arith, begun.requires.0.seller, length-plus begun.args.totals.now begun.args.transaction.participant (neg_ℤ (seller-part charged)))

  in-range : InRange paid 6146400000000000000
  in-range = plus-range begun.args.transaction.participant begun.requires.2 there (w-neg (range charged))

pub add_amount-requires : goal.add_amount-requires
add_amount-requires c = let s = start (goal.at.add_amount-requires c).After-charge_of-amount in (
  s.requires.0.participant,
  rw (c.reimbursed.ensures ∙ ap neg_ℤ (own (goal.at.add_amount-requires c).After-charge_of-amount)) (w_fits (w-add (s.requires.2.each s.args.transaction.participant) (w-neg (range (goal.at.add_amount-requires c).After-charge_of-amount))) tt),
)

pub add_amount-requires-2 : goal.add_amount-requires-2
add_amount-requires-2 c = let seller = (begun (goal.at.add_amount-requires-2 c).After-add_amount).args.transaction.seller in
    let fits : SFits w64 (paid (goal.at.add_amount-requires-2 c).After-add_amount at seller +ℤ seller-part (charged (goal.at.add_amount-requires-2 c).After-add_amount)) = w_fits (w-add ((in-range (goal.at.add_amount-requires-2 c).After-add_amount).each seller) (range (charged (goal.at.add_amount-requires-2 c).After-add_amount))) tt in (
      subst (λ (xs : List ℤ). seller < length xs) (sym (first (goal.at.add_amount-requires-2 c).After-add_amount)) (there-too (goal.at.add_amount-requires-2 c).After-add_amount),
      subst (λ (z : ℤ). SFits w64 (c.add_amount.new.totals at seller +ℤ z)) (sym (own (charged (goal.at.add_amount-requires-2 c).After-add_amount))) (subst (λ (xs : List ℤ). SFits w64 (xs at seller +ℤ seller-part (charged (goal.at.add_amount-requires-2 c).After-add_amount))) (sym (first (goal.at.add_amount-requires-2 c).After-add_amount)) fits),
    )

pub returns : goal.returns
unfolding transaction_added buyer_part seller_part
returns c = c.add_amount-2.ensures ∙ ap₂ (λ (xs : List ℤ) (z : ℤ). plus xs (begun (goal.at.returns c).After-add_amount).args.transaction.seller z) (first (goal.at.returns c).After-add_amount) (own (charged (goal.at.returns c).After-add_amount))
