use mathlib.Core.Path.{◌≡◌, refl, sym, ap, ◌∙◌, subst}
use mathlib.Core.List.{List}
use Prim.Native.Nat.{ℕ}
use lib.IntN.{ℤ}
use lib.ListN.{length}
use mir.Syntax.{w64}
use mir.Val.{to_z, of_z}
use mir.Facts.{to_z-of_z}
use borrow.Author.Rules.{sfits_of}
use Rattle.std.proofs.Common.{eqb}
use Rattle.ints.specs.InsideRange.{InRange}
use Rattle.ints.specs.Refusal.{pick}
use Rattle.ints.specs.Sum.{sum}
use Rattle.ints.proofs.Refusals.{lent-result}
use Rattle.refusals.specs.Number.{answer}
use Rattle.split.specs.Split.{parts, split_refusal}
use Rattle.hour.specs.InsideTotals.{most_cents}
use Rattle.hour.specs.Order.{surplus_refusal}
use Rattle.hour.proofs.Credits.{renumbered, credits-cents}
use Rattle.hour_credits.proofs.bill.Goals as goal
use Rattle.hour_credits.proofs.bill.Goals.{After-split_in_place, Start}

-- ---- after the split: its refusal, renumbered, is that of the surplus, and the credits are the parts
module _ (c : After-split_in_place) where
  abbrev s : Start
  s = (goal.at.After-split_in_place c).Start

  abbrev shares : List ℤ
  shares = s.args.credit.now

  abbrev surplus : ℤ
  surplus = sum s.args.loss.now

  surplus-is : to_z w64 (of_z w64 c.sum-surplus.result) ≡ surplus
  surplus-is = to_z-of_z {w = w64} (sfits_of c.sum-surplus.type_inv) ∙ c.sum-surplus.ensures

  answer-is : answer c.split_in_place.result ≡ split_refusal surplus shares (length shares)
  answer-is = c.split_in_place.ensures.value ∙ ap (λ (z : ℤ). split_refusal z shares (length shares)) surplus-is

  told : pick (eqb (answer c.split_in_place.result) 2) 10 (answer c.split_in_place.result) ≡ surplus_refusal surplus shares
  told = ap (λ (r : ℕ). pick (eqb r 2) 10 r) answer-is ∙ sym (renumbered surplus shares (length shares) s.requires.some s.requires.few s.requires.natural refl)

  -- the split accepts
  module _ (none : answer c.split_in_place.result ≡ 0) where
    made : c.split_in_place.new.numbers ≡ parts surplus shares
    made = c.split_in_place.ensures.numbers_after ∙ lent-result _ _ shares (sym c.split_in_place.ensures.value ∙ none) ∙ ap (λ (z : ℤ). parts z shares) surplus-is

    credit-cents : InRange c.split_in_place.new.numbers most_cents
    credit-cents = subst (λ (l : List ℤ). InRange l most_cents) (sym made) (credits-cents surplus shares (length shares) (sym answer-is ∙ none))

pub returns-in-Err-clause-value : goal.returns-in-Err-clause-value
returns-in-Err-clause-value c = c.of_surplus.ensures ∙ ap (λ (r : ℕ). pick (eqb r 2) 10 r) (ap answer (sym c.in-Err.is)) ∙ told (goal.at.returns-in-Err-clause-value c).After-split_in_place

pub write_nets-requires-clause-in_range : goal.write_nets-requires-clause-in_range
write_nets-requires-clause-in_range c = (c.requires.congestion-cents, c.requires.loss-cents, credit-cents (goal.at.write_nets-requires-clause-in_range c).After-split_in_place (ap answer c.in_default.is))

pub returns-clause-value : goal.returns-clause-value
returns-clause-value c = ap (λ (r : ℕ). pick (eqb r 2) 10 r) (sym (ap answer c.in_default.is)) ∙ told (goal.at.returns-clause-value c).After-split_in_place
