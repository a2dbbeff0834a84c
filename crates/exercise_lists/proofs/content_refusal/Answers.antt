use mathlib.Core.Path.{◌≡◌, refl, ap, ◌∙◌}
use Prim.Native.Nat.{◌*◌}
use Rattle.std.proofs.lemmas.Result.{err_from_is_err_and}
use Rattle.ints.specs.Turn.{◌then◌, in_turn}
use Rattle.ints.proofs.Turns.{then-ends, then-follows}
use Rattle.refusals.proofs.Numbers.{number-not-zero}
use Rattle.hour.specs.Order.{content_refusal}
use Rattle.hour.specs.declared.Edition.{Edition}
use Rattle.exercise.specs.Layout.{edition_of}
use Rattle.exercise.specs.Lists.{counted, hour_given, no_spare}
use Rattle.exercise.specs.declared.Item.{Item}
use Rattle.exercise_lists.specs.Inside.{prices_given_refusal, refusal_given}
use Rattle.exercise_lists.proofs.Given.{content-is}
use Rattle.exercise_lists.proofs.content_refusal.Goals as goal
use Rattle.exercise_lists.proofs.content_refusal.Goals.{Start}

-- the order in its three parts
order : (c : Start) → let h = c.args.header in let lists = c.args.lists in
    (prices_given_refusal lists.prices.now (26 * h.locations)
    then in_turn (refusal_given Item.Row h.participants h.locations lists.rows.now) h.rows
    then in_turn (refusal_given (Item.Transaction (edition_of h.edition)) h.participants h.locations lists.transactions.now) h.transactions)
    ≡ content_refusal (hour_given (counted h lists)) no_spare
order c = let h = c.args.header in let lists = c.args.lists in
    content-is h.participants h.locations h.rows h.transactions h.edition lists.prices.now lists.rows.now lists.transactions.now

pub returns-in_err-prices_refusal : goal.returns-in_err-prices_refusal
returns-in_err-prices_refusal c = let p = err_from_is_err_and c.from_residual.result c.from_residual.ensures.1 in
    rw (p.1, p.2) (then-ends _ _ _ (number-not-zero _) c.in_err-prices_refusal.ensures ∙ order (goal.at.returns-in_err-prices_refusal c).Start)

pub returns-in_err-refusal_in_turn : goal.returns-in_err-refusal_in_turn
returns-in_err-refusal_in_turn c = let p = err_from_is_err_and c.from_residual-in_err-refusal_in_turn.result c.from_residual-in_err-refusal_in_turn.ensures.1 in
    rw (p.1, p.2)
    (then-ends _ _ _ (number-not-zero _) c.in_err-refusal_in_turn.ensures
    ∙ then-follows _ _ 0 refl c.in_ok-prices_refusal.ensures
    ∙ order (goal.at.returns-in_err-refusal_in_turn c).Start)

pub returns : goal.returns
returns c = let h = c.args.header in
    c.refusal_in_turn-2.ensures
    ∙ ap (λ (e : Edition). in_turn (refusal_given (Item.Transaction e) h.participants h.locations c.args.lists.transactions.now) h.transactions) c.edition_of-edition.ensures
    ∙ then-follows _ _ 0 refl c.in_ok-refusal_in_turn.ensures
    ∙ then-follows _ _ 0 refl c.in_ok-prices_refusal.ensures
    ∙ order (goal.at.returns c).Start
