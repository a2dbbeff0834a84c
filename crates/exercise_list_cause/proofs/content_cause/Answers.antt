use mathlib.Core.Path.{◌≡◌, ◌∙◌}
use Prim.Native.Nat.{◌*◌}
use Rattle.std.proofs.lemmas.Result.{err_from_is_err_and}
use Rattle.numbers.specs.Bytes.{number_at}
use Rattle.hour.specs.Cause.{◌or◌, price_cause, content_cause}
use Rattle.hour.specs.InsideCause.{first_from}
use Rattle.hour.proofs.Told.{passed, stopped}
use Rattle.exercise.specs.Lists.{counted, hour_given, no_spare}
use Rattle.exercise.specs.declared.Item.{Item}
use Rattle.exercise_list_cause.specs.Inside.{cause_given}
use Rattle.exercise_list_cause.proofs.Given.{content-is}
use Rattle.exercise_list_cause.proofs.content_cause.Goals as goal
use Rattle.exercise_list_cause.proofs.content_cause.Goals.{After-edition_of-edition}

order : (c : After-edition_of-edition) → let h = c.args.header in let l = c.args.lists in
    (first_from (λ j. price_cause j (number_at l.prices.now j)) 0 (26 * h.locations)
    or first_from (cause_given Item.Row h.participants h.locations l.rows.now) 0 h.rows
    or first_from (cause_given (Item.Transaction c.edition_of-edition.result) h.participants h.locations l.transactions.now) 0 h.transactions)
    ≡ content_cause (hour_given (counted h l)) no_spare
order c = content-is c.args.header c.args.lists _ c.edition_of-edition.ensures

pub returns-in_err-prices_cause : goal.returns-in_err-prices_cause
returns-in_err-prices_cause c =
    let p = err_from_is_err_and c.from_residual.result c.from_residual.ensures.1 in
    rw (p.1, p.2) (stopped _ _ _ c.in_err-prices_cause.ensures ∙ order (goal.at.returns-in_err-prices_cause c).After-edition_of-edition)

pub returns-in_err-first_cause : goal.returns-in_err-first_cause
returns-in_err-first_cause c =
    let p = err_from_is_err_and c.from_residual-in_err-first_cause.result c.from_residual-in_err-first_cause.ensures.1 in
    rw (p.1, p.2) (passed _ _ _ c.in_ok-prices_cause.ensures (stopped _ _ _ c.in_err-first_cause.ensures) ∙ order (goal.at.returns-in_err-first_cause c).After-edition_of-edition)

pub returns : goal.returns
returns c = passed _ _ _ c.in_ok-prices_cause.ensures (passed _ _ _ c.in_ok-first_cause.ensures c.first_cause-2.ensures) ∙ order (goal.at.returns c).After-edition_of-edition
