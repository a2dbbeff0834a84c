use mathlib.Core.Path.{ap, sym, ◌∙◌}
use native.Mathlib.Omega.{arith}
use lib.ListN.{length}
use Rattle.hour.specs.Cause.{Cause}
use Rattle.exercise.specs.Layout.{edition_of}
use Rattle.exercise.proofs.Causes.{Listed, lists-number}
use Rattle.exercise.proofs.Lists.{lists-right}
use Rattle.exercise_list_cause.proofs.counted_cause.Goals as goal

pub content_cause-requires-clause-lists : goal.content_cause-requires-clause-lists
content_cause-requires-clause-lists c = let h = c.args.header in
    let lists = c.args.lists in
    let few : Listed h.locations h.rows h.transactions = record { locations = c.requires.few-locations; rows = c.requires.few-rows; transactions = c.requires.few-transactions } in
    let l = lists-right _ _ _ _ _ _ _ (sym (lists-number h.locations h.rows h.transactions (edition_of h.edition) (length lists.prices.now) (length lists.rows.now) (length lists.transactions.now) few) ∙ ap (λ (x : Cause). x.refusal) (sym c.in_ok-lists_cause.ensures)) in
    (omega (arith, l.0), omega (arith, l.1), omega (arith, l.2))
