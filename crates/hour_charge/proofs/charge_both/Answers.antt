use Rattle.std.proofs.Common.{◌≡◌, ℕ, List, refl, subst}
use Rattle.std.specs.Prelude.{ℤ}
use Rattle.hour.specs.declared.Edition.{Edition}
use Rattle.exercise.specs.File.{transactions_in}
use Rattle.hour_charge.specs.Inside.{TransactionsAdded}
use Rattle.hour_charge.proofs.Added.{shared, both-added}
use Rattle.hour_charge.proofs.charge_both.Goals as goal

-- what was added in the edition that was read
in-edition : {edition own : Edition} (s : List ℕ) (n locations : ℕ) (table : List ℤ) {before after : List ℤ} → edition ≡ own
    → TransactionsAdded edition (transactions_in edition s n) locations table before after → TransactionsAdded own (transactions_in own s n) locations table before after
in-edition s n locations table {before} {after} = subst (λ (edition : Edition). TransactionsAdded edition (transactions_in edition s n) locations table before after)

pub returns-clause-both_added : goal.returns-clause-both_added
returns-clause-both_added c = let a = c.args in
    let h = a.header in
    λ z. both-added h _ _ _ c.requires.totals.0.range (c.in_ok-charge_rows.ensures.rows_added refl).0 (in-edition a.transactions.now h.transactions h.locations a.congestion.now c.edition_of.ensures (c.charge_transactions.ensures.transactions_added z))

pub returns-clause-both_added_2 : goal.returns-clause-both_added_2
returns-clause-both_added_2 c = let a = c.args in
    let h = a.header in
    λ z. both-added h _ _ _ c.requires.totals.1.range (c.in_ok-charge_rows.ensures.rows_added_2 refl).0 (in-edition a.transactions.now h.transactions h.locations a.loss.now c.edition_of.ensures (c.charge_transactions.ensures.transactions_added_2 z))

pub returns-clause-shared : goal.returns-clause-shared
returns-clause-shared c = λ _. shared _ c.args.header.rows c.requires.totals.2.range (c.in_ok-charge_rows.ensures.shares_added refl)
