-- Causes of an hour in lists of numbers, as loops go through them. Assumes nothing.
use Rattle.std.specs.Prelude.{List, ℕ, ◌≤◌}
use Rattle.hour.specs.Cause.{Cause, row_cause, transaction_cause}
use Rattle.exercise.specs.Lists.{row_given, transaction_given}
use Rattle.exercise.specs.declared.Header.{Header}
use Rattle.exercise.specs.declared.Item.{Item}

-- item i of a list: a row, or a transaction of an edition; neither has spare bits
abbrev pub cause_given : Item → ℕ → ℕ → List ℕ → ℕ → Cause
cause_given Item.Row participants locations list i = row_cause participants locations i (row_given list i) 0
cause_given (Item.Transaction edition) participants locations list i = transaction_cause participants locations i (transaction_given edition list i) 0

-- counts that have passed
pub record Taken (h : Header) : Type 0 where
  pub some-participants : 1 ≤ h.participants
  pub few-participants : h.participants ≤ 64
  pub some-locations : 1 ≤ h.locations
  pub few-locations : h.locations ≤ 64
  pub few-rows : h.rows ≤ 2048
  pub few-transactions : h.transactions ≤ 256
