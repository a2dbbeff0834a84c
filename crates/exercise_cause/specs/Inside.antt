-- Causes of the rows and transactions of a file, as loops go through them. Assumes nothing.
use Rattle.std.specs.Prelude.{List, ℕ}
use Rattle.hour.specs.Cause.{Cause, row_cause, transaction_cause}
use Rattle.exercise.specs.File.{row_at, row_spare, packed_row, transaction_at, transaction_spare, packed_transaction}
use Rattle.exercise.specs.declared.Item.{Item}

-- item i of a stretch: a row, or a transaction of an edition
abbrev pub cause_at : Item → ℕ → ℕ → List ℕ → ℕ → Cause
cause_at Item.Row participants locations s i = row_cause participants locations i (row_at s i) (row_spare (packed_row s i))
cause_at (Item.Transaction edition) participants locations s i =
    transaction_cause participants locations i (transaction_at edition s i) (transaction_spare edition (packed_transaction edition s i))
