-- Rows and transactions alike: what one function tells of either. Assumes nothing.
use Rattle.std.specs.Prelude.{List, ℕ, ℤ, nat_abs, length}
use Rattle.ints.specs.Turn.{◌then◌}
use Rattle.exercise.specs.Decoding.{given_refusal}
use Rattle.exercise.specs.Inside.{item_size}
use Rattle.exercise.specs.Order.{row_refusal_at, transaction_refusal_at}
use Rattle.exercise.specs.declared.Item.{Item}

-- the refusal of row i of a stretch of rows, or of transaction i of a stretch of transactions
abbrev pub refusal_at : Item → ℕ → ℕ → List ℕ → ℕ → ℕ
refusal_at Item.Row participants locations s i = row_refusal_at participants locations s i
refusal_at (Item.Transaction edition) participants locations s i = transaction_refusal_at edition participants locations s i

-- that of one by itself
abbrev pub alone_refusal : Item → ℤ → ℤ → List ℕ → ℕ
alone_refusal item participants locations bytes =
    given_refusal participants locations (length bytes) (item_size item)
    then refusal_at item (nat_abs participants) (nat_abs locations) bytes 0
