-- Decoding (document 01, "The exercise file"): "Decoding one row gives the row or its refusal." Assumes nothing.
use Rattle.std.specs.Prelude.{List, ℕ, eqb, ℤ, pos, nat_abs, length, Result, Ok, Err}
use Rattle.ints.specs.Number.{between}
use Rattle.ints.specs.Refusal.{pick, unless}
use Rattle.ints.specs.Turn.{◌then◌}
use Rattle.hour.specs.declared.Row.{Row}
use Rattle.hour.specs.declared.Transaction.{Transaction}
use Rattle.hour.specs.declared.Edition.{Edition}
use Rattle.exercise.specs.Layout.{row_size, transaction_size}
use Rattle.exercise.specs.File.{row_at, transaction_at}
use Rattle.exercise.specs.Order.{row_refusal_at, transaction_refusal_at}

-- ---- what is decoded: what was read, or the number of its refusal; and the number of each case: 0 for what was read, and else its refusal

abbrev pub decoded : {A : Type 0} → ℕ → A → Result A ℕ
decoded refusal x = pick (eqb refusal 0) (Ok x) (Err refusal)

abbrev pub decoded_refusal : {A : Type 0} → Result A ℕ → ℕ
decoded_refusal (Ok x) = 0
decoded_refusal (Err refusal) = refusal

-- ---- one by itself

-- "It is given the counts of participants and locations: 1 for a count outside 1 to 64, then 9 for other than six bytes": `bytes` are given and `size` are asked for
abbrev pub given_refusal : ℤ → ℤ → ℕ → ℕ → ℕ
given_refusal participants locations bytes size =
    unless (between (pos 1) (pos 64) participants) 1
    (unless (between (pos 1) (pos 64) locations) 1
    (unless (eqb bytes size) 9
    0))

-- a count as a natural number: one below 0 is refused
abbrev pub count_of : ℤ → ℕ
count_of count = nat_abs count

-- "then the row's own order"
abbrev pub row_alone_refusal : ℤ → ℤ → List ℕ → ℕ
row_alone_refusal participants locations bytes =
    given_refusal participants locations (length bytes) row_size
    then row_refusal_at (count_of participants) (count_of locations) bytes 0

abbrev pub decoded_row : ℤ → ℤ → List ℕ → Result Row ℕ
decoded_row participants locations bytes = decoded (row_alone_refusal participants locations bytes) (row_at bytes 0)

-- a transaction of an edition likewise: document 01 has no order for it, and docs/DECISIONS.md gives it the row's
abbrev pub transaction_alone_refusal : Edition → ℤ → ℤ → List ℕ → ℕ
transaction_alone_refusal edition participants locations bytes =
    given_refusal participants locations (length bytes) (transaction_size edition)
    then transaction_refusal_at edition (count_of participants) (count_of locations) bytes 0

abbrev pub decoded_transaction : Edition → ℤ → ℤ → List ℕ → Result Transaction ℕ
decoded_transaction edition participants locations bytes =
    decoded (transaction_alone_refusal edition participants locations bytes) (transaction_at edition bytes 0)
