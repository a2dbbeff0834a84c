-- Rows and transactions alike, and a file whose lists have their lengths. Assumes nothing.
use Rattle.std.specs.Prelude.{◌≡◌, List, ℕ, ◌*◌, ℤ}
use Rattle.ints.specs.Table.{tab}
use Rattle.numbers.specs.Bytes.{encoded}
use Rattle.exercise.specs.File.{header, row_at, transaction_at, edition_in}
use Rattle.exercise.specs.Lists.{row_numbers, transaction_length, transaction_numbers, in_turns}
use Rattle.exercise.specs.Order.{frame_refusal}
use Rattle.exercise.specs.declared.Item.{Item}

-- the numbers of item i of a stretch
abbrev pub numbers_at : Item → List ℕ → ℕ → List ℤ
numbers_at Item.Row s i = row_numbers (row_at s i)
numbers_at (Item.Transaction edition) s i = transaction_numbers edition (transaction_at edition s i)

-- those of the first n, as a list
abbrev pub listed_at : Item → List ℕ → ℕ → List ℕ
listed_at item s n = encoded (in_turns (λ numbers. numbers) (tab (numbers_at item s) n))

-- a file that passes the order to its length, and lists of so many bytes as its header asks for
pub record Long (file : List ℕ) (prices row_list transaction_list : ℕ) : Type 0 where
  pub frame : frame_refusal file ≡ 0
  pub prices-long : prices ≡ 8 * (26 * (header file).locations)
  pub rows_long : row_list ≡ 8 * (6 * (header file).rows)
  pub transactions-long : transaction_list ≡ 8 * (transaction_length (edition_in file) * (header file).transactions)
