-- What the widths let a header say, and the order over the stretches of a file, as loops go through them. Assumes nothing.
use Rattle.std.specs.Prelude.{List, ℕ, ◌+◌, ◌≤◌, ℤ, Result}
use Rattle.ints.specs.Refusal.{unless}
use Rattle.ints.specs.Turn.{◌then◌, in_turn}
use Rattle.hour.specs.Order.{is_price}
use Rattle.hour.specs.declared.Edition.{Edition}
use Rattle.hour.specs.declared.Row.{Row}
use Rattle.hour.specs.declared.Transaction.{Transaction}
use Rattle.exercise.specs.Decoding.{decoded}
use Rattle.exercise.specs.Layout.{row_size, transaction_size, edition_of}
use Rattle.exercise.specs.Lists.{transaction_length}
use Rattle.exercise.specs.File.{price_count, price_at, row_at, transaction_at}
use Rattle.exercise.specs.Order.{row_refusal_at, transaction_refusal_at}
use Rattle.exercise.specs.Written.{packed, count_fields}
use Rattle.exercise.specs.declared.Header.{Header}
use Rattle.exercise.specs.declared.Item.{Item}

pub record Small (h : Header) : Type 0 where
  pub participants : h.participants ≤ 64
  pub locations : h.locations ≤ 64
  pub rows : h.rows ≤ 4095
  pub transactions : h.transactions ≤ 1023

-- ---- an item is a row or a transaction: how many bytes it has in a file, and how many numbers in a list

abbrev pub item_size : Item → ℕ
item_size Item.Row = row_size
item_size (Item.Transaction edition) = transaction_size edition

abbrev pub item_length : Item → ℕ
item_length Item.Row = 6
item_length (Item.Transaction edition) = transaction_length edition

-- ---- the first n prices, rows and transactions of a stretch

unfoldable pub price_refusal : ℤ → ℕ
price_refusal price = unless (is_price price) 2 0

abbrev pub prices_in_refusal : List ℕ → ℕ → ℕ
prices_in_refusal s n = in_turn (λ j. price_refusal (price_at s j)) n

-- of n prices from price j on
abbrev pub prices_from_refusal : List ℕ → ℕ → ℕ → ℕ
prices_from_refusal s j n = in_turn (λ i. price_refusal (price_at s (j + i))) n

abbrev pub rows_in_refusal : ℕ → ℕ → List ℕ → ℕ → ℕ
rows_in_refusal participants locations s n = in_turn (row_refusal_at participants locations s) n

abbrev pub transactions_in_refusal : Edition → ℕ → ℕ → List ℕ → ℕ → ℕ
transactions_in_refusal edition participants locations s n = in_turn (transaction_refusal_at edition participants locations s) n

-- rows, then transactions; and prices before them
abbrev pub both_refusal : Header → List ℕ → List ℕ → ℕ
both_refusal h rows transactions =
    rows_in_refusal h.participants h.locations rows h.rows
    then transactions_in_refusal (edition_of h.edition) h.participants h.locations transactions h.transactions

abbrev pub stretches_refusal : Header → List ℕ → List ℕ → List ℕ → ℕ
stretches_refusal h prices rows transactions = prices_in_refusal prices (price_count h) then both_refusal h rows transactions

-- ---- what is decoded at a place of a stretch

abbrev pub decoded_row_at : ℕ → ℕ → List ℕ → ℕ → Result Row ℕ
decoded_row_at participants locations s i = decoded (row_refusal_at participants locations s i) (row_at s i)

abbrev pub decoded_transaction_at : Edition → ℕ → ℕ → List ℕ → ℕ → Result Transaction ℕ
decoded_transaction_at edition participants locations s i =
    decoded (transaction_refusal_at edition participants locations s i) (transaction_at edition s i)

-- ---- a header of so many participants, locations, rows and transactions, packed

abbrev pub header_bits : ℕ → ℕ → ℕ → ℕ → ℕ → ℕ
header_bits p l r t e = packed (count_fields p l r t e)
