-- The order of an hour that is handed over, as loops go through its lists. Assumes nothing.
use mathlib.Core.Path.{◌≡◌, sym, ap, ap₂, ◌∙◌}
use mathlib.Core.List.{List}
use Prim.Native.Nat.{ℕ, ◌*◌}
use lib.IntN.{ℤ, pos}
use Rattle.ints.specs.Refusal.{unless}
use Rattle.ints.specs.Table.{all}
use Rattle.ints.specs.Turn.{◌then◌, in_turn}
use Rattle.ints.proofs.Eachs.{turn-all}
use Rattle.ints.proofs.Turns.{then-nothing, order-tab, turn-ext}
use Rattle.numbers.specs.Bytes.{number_at}
use Rattle.hour.specs.Hour.{Hour}
use Rattle.hour.specs.Order.{is_price, row_refusal, packed_row_refusal, transaction_refusal, packed_transaction_refusal, prices_refusal, rows_refusal, transactions_refusal, content_refusal}
use Rattle.hour.specs.declared.Row.{Row}
use Rattle.hour.specs.declared.Transaction.{Transaction}
use Rattle.exercise.specs.Inside.{price_refusal}
use Rattle.exercise.specs.declared.Item.{Item}
use Rattle.exercise.specs.Layout.{edition_of}
use Rattle.exercise.specs.Lists.{content, row_given, transaction_given, hour_given, no_spare}
use Rattle.exercise.proofs.Content.{four-lists}
use Rattle.exercise_lists.specs.Inside.{prices_given_refusal, refusal_given}

-- a row without spare bits
row-alone : (participants locations : ℕ) (row : Row) → packed_row_refusal participants locations row 0 ≡ row_refusal participants locations row
unfolding packed_row_refusal
row-alone participants locations row = then-nothing (row_refusal participants locations row)

-- .. and a transaction
transaction-alone : (participants locations : ℕ) (t : Transaction) → packed_transaction_refusal participants locations t 0 ≡ transaction_refusal participants locations t
unfolding packed_transaction_refusal
transaction-alone participants locations t = then-nothing (transaction_refusal participants locations t)

module _ (p l n m e : ℕ) (prices row_list transaction_list : List ℕ) where
  abbrev hour : Hour
  hour = hour_given (content (pos p) (pos l) (pos n) (pos m) (pos e) prices row_list transaction_list)

  prices-are : prices_given_refusal prices (26 * l) ≡ prices_refusal hour
  unfolding prices_refusal price_refusal
  prices-are = turn-all is_price (number_at prices) 1 (26 * l) ∙ ap (λ (xs : List ℤ). unless (all is_price xs) 2 0) (four-lists (number_at prices) l)

  rows_are : in_turn (refusal_given Item.Row p l row_list) n ≡ rows_refusal hour no_spare
  unfolding rows_refusal
  rows_are =
      turn-ext _ _ n (λ i _. sym (row-alone p l (row_given row_list i)))
      ∙ sym (order-tab (λ i row. packed_row_refusal p l row (no_spare.row i)) (row_given row_list) n)

  transactions-are : in_turn (refusal_given (Item.Transaction (edition_of e)) p l transaction_list) m ≡ transactions_refusal hour no_spare
  unfolding transactions_refusal
  transactions-are =
      turn-ext _ _ m (λ i _. sym (transaction-alone p l (transaction_given (edition_of e) transaction_list i)))
      ∙ sym (order-tab (λ i t. packed_transaction_refusal p l t (no_spare.transaction i)) (transaction_given (edition_of e) transaction_list) m)

  pub content-is : (prices_given_refusal prices (26 * l) then in_turn (refusal_given Item.Row p l row_list) n then in_turn (refusal_given (Item.Transaction (edition_of e)) p l transaction_list) m) ≡ content_refusal hour no_spare
  unfolding content_refusal
  content-is = ap₂ (λ (x y : ℕ). x then y) prices-are (ap₂ (λ (x y : ℕ). x then y) rows_are transactions-are)
