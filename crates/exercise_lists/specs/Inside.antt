-- The order of an hour's content, as loops go through its lists. Assumes nothing.
use Rattle.std.specs.Prelude.{List, ℕ}
use Rattle.ints.specs.Turn.{in_turn}
use Rattle.numbers.specs.Bytes.{number_at}
use Rattle.hour.specs.Order.{row_refusal, transaction_refusal}
use Rattle.exercise.specs.Inside.{price_refusal}
use Rattle.exercise.specs.Lists.{row_given, transaction_given}
use Rattle.exercise.specs.declared.Item.{Item}

-- the first n prices of a list in turn
abbrev pub prices_given_refusal : List ℕ → ℕ → ℕ
prices_given_refusal list n = in_turn (λ j. price_refusal (number_at list j)) n

-- item i of a list
abbrev pub refusal_given : Item → ℕ → ℕ → List ℕ → ℕ → ℕ
refusal_given Item.Row participants locations list i = row_refusal participants locations (row_given list i)
refusal_given (Item.Transaction edition) participants locations list i = transaction_refusal participants locations (transaction_given edition list i)
