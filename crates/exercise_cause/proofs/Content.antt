-- The causes of an hour's content, as loops go through the stretches of its file. Assumes nothing.
use mathlib.Core.Path.{◌≡◌, sym, ap, ap₂, ◌∙◌}
use mathlib.Core.List.{List}
use Prim.Native.Nat.{ℕ, ◌*◌}
use Rattle.hour.specs.Cause.{Cause, ◌or◌, first_cause, price_cause, row_cause, transaction_cause, prices_cause, rows_cause, transactions_cause, content_cause}
use Rattle.hour.specs.InsideCause.{first_from}
use Rattle.hour.proofs.Causes.{cause-tab}
use Rattle.exercise.specs.File.{header, price_at, row_at, transaction_at, price_bytes, row_bytes, transaction_bytes, edition_in, hour_of}
use Rattle.exercise.specs.Layout.{edition_of}
use Rattle.exercise.specs.Order.{spare_of}
use Rattle.exercise.specs.declared.Header.{Header}
use Rattle.exercise.specs.declared.Item.{Item}
use Rattle.exercise.proofs.Content.{four-lists}
use Rattle.exercise_cause.specs.Inside.{cause_at}

-- the three loops over the stretches of a file with such a header
abbrev pub stretches_cause : Header → List ℕ → List ℕ → List ℕ → Cause
stretches_cause h prices rows transactions =
    first_from (λ j. price_cause j (price_at prices j)) 0 (26 * h.locations)
    or first_from (cause_at Item.Row h.participants h.locations rows) 0 h.rows
    or first_from (cause_at (Item.Transaction (edition_of h.edition)) h.participants h.locations transactions) 0 h.transactions

module _ (file : List ℕ) where
  prices-are : first_from (λ j. price_cause j (price_at (price_bytes file) j)) 0 (26 * (header file).locations) ≡ prices_cause (hour_of file)
  unfolding prices_cause
  prices-are =
      sym (cause-tab price_cause (price_at (price_bytes file)) (26 * (header file).locations))
      ∙ ap (first_cause price_cause 0) (four-lists (price_at (price_bytes file)) (header file).locations)

  rows_are : first_from (cause_at Item.Row (header file).participants (header file).locations (row_bytes file)) 0 (header file).rows ≡ rows_cause (hour_of file) (spare_of file)
  unfolding rows_cause
  rows_are = sym (cause-tab (λ i row. row_cause (header file).participants (header file).locations i row ((spare_of file).row i)) (row_at (row_bytes file)) (header file).rows)

  transactions-are : first_from (cause_at (Item.Transaction (edition_in file)) (header file).participants (header file).locations (transaction_bytes file)) 0 (header file).transactions ≡ transactions_cause (hour_of file) (spare_of file)
  unfolding transactions_cause
  transactions-are = sym (cause-tab (λ i t. transaction_cause (header file).participants (header file).locations i t ((spare_of file).transaction i)) (transaction_at (edition_in file) (transaction_bytes file)) (header file).transactions)

  pub content-is : stretches_cause (header file) (price_bytes file) (row_bytes file) (transaction_bytes file) ≡ content_cause (hour_of file) (spare_of file)
  unfolding content_cause
  content-is = ap₂ (λ (a b : Cause). a or b) prices-are (ap₂ (λ (a b : Cause). a or b) rows_are transactions-are)
