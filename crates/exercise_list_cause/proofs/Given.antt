-- The causes of an hour that is handed over, as loops go through its lists. Assumes nothing.
use mathlib.Core.Path.{◌≡◌, sym, ap, ap₂, ◌∙◌}
use mathlib.Core.List.{List}
use Prim.Native.Nat.{ℕ, ◌*◌}
use Rattle.numbers.specs.Bytes.{number_at}
use Rattle.hour.specs.Cause.{Cause, ◌or◌, first_cause, price_cause, row_cause, transaction_cause, prices_cause, rows_cause, transactions_cause, content_cause}
use Rattle.hour.specs.Hour.{Hour}
use Rattle.hour.specs.InsideCause.{first_from}
use Rattle.hour.specs.declared.Edition.{Edition}
use Rattle.hour.proofs.Causes.{cause-tab}
use Rattle.exercise.specs.Layout.{edition_of}
use Rattle.exercise.specs.Lists.{counted, row_given, transaction_given, hour_given, no_spare}
use Rattle.exercise.specs.declared.Header.{Header}
use Rattle.exercise.specs.declared.HourLists.{HourLists}
use Rattle.exercise.specs.declared.Item.{Item}
use Rattle.exercise.proofs.Content.{four-lists}
use Rattle.exercise_list_cause.specs.Inside.{cause_given}

module _ (h : Header) (lists : HourLists) where
  abbrev prices : List ℕ
  prices = lists.prices.now

  abbrev hour : Hour
  hour = hour_given (counted h lists)

  prices_are : first_from (λ j. price_cause j (number_at prices j)) 0 (26 * h.locations) ≡ prices_cause hour
  unfolding prices_cause
  prices_are = sym (cause-tab price_cause (number_at prices) (26 * h.locations)) ∙ ap (first_cause price_cause 0) (four-lists (number_at prices) h.locations)

  rows_are : first_from (cause_given Item.Row h.participants h.locations lists.rows.now) 0 h.rows ≡ rows_cause hour no_spare
  unfolding rows_cause
  rows_are = sym (cause-tab (λ i row. row_cause h.participants h.locations i row (no_spare.row i)) (row_given lists.rows.now) h.rows)

  transactions_are : (edition : Edition) → edition ≡ edition_of h.edition → first_from (cause_given (Item.Transaction edition) h.participants h.locations lists.transactions.now) 0 h.transactions ≡ transactions_cause hour no_spare
  unfolding transactions_cause
  transactions_are edition q =
      ap (λ (x : Edition). first_from (cause_given (Item.Transaction x) h.participants h.locations lists.transactions.now) 0 h.transactions) q
      ∙ sym (cause-tab (λ i t. transaction_cause h.participants h.locations i t (no_spare.transaction i)) (transaction_given (edition_of h.edition) lists.transactions.now) h.transactions)

  pub content-is : (edition : Edition) → edition ≡ edition_of h.edition
      → (first_from (λ j. price_cause j (number_at prices j)) 0 (26 * h.locations) or first_from (cause_given Item.Row h.participants h.locations lists.rows.now) 0 h.rows or first_from (cause_given (Item.Transaction edition) h.participants h.locations lists.transactions.now) 0 h.transactions) ≡ content_cause hour no_spare
  unfolding content_cause
  content-is edition q = ap₂ (λ (a b : Cause). a or b) prices_are (ap₂ (λ (a b : Cause). a or b) rows_are (transactions_are edition q))
