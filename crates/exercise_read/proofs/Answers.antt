-- The lists of a file from what code has read of it, and the reader's answers, return by return. Assumes nothing.
use mathlib.Core.Path.{◌≡◌, sym, ap, ap₂, ◌∙◌}
use mathlib.Core.List.{List}
use Prim.Native.Nat.{ℕ, ◌*◌}
use Rattle.ints.specs.Table.{tab}
use Rattle.ints.proofs.Turns.{then-ends, then-later}
use Rattle.numbers.specs.Bytes.{encoded}
use Rattle.hour.specs.Order.{content_refusal}
use Rattle.hour.specs.declared.Edition.{Edition}
use Rattle.exercise.specs.File.{header, price_at, places, bytes_from, price_bytes, row_bytes, transaction_bytes, edition_in, hour_of}
use Rattle.exercise.specs.Layout.{edition_of}
use Rattle.exercise.specs.Lists.{lists_refusal, read_refusal, prices_listed, rows_listed, transactions_listed}
use Rattle.exercise.specs.Order.{frame_refusal, spare_of}
use Rattle.exercise.specs.declared.Header.{Header}
use Rattle.exercise.specs.declared.Item.{Item}
use Rattle.exercise.specs.declared.Places.{Places}
use Rattle.exercise.proofs.Content.{four-lists}
use Rattle.exercise.proofs.Lists.{lists-right}
use Rattle.exercise_read.specs.Inside.{listed_at, Long}
use Rattle.exercise_read.proofs.Fill.{rows-listed, transactions-listed}

-- ---- the lists, by a header and places that are the file's

module _ (file : List ℕ) (h : Header) (p : Places) (e : h ≡ header file) (f : p ≡ places file) where
  pub prices-are : encoded (tab (price_at (bytes_from p.prices p.rows file)) (26 * h.locations)) ≡ prices_listed (hour_of file)
  prices-are =
      ap₂ (λ (k : Header) (q : Places). encoded (tab (price_at (bytes_from q.prices q.rows file)) (26 * k.locations))) e f
      ∙ ap encoded (four-lists (price_at (price_bytes file)) (header file).locations)

  pub rows_are : listed_at Item.Row (bytes_from p.rows p.transactions file) h.rows ≡ rows_listed (hour_of file)
  rows_are =
      ap₂ (λ (k : Header) (q : Places). listed_at Item.Row (bytes_from q.rows q.transactions file) k.rows) e f
      ∙ rows-listed (row_bytes file) (header file).rows

  pub transactions-are : (edition : Edition) → edition ≡ edition_of h.edition → listed_at (Item.Transaction edition) (bytes_from p.transactions p.end file) h.transactions ≡ transactions_listed (hour_of file)
  transactions-are edition g =
      ap (λ (b : Edition). listed_at (Item.Transaction b) (bytes_from p.transactions p.end file) h.transactions) g
      ∙ ap₂ (λ (k : Header) (q : Places). listed_at (Item.Transaction (edition_of k.edition)) (bytes_from q.transactions q.end file) k.transactions) e f
      ∙ transactions-listed (edition_in file) (transaction_bytes file) (header file).transactions

-- ---- the answers, of lists of so many bytes

module _ (file : List ℕ) (prices row_list transaction_list : ℕ) where
  abbrev answer : ℕ
  answer = read_refusal file prices row_list transaction_list

  pub ends-early : (r : ℕ) → (r ≡ 0 → ⊥) → r ≡ frame_refusal file → r ≡ answer
  unfolding read_refusal
  ends-early r some e = then-ends (frame_refusal file) _ r some e

  module _ (passes : frame_refusal file ≡ 0) (h : Header) (same : h ≡ header file) (edition : Edition) (named : edition ≡ edition_of h.edition) where
    abbrev lists : Header → Edition → ℕ
    lists k b = lists_refusal k.locations k.rows k.transactions b prices row_list transaction_list

    abbrev due : ℕ
    due = lists (header file) (edition_in file)

    lists-are : lists h edition ≡ due
    lists-are = ap₂ lists same (named ∙ ap (λ (k : Header). edition_of k.edition) same)

    pub ends_there : (r : ℕ) → (r ≡ 0 → ⊥) → r ≡ lists h edition → r ≡ answer
    unfolding read_refusal
    ends_there r some e = then-ends due _ r some (e ∙ lists-are) ∙ sym (then-later (frame_refusal file) _ passes)

    module _ (q : ℕ) (z : q ≡ 0) (e : q ≡ lists h edition) where
      none : due ≡ 0
      none = sym (e ∙ lists-are) ∙ z

      pub goes_on : content_refusal (hour_of file) (spare_of file) ≡ answer
      unfolding read_refusal
      goes_on = sym (then-later (frame_refusal file) _ passes ∙ then-later due _ none)

      pub lists-long : Long file prices row_list transaction_list
      lists-long =
          let l = lists-right (header file).locations (header file).rows (header file).transactions (edition_in file) prices row_list transaction_list none in
          record { frame = passes; prices-long = l.0; rows_long = l.1; transactions-long = l.2 }
