-- The stretches of a file that passes the order to its length, as they were read. Assumes nothing.
use mathlib.Core.Path.{◌≡◌, ap, ◌∙◌, subst}
use mathlib.Core.List.{List}
use Prim.Native.Nat.{ℕ}
use native.Mathlib.Omega.{arith}
use lib.IntN.{ℤ}
use Rattle.exercise.specs.File.{hour_of, rows_in, header, places_of, places, bytes_from}
use Rattle.hour.specs.declared.Row.{Row}
use Rattle.exercise.specs.Order.{frame_refusal, spare_of}
use Rattle.exercise.specs.declared.Header.{Header}
use Rattle.exercise.specs.declared.Places.{Places}
use Rattle.exercise.proofs.Content.{content-is}
use Rattle.exercise.proofs.Whole.{found, whole, small-read, part_length}
use Rattle.hour.specs.Hour.{congestion_prices, loss_prices}
use Rattle.hour_charge.specs.Inside.{ChargedIn, Stretches, congestion_in, loss_in}
use Rattle.hour.specs.InsideTotals.{Charged, Shared}
use Rattle.exercise.specs.Inside.{stretches_refusal}
use Rattle.hour.specs.Order.{content_refusal}

module _ (file : List ℕ) (passes : frame_refusal file ≡ 0) (h : Header) (e : h ≡ header file) (p : Places) (f : p ≡ places_of h) where
  -- what holds of what was read holds of the file's own
  of-file : (P : Header → Places → Type 0) → P h p → P (header file) (places file)
  of-file P x = subst (λ (q : Places). P (header file) q) (f ∙ ap places_of e) (subst (λ (g : Header). P g p) e x)

  pub its-stretches : Stretches h (bytes_from p.prices p.rows file) (bytes_from p.rows p.transactions file) (bytes_from p.transactions p.end file)
  its-stretches =
      let k = found file passes h e p f in
      let w = whole file passes in
      let s = small-read file h e in
      record {
        locations = s.locations;
        few-rows = omega (arith, ap (λ (g : Header). g.rows) e, w.rows);
        few-transactions = omega (arith, ap (λ (g : Header). g.transactions) e, w.transactions);
        prices-whole = omega (arith, part_length p.prices p.rows file (omega arith) (omega arith));
        rows_whole = omega (arith, part_length p.rows p.transactions file (omega arith) (omega arith));
        transactions-whole = omega (arith, part_length p.transactions p.end file (omega arith) (omega arith));
      }

  -- so do the refusal, the charges and the shares
  abbrev prices_of : Places → List ℕ
  prices_of p = bytes_from p.prices p.rows file

  abbrev row_bytes_of : Places → List ℕ
  row_bytes_of p = bytes_from p.rows p.transactions file

  abbrev rows_of : Header → Places → List Row
  rows_of h p = rows_in (row_bytes_of p) h.rows

  abbrev bytes_of : Places → List ℕ
  bytes_of p = bytes_from p.transactions p.end file

  pub file-refusal : (r : ℕ) → r ≡ stretches_refusal h (prices_of p) (bytes_from p.rows p.transactions file) (bytes_from p.transactions p.end file) → r ≡ content_refusal (hour_of file) (spare_of file)
  file-refusal r e =
      of-file (λ h p. r ≡ stretches_refusal h (prices_of p) (bytes_from p.rows p.transactions file) (bytes_from p.transactions p.end file)) e
      ∙ content-is file

  pub file-congestion : {totals : List ℤ} → ChargedIn h (congestion_in h (prices_of p)) (row_bytes_of p) (bytes_of p) totals → Charged (hour_of file).edition (congestion_prices (hour_of file)) (hour_of file).rows (hour_of file).transactions totals
  file-congestion {totals} = of-file (λ h p. ChargedIn h (congestion_in h (prices_of p)) (row_bytes_of p) (bytes_of p) totals)

  pub file-loss : {totals : List ℤ} → ChargedIn h (loss_in h (prices_of p)) (row_bytes_of p) (bytes_of p) totals → Charged (hour_of file).edition (loss_prices (hour_of file)) (hour_of file).rows (hour_of file).transactions totals
  file-loss {totals} = of-file (λ h p. ChargedIn h (loss_in h (prices_of p)) (row_bytes_of p) (bytes_of p) totals)

  pub file-shares : {totals : List ℤ} → Shared (rows_of h p) totals → Shared (hour_of file).rows totals
  file-shares {totals} = of-file (λ h p. Shared (rows_of h p) totals)
