-- ".. writing what was read from an accepted file gives its bytes." Assumes nothing.
use mathlib.Core.Path.{◌≡◌, refl, sym, ap, ap₂, ◌∙◌, subst}
use mathlib.Core.Bool.{Bool, true, false}
use mathlib.Core.List.{List, ◌++◌}
use Prim.Native.Nat.{ℕ, suc, ◌+◌, ◌*◌, ◌-◌, ◌^◌, ◌≤◌, ◌<◌}
use native.Mathlib.Omega.{arith}
use lib.Dec.{ltb}
use lib.IntN.{pos, negsuc}
use lib.ListN.{length, take, drop, length-drop, take-append-drop}
use lib.Seq.{take_all, drop-drop}
use borrow.Author.Tests.{ltb-true, ltb-false}
use Rattle.ints.specs.Each.{Every}
use Rattle.ints.specs.Refusal.{pick}
use Rattle.ints.specs.Table.{tab}
use Rattle.ints.specs.Twos.{twos, InBits}
use Rattle.ints.proofs.Gather.{every-tab}
use Rattle.ints.proofs.Tables.{length-tab}
use Rattle.ints.proofs.Turns.{then-none}
use Rattle.ints.proofs.Twos.{bits-twos}
use Rattle.numbers.specs.Bytes.{Bytes}
use Rattle.numbers.proofs.Laws.{part_bytes}
use Rattle.hour.specs.Hour.{all_prices}
use Rattle.hour.specs.declared.Edition.{Edition}
use Rattle.exercise.specs.File.{header, price_at, row_spare, row_at, packed_row, transaction_spare, transaction_at, packed_transaction, places, bytes_from, price_bytes, row_bytes, transaction_bytes, edition_in, hour_of}
use Rattle.exercise.specs.Layout.{header_size, price_width, price_size, row_size, transaction_size, edition_number}
use Rattle.exercise.specs.Inside.{header_bits}
use Rattle.exercise.specs.Order.{file_refusal}
use Rattle.exercise.specs.Packed.{bytes_at}
use Rattle.exercise.specs.Written.{packed, bytes_high, run, count_fields, header_fields, price_bits, row_fields, row_bits as bits_of_row, transaction_fields, transaction_bits as bits_of_transaction, file_of, Fit, FitsFields}
use Rattle.exercise.specs.declared.Header.{Header}
use Rattle.exercise.proofs.Accepted.{accepted, no-spare, no-spare-beside}
use Rattle.exercise.proofs.Content.{four-lists}
use Rattle.exercise.proofs.Packing.{at-fits, high-back, header_of_lem, header-fits, row-of, row_fits, transaction-of, transaction-fits}
use Rattle.exercise.proofs.Runs.{in-turn, run-back}
use Rattle.exercise.proofs.Whole.{Whole, laid, part_length, number_of}

-- 24 bits hold what they stand for
price-held : (v : ℕ) → v < 256 ^ 3 → InBits 24 (twos 24 v)
price-held v h = half (ltb v (2 ^ 23)) refl
  where
    half : (t : Bool) → ltb v (2 ^ 23) ≡ t → InBits 24 (pick t (pos v) (negsuc (2 ^ 24 - suc v)))
    half true t = ltb-true v (2 ^ 23) t
    half false t = omega (arith, ltb-false v (2 ^ 23) t)

-- a stretch, and what comes after it
from_on : (file : List ℕ) (from to : ℕ) → from ≤ to → drop from file ≡ bytes_from from to file ++ drop to file
from_on file from to h =
    let e : from + (to - from) ≡ to = omega arith in
    sym (ap (λ (t : List ℕ). bytes_from from to file ++ t) (sym (drop-drop (to - from) from file ∙ ap (λ (k : ℕ). drop k file) e)) ∙ take-append-drop (to - from) (drop from file))

-- ---- a file that has the length that its header says

module _ (file : List ℕ) (b : Bytes file) (w : Whole file) where
  abbrev h : Header
  h = header file

  abbrev n : ℕ
  n = h.locations

  prices-length : length (price_bytes file) ≡ 3 * (26 * n)
  prices-length = let l = laid h in part_length (places file).prices (places file).rows file (omega arith) (omega arith) ∙ omega arith

  rows-length : length (row_bytes file) ≡ 6 * h.rows
  rows-length = let l = laid h in part_length (places file).rows (places file).transactions file (omega arith) (omega arith) ∙ omega arith

  abbrev edition : Edition
  edition = edition_in file

  transactions-length : length (transaction_bytes file) ≡ transaction_size edition * h.transactions
  transactions-length = let l = laid h in part_length (places file).transactions (places file).end file (omega arith) (omega arith) ∙ omega arith

  stretch-bytes : (from to : ℕ) → from ≤ to → to ≤ length file → Bytes (bytes_from from to file)
  stretch-bytes from to l k = part_bytes file from (to - from) (omega arith) b

  prices-bytes : Bytes (price_bytes file)
  prices-bytes = let l = laid h in stretch-bytes (places file).prices (places file).rows (omega arith) (omega arith)

  rows-bytes : Bytes (row_bytes file)
  rows-bytes = let l = laid h in stretch-bytes (places file).rows (places file).transactions (omega arith) (omega arith)

  transactions-bytes : Bytes (transaction_bytes file)
  transactions-bytes = let l = laid h in stretch-bytes (places file).transactions (places file).end (omega arith) (omega arith)

  price-small : (j : ℕ) → j < 26 * n → bytes_at (price_bytes file) (price_size * j) price_size < 256 ^ 3
  price-small j l = at-fits (price_bytes file) prices-bytes (price_size * j) price_size (omega (arith, prices-length))

  all-prices : all_prices (hour_of file) ≡ tab (price_at (price_bytes file)) (26 * n)
  all-prices = sym (four-lists (price_at (price_bytes file)) n)

  n-rows : length (hour_of file).rows ≡ h.rows
  n-rows = length-tab (row_at (row_bytes file)) h.rows

  n-transactions : length (hour_of file).transactions ≡ h.transactions
  n-transactions = length-tab (transaction_at edition (transaction_bytes file)) h.transactions

  -- the number of the edition that was read is that of the header
  n-edition : edition_number edition ≡ h.edition
  n-edition = number_of h.edition w.edition

  some : (1 ≤ h.participants) × (1 ≤ n)
  unfolding header
  some = (omega arith, omega arith)

  head-fits : Fit (count_fields h.participants n h.rows h.transactions h.edition)
  unfolding header
  head-fits = header-fits (bytes_at file 0 header_size)

  -- what is read from it fits its fields
  pub read_fits : FitsFields (hour_of file)
  read_fits =
      record {
        some-participants = some.0;
        some-locations = some.1;
        header = subst (λ (e : ℕ). Fit (count_fields h.participants n (length (hour_of file).rows) (length (hour_of file).transactions) e)) (sym n-edition)
            (subst (λ (r : ℕ). Fit (count_fields h.participants n r (length (hour_of file).transactions) h.edition)) (sym n-rows)
            (subst (λ (t : ℕ). Fit (count_fields h.participants n h.rows t h.edition)) (sym n-transactions) head-fits));
        congestion-ahead = length-tab _ _;
        congestion-real = length-tab _ _;
        loss-ahead = length-tab _ _;
        loss-real = length-tab _ _;
        prices = subst (Every (InBits price_width)) (sym all-prices) (every-tab (InBits price_width) (price_at (price_bytes file)) (26 * n) (λ i l. price-held _ (price-small i l)));
        rows = every-tab (λ row. Fit (row_fields row)) (row_at (row_bytes file)) h.rows (λ i _. row_fits (packed_row (row_bytes file) i));
        transactions = every-tab (λ t. Fit (transaction_fields edition t)) (transaction_at edition (transaction_bytes file)) h.transactions (λ i _. transaction-fits edition (packed_transaction edition (transaction_bytes file) i));
      }

  head-again : bytes_high header_size (packed (header_fields (hour_of file))) ≡ take 5 file
  unfolding header
  head-again =
      ap (bytes_high header_size)
      (ap (λ (e : ℕ). header_bits h.participants n (length (hour_of file).rows) (length (hour_of file).transactions) e) n-edition
      ∙ ap₂ (λ (r t : ℕ). header_bits h.participants n r t h.edition) n-rows n-transactions
      ∙ header_of_lem (bytes_at file 0 header_size) (at-fits file b 0 header_size w.begun))
      ∙ high-back file b 0 header_size w.begun

  prices-again : run price_size price_bits (all_prices (hour_of file)) ≡ price_bytes file
  prices-again =
      ap (run price_size price_bits) all-prices
      ∙ run-back price_size price_bits (price_bytes file) prices-bytes (price_at (price_bytes file)) (26 * n) (omega (arith, prices-length))
      (λ i l. bits-twos 24 (bytes_at (price_bytes file) (price_size * i) price_size) (omega (arith, price-small i l)))
      ∙ take_all (price_size * (26 * n)) (price_bytes file) (omega (arith, prices-length))

  rows-again : ((i : ℕ) → i < h.rows → row_spare (packed_row (row_bytes file) i) ≡ 0) → run row_size bits_of_row (hour_of file).rows ≡ row_bytes file
  rows-again spare =
      run-back row_size bits_of_row (row_bytes file) rows-bytes (row_at (row_bytes file)) h.rows (omega (arith, rows-length))
      (λ i l. row-of (packed_row (row_bytes file) i) (at-fits (row_bytes file) rows-bytes (row_size * i) row_size (omega (arith, rows-length))) (spare i l))
      ∙ take_all (row_size * h.rows) (row_bytes file) (omega (arith, rows-length))

  transactions-again : ((i : ℕ) → i < h.transactions → transaction_spare edition (packed_transaction edition (transaction_bytes file) i) ≡ 0) → run (transaction_size edition) (bits_of_transaction edition) (hour_of file).transactions ≡ transaction_bytes file
  transactions-again spare =
      let size = transaction_size edition in
      run-back size (bits_of_transaction edition) (transaction_bytes file) transactions-bytes (transaction_at edition (transaction_bytes file)) h.transactions (omega (arith, transactions-length))
      (λ i l. transaction-of edition (packed_transaction edition (transaction_bytes file) i) (at-fits (transaction_bytes file) transactions-bytes (size * i) size (subst (λ (n : ℕ). size * i + size ≤ n) (sym transactions-length) (in-turn size i h.transactions l))) (spare i l))
      ∙ take_all (size * h.transactions) (transaction_bytes file) (omega (arith, transactions-length))

  -- its stretches one after the other are the file
  stretches : take 5 file ++ (price_bytes file ++ (row_bytes file ++ transaction_bytes file)) ≡ file
  stretches =
      let l = laid h in
      let p = places file in
      let last : transaction_bytes file ≡ drop p.transactions file = take_all (p.end - p.transactions) (drop p.transactions file) (omega (arith, length-drop p.transactions file)) in
      let third : row_bytes file ++ transaction_bytes file ≡ drop p.rows file = ap (λ (t : List ℕ). row_bytes file ++ t) last ∙ sym (from_on file p.rows p.transactions (omega arith)) in
      let second : price_bytes file ++ (row_bytes file ++ transaction_bytes file) ≡ drop p.prices file = ap (λ (t : List ℕ). price_bytes file ++ t) third ∙ sym (from_on file p.prices p.rows (omega arith)) in
      ap (λ (t : List ℕ). take 5 file ++ t) (second ∙ ap (λ (k : ℕ). drop k file) l.first) ∙ take-append-drop 5 file

-- ---- an accepted file

pub written-again : (file : List ℕ) → Bytes file → file_refusal file ≡ 0 → file_of (hour_of file) ≡ file
written-again file b e =
    let p = then-none _ _ e in
    let w = (accepted file e).0 in
    ap₂ ◌++◌ (head-again file b w) (ap₂ ◌++◌ (prices-again file b w) (ap₂ ◌++◌ (rows-again file b w (no-spare file p.0 p.1)) (transactions-again file b w (no-spare-beside file p.0 p.1))))
    ∙ stretches file b w
