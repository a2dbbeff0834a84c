-- "Reading a written file gives back the hour", and refuses it as its content is refused. Assumes nothing.
use mathlib.Core.Path.{◌≡◌, refl, sym, ap, ap₂, ◌∙◌}
use mathlib.Core.Bool.{Bool, true}
use mathlib.Core.List.{List, [], ◌++◌, append_assoc, append-nil}
use Prim.Native.Nat.{ℕ, ◌+◌, ◌*◌, ◌-◌, ◌^◌, ◌<◌}
use native.Mathlib.Omega.{arith}
use lib.Dec.{leb, eqb}
use lib.IntN.{ℤ}
use lib.ListN.{length, take, length-append}
use lib.Seq.{take_at, drop_at}
use borrow.Author.Tests.{le-leb, eq-eqb}
use Rattle.numbers.specs.Bytes.{Bytes}
use Rattle.ints.specs.Refusal.{unless}
use Rattle.ints.specs.Table.{tab}
use Rattle.ints.specs.Turn.{◌then◌}
use Rattle.ints.specs.Twos.{twos, InBits}
use Rattle.ints.proofs.Gather.{every_append}
use Rattle.ints.proofs.Turns.{order-ext}
use Rattle.ints.proofs.Twos.{twos-bits, bits_below}
use Rattle.hour.specs.Hour.{Hour, all_prices}
use Rattle.hour.specs.Order.{packed_row_refusal, packed_transaction_refusal, prices_refusal, rows_refusal, transactions_refusal, content_refusal}
use Rattle.hour.specs.declared.Row.{Row}
use Rattle.hour.specs.declared.Transaction.{Transaction}
use Rattle.hour.specs.declared.Edition.{Edition}
use Rattle.exercise.specs.File.{header_of, header, price_at, prices_from, row_of, row_spare, rows_in, transaction_of, transaction_spare, transactions_in, places_of, places, bytes_from, price_bytes, row_bytes, transaction_bytes, edition_in, hour_of}
use Rattle.exercise.specs.Layout.{header_size, price_width, price_size, row_size, transaction_size, edition_number, edition_of}
use Rattle.exercise.specs.Lists.{no_spare}
use Rattle.exercise.specs.Order.{header_refusal, frame_refusal, spare_of, file_refusal}
use Rattle.exercise.specs.Packed.{bytes_at}
use Rattle.exercise.specs.Written.{packed, bytes_high, run, header_fields, price_bits, row_fields, row_bits as bits_of_row, transaction_fields, transaction_bits as bits_of_transaction, file_of, Fit, FitsFields}
use Rattle.exercise.specs.declared.Header.{Header}
use Rattle.exercise.specs.declared.Places.{Places}
use Rattle.exercise.proofs.Content.{Priced, priced-length, four-read}
use Rattle.exercise.proofs.Packing.{length_high, high-at, counted, header-packed, header-back, row-packed, row_back, row-no-spare, transaction-packed, transaction-back, transaction-no-spare}
use Rattle.exercise.proofs.Runs.{length_run, run-read, run-each, all-high, all-run, all-bytes}
use Rattle.exercise.proofs.Whole.{laid, edition-back, numbered}

-- a stretch in the middle
middle : (before own after : List ℕ) (from to : ℕ) → length before ≡ from → from + length own ≡ to → bytes_from from to (before ++ (own ++ after)) ≡ own
middle before own after from to e f = ap (take (to - from)) (drop_at before (own ++ after) from e) ∙ take_at own after (to - from) (omega arith)

-- equal hours from equal parts
pub hour-same : {p p' l l' : ℕ} {a a' b b' c c' d d' : List ℤ} {r r' : List Row} {e e' : Edition} {t t' : List Transaction} → p ≡ p' → l ≡ l' → a ≡ a' → b ≡ b' → c ≡ c' → d ≡ d' → r ≡ r' → e ≡ e' → t ≡ t'
    → ◌≡◌ {A = Hour} (record { participants = p; locations = l; congestion_ahead = a; congestion_real = b; loss_ahead = c; loss_real = d; rows = r; edition = e; transactions = t })
    (record { participants = p'; locations = l'; congestion_ahead = a'; congestion_real = b'; loss_ahead = c'; loss_real = d'; rows = r'; edition = e'; transactions = t' })
hour-same p l a b c d r e t = cc

module _ (hour : Hour) where
  abbrev file : List ℕ
  file = file_of hour

  abbrev h : Header
  h = counted hour.participants hour.locations (length hour.rows) (length hour.transactions) (edition_number hour.edition)

  abbrev head : List ℕ
  head = bytes_high header_size (packed (header_fields hour))

  abbrev prices : List ℕ
  prices = run price_size price_bits (all_prices hour)

  abbrev rows : List ℕ
  rows = run row_size bits_of_row hour.rows

  abbrev size : ℕ
  size = transaction_size hour.edition

  abbrev transactions : List ℕ
  transactions = run size (bits_of_transaction hour.edition) hour.transactions

  -- whatever the hour, these are bytes
  pub written-bytes : Bytes file
  written-bytes =
      all-bytes file
      (every_append (λ b. b < 256) head _ (all-high header_size (packed (header_fields hour)))
      (every_append (λ b. b < 256) prices _ (all-run price_size price_bits (all_prices hour))
      (every_append (λ b. b < 256) rows _ (all-run row_size bits_of_row hour.rows)
      (all-run size (bits_of_transaction hour.edition) hour.transactions))))

  pub written-length : length file ≡ 5 + (3 * length (all_prices hour) + (6 * length hour.rows + size * length hour.transactions))
  written-length =
      omega (
        arith,
        length-append head (prices ++ (rows ++ transactions)),
        length-append prices (rows ++ transactions),
        length-append rows transactions,
        length_high header_size (packed (header_fields hour)),
        length_run price_size price_bits (all_prices hour),
        length_run row_size bits_of_row hour.rows,
        length_run size (bits_of_transaction hour.edition) hour.transactions,
      )

  module _ (f : FitsFields hour) where
    priced : Priced hour.locations hour.congestion_ahead hour.congestion_real hour.loss_ahead hour.loss_real
    priced = record { congestion-ahead = f.congestion-ahead; congestion-real = f.congestion-real; loss-ahead = f.loss-ahead; loss-real = f.loss-real }

    prices-count : length (all_prices hour) ≡ 26 * hour.locations
    prices-count = priced-length priced

    pub written-header : header file ≡ h
    unfolding header
    written-header =
        ap header_of (high-at [] (prices ++ (rows ++ transactions)) header_size (packed (header_fields hour)) 0 refl (header-packed _ _ _ _ _ f.header))
        ∙ header-back _ _ _ _ _ f.header f.some-participants f.some-locations

    written-places : places file ≡ places_of h
    written-places = ap places_of written-header

    pub written-end : length file ≡ (places_of h).end
    written-end = let l = laid h in omega (arith, written-length, prices-count, ap (λ (edition : Edition). transaction_size edition * length hour.transactions) (edition-back hour.edition))

    -- ---- its stretches

    price-stretch : price_bytes file ≡ prices
    price-stretch =
        let l = laid h in
        ap (λ (p : Places). bytes_from p.prices p.rows file) written-places
        ∙ middle head prices (rows ++ transactions) (places_of h).prices (places_of h).rows
        (omega (arith, length_high header_size (packed (header_fields hour)))) (omega (arith, length_run price_size price_bits (all_prices hour), prices-count))

    row-stretch : row_bytes file ≡ rows
    row-stretch =
        let l = laid h in
        ap (λ (p : Places). bytes_from p.rows p.transactions file) written-places
        ∙ ap (bytes_from (places_of h).rows (places_of h).transactions) (sym (append_assoc head prices (rows ++ transactions)))
        ∙ middle (head ++ prices) rows transactions (places_of h).rows (places_of h).transactions
        (omega (arith, length-append head prices, length_high header_size (packed (header_fields hour)), length_run price_size price_bits (all_prices hour), prices-count))
        (omega (arith, length_run row_size bits_of_row hour.rows))

    transaction-stretch : transaction_bytes file ≡ transactions
    transaction-stretch =
        let l = laid h in
        let front = head ++ (prices ++ rows) in
        let grouped : file ≡ front ++ (transactions ++ []) =
        ap (λ (t : List ℕ). head ++ t) (sym (append_assoc prices rows transactions)) ∙ sym (append_assoc head (prices ++ rows) transactions)
        ∙ ap (λ (t : List ℕ). front ++ t) (sym (append-nil transactions)) in
        ap (λ (p : Places). bytes_from p.transactions p.end file) written-places
        ∙ ap (bytes_from (places_of h).transactions (places_of h).end) grouped
        ∙ middle front transactions [] (places_of h).transactions (places_of h).end
        (omega (arith, length-append head (prices ++ rows), length-append prices rows, length_high header_size (packed (header_fields hour)), length_run price_size price_bits (all_prices hour), prices-count, length_run row_size bits_of_row hour.rows))
        (omega (arith, length_run size (bits_of_transaction hour.edition) hour.transactions, ap (λ (edition : Edition). transaction_size edition * length hour.transactions) (edition-back hour.edition)))

    -- ---- what they hold

    price-small : (z : ℤ) → InBits price_width z → price_bits z < 256 ^ price_size
    price-small z b = bits_below 24 refl z b

    all_read : tab (price_at prices) (26 * hour.locations) ≡ all_prices hour
    all_read =
        ap (tab (price_at prices)) (sym prices-count)
        ∙ run-read price_size price_bits (InBits price_width) price-small (twos 24) (twos-bits 24 refl) (all_prices hour) f.prices

    rows-read : rows_in rows (length hour.rows) ≡ hour.rows
    rows-read = run-read row_size bits_of_row (λ row. Fit (row_fields row)) row-packed row_of row_back hour.rows f.rows

    transactions-read : transactions_in hour.edition transactions (length hour.transactions) ≡ hour.transactions
    transactions-read = run-read size (bits_of_transaction hour.edition) (λ t. Fit (transaction_fields hour.edition t)) (transaction-packed hour.edition) (transaction_of hour.edition) (transaction-back hour.edition) hour.transactions f.transactions

    written-edition : edition_in file ≡ hour.edition
    written-edition = ap (λ (k : Header). edition_of k.edition) written-header ∙ edition-back hour.edition

    -- "Reading a written file gives back the hour"
    pub written-hour : hour_of file ≡ hour
    written-hour =
        let four = four-read priced (price_at prices) all_read in
        hour-same
        (ap (λ (k : Header). k.participants) written-header)
        (ap (λ (k : Header). k.locations) written-header)
        (ap₂ (λ (k : Header) (s : List ℕ). prices_from s 0 k.locations) written-header price-stretch ∙ four.0)
        (ap₂ (λ (k : Header) (s : List ℕ). prices_from s k.locations (12 * k.locations)) written-header price-stretch ∙ four.1)
        (ap₂ (λ (k : Header) (s : List ℕ). prices_from s (13 * k.locations) k.locations) written-header price-stretch ∙ four.2)
        (ap₂ (λ (k : Header) (s : List ℕ). prices_from s (14 * k.locations) (12 * k.locations)) written-header price-stretch ∙ four.3)
        (ap₂ (λ (k : Header) (s : List ℕ). rows_in s k.rows) written-header row-stretch ∙ rows-read)
        written-edition
        (ap₂ (λ (k : Header) (s : List ℕ). transactions_in (edition_in file) s k.transactions) written-header transaction-stretch
        ∙ ap (λ (edition : Edition). transactions_in edition transactions (length hour.transactions)) written-edition ∙ transactions-read)

    -- ---- it is refused as the hour is

    -- no row of it has a spare bit, and no transaction
    written-spare : (i : ℕ) → i < length hour.rows → (spare_of file).row i ≡ 0
    written-spare i l =
        ap (λ (s : List ℕ). row_spare (bytes_at s (row_size * i) row_size)) row-stretch
        ∙ run-each row_size bits_of_row (λ row. Fit (row_fields row)) row-packed (λ v. row_spare v ≡ 0) (λ row _. row-no-spare row) hour.rows f.rows i l

    written-spare-beside : (i : ℕ) → i < length hour.transactions → (spare_of file).transaction i ≡ 0
    written-spare-beside i l =
        ap₂ (λ (edition : Edition) (s : List ℕ). transaction_spare edition (bytes_at s (transaction_size edition * i) (transaction_size edition))) written-edition transaction-stretch
        ∙ run-each size (bits_of_transaction hour.edition) (λ t. Fit (transaction_fields hour.edition t)) (transaction-packed hour.edition) (λ v. transaction_spare hour.edition v ≡ 0) (λ t _. transaction-no-spare hour.edition t) hour.transactions f.transactions i l

    written-content : content_refusal (hour_of file) (spare_of file) ≡ content_refusal hour no_spare
    unfolding content_refusal rows_refusal transactions_refusal
    written-content =
        ap (λ (k : Hour). content_refusal k (spare_of file)) written-hour
        ∙ ap₂ (λ (r t : ℕ). prices_refusal hour then r then t)
        (order-ext (λ i row. packed_row_refusal hour.participants hour.locations row ((spare_of file).row i)) (λ i row. packed_row_refusal hour.participants hour.locations row (no_spare.row i)) 0 hour.rows
        (λ i row _ l. ap (packed_row_refusal hour.participants hour.locations row) (written-spare i (omega arith))))
        (order-ext (λ i t. packed_transaction_refusal hour.participants hour.locations t ((spare_of file).transaction i)) (λ i t. packed_transaction_refusal hour.participants hour.locations t (no_spare.transaction i)) 0 hour.transactions
        (λ i t _ l. ap (packed_transaction_refusal hour.participants hour.locations t) (written-spare-beside i (omega arith))))

    known : leb (edition_number hour.edition) 1 ≡ true
    known = le-leb (edition_number hour.edition) 1 (numbered hour.edition)

    -- to its length: the counts, and nothing else
    written-frame : frame_refusal file ≡ unless (leb (length hour.rows) 2048) 1 (unless (leb (length hour.transactions) 256) 1 0)
    unfolding frame_refusal header_refusal
    written-frame =
        let begun : leb header_size (length file) ≡ true = le-leb header_size (length file) (omega (arith, written-length)) in
        let ended : eqb (places_of h).end (places_of h).end ≡ true = eq-eqb (places_of h).end (places_of h).end refl in
        ap (λ (t : Bool). unless t 9 (header_refusal (header file) (length file))) begun
        ∙ ap₂ header_refusal written-header written-end
        ∙ rw (known, ended) refl

    -- the same number, not only the same verdict
    pub written-refusal : file_refusal file ≡ (unless (leb (length hour.rows) 2048) 1 (unless (leb (length hour.transactions) 256) 1 0) then content_refusal hour no_spare)
    written-refusal = ap₂ ◌then◌ written-frame written-content
