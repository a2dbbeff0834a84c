-- Content that was tested is ready to be written, what is stored is its file, and what the writer answers, return by return. Assumes nothing.
use mathlib.Core.Path.{◌≡◌, refl, sym, ap, ap₂, ◌∙◌, subst}
use mathlib.Core.Bool.{Bool}
use mathlib.Core.List.{List, [], ◌∷◌, ◌++◌}
use Prim.Native.Nat.{ℕ, zero, suc, ◌+◌, ◌*◌, ◌≤◌, ◌<◌}
use native.Mathlib.Nat.{zero-add}
use native.Mathlib.Omega.{arith}
use lib.Dec.{leb}
use lib.IntN.{pos}
use lib.ListN.{length, drop}
use lib.Seq.{sets, sets-eq}
use borrow.Author.Tests.{le-leb, lt-leb}
use Rattle.ints.specs.Each.{Every}
use Rattle.ints.specs.Refusal.{unless}
use Rattle.ints.specs.Table.{tab}
use Rattle.ints.specs.Turn.{◌then◌}
use Rattle.ints.specs.Twos.{InBits}
use Rattle.ints.proofs.Gather.{tab-every}
use Rattle.ints.proofs.Refusals.{kept, refused, done}
use Rattle.ints.proofs.Tables.{length-tab}
use Rattle.ints.proofs.Tests.{count-taken}
use Rattle.ints.proofs.Turns.{then-ends, then-later}
use Rattle.numbers.specs.Bytes.{number_at}
use Rattle.hour.specs.Hour.{Hour}
use Rattle.hour.specs.Order.{content_refusal}
use Rattle.hour.specs.declared.Edition.{Edition}
use Rattle.exercise.specs.Inside.{header_bits}
use Rattle.exercise.specs.declared.Header.{Header}
use Rattle.exercise.specs.declared.Item.{Item}
use Rattle.exercise.specs.Layout.{transaction_size, edition_of}
use Rattle.exercise.specs.Lists.{Content, content, row_given, transaction_length, transaction_given, hour_given, counts_refusal, lists_refusal, no_spare, write_refusal, write_outcome}
use Rattle.exercise.specs.Written.{packed, bytes_high, run, price_bits, row_fields, transaction_fields, file_of, Fit, FitsFields}
use Rattle.exercise.proofs.Content.{four-lists, priced-length}
use Rattle.exercise.proofs.Exact.{passes-fits}
use Rattle.exercise.proofs.Lists.{right, hour-counts, lists-right, write-rest}
use Rattle.exercise.proofs.Packing.{length_high}
use Rattle.exercise.proofs.Runs.{length_run, run-append, run-one}
use Rattle.exercise.proofs.Whole.{number_of}
use Rattle.exercise.proofs.Written.{written-length}
use Rattle.exercise_write.specs.Inside.{fields_given, FieldsFit, PricesFit, HeaderFits, Ready}
use Rattle.exercise_write.proofs.Stores.{file-stores}

-- things by another name in a run
run_of : {A B : Type 0} (size : ℕ) (bits : B → ℕ) (g : A → B) (f : ℕ → A) (n : ℕ) → run size bits (tab (λ i. g (f i)) n) ≡ run size (λ x. bits (g x)) (tab f n)
unfolding tab run
run_of size bits g f zero = refl
run_of size bits g f (suc n) =
    run-append size bits (tab (λ i. g (f i)) n) (g (f n) ∷ [])
    ∙ ap₂ ◌++◌ (run_of size bits g f n) (run-one size bits (g (f n)) ∙ sym (run-one size (λ x. bits (g x)) (f n)))
    ∙ sym (run-append size (λ x. bits (g x)) (tab f n) (f n ∷ []))

module _ (p l n m e : ℕ) (prices row_list transaction_list : List ℕ) where
  abbrev c : Content
  c = content (pos p) (pos l) (pos n) (pos m) (pos e) prices row_list transaction_list

  abbrev hour : Hour
  hour = hour_given c

  -- the edition, and how many bytes its transactions have
  abbrev edition : Edition
  edition = edition_of e

  abbrev size : ℕ
  size = transaction_size edition

  -- ---- what fits

  module _ (f : FitsFields hour) where
    pub prices-fit : PricesFit prices (26 * l)
    prices-fit = record { each = tab-every (InBits 24) (number_at prices) (26 * l) (subst (Every (InBits 24)) (sym (four-lists (number_at prices) l)) f.prices) }

    pub rows_fit : FieldsFit Item.Row row_list n
    rows_fit = record { each = tab-every (λ row. Fit (row_fields row)) (row_given row_list) n f.rows }

    pub transactions-fit : FieldsFit (Item.Transaction edition) transaction_list m
    transactions-fit = record { each = tab-every (λ t. Fit (transaction_fields edition t)) (transaction_given edition transaction_list) m f.transactions }

  -- ---- what is stored

  abbrev stored : List ℕ
  stored =
      bytes_high 5 (header_bits p l n m e)
      ++ (run 3 price_bits (tab (number_at prices) (26 * l)) ++ (run 6 packed (tab (fields_given Item.Row row_list) n) ++ run size packed (tab (fields_given (Item.Transaction edition) transaction_list) m)))

  stored_is : e ≤ 1 → stored ≡ file_of hour
  stored_is known =
      ap₂ ◌++◌
      (ap₂ (λ (x y : ℕ). bytes_high 5 (header_bits p l x y e)) (sym (length-tab (row_given row_list) n)) (sym (length-tab (transaction_given edition transaction_list) m))
      ∙ ap (λ (k : ℕ). bytes_high 5 (header_bits p l (length hour.rows) (length hour.transactions) k)) (sym (number_of e known)))
      (ap₂ ◌++◌ (ap (run 3 price_bits) (four-lists (number_at prices) l))
      (ap₂ ◌++◌ (run_of 6 packed row_fields (row_given row_list) n) (run_of size packed (transaction_fields edition) (transaction_given edition transaction_list) m)))

  -- the four parts where they lie
  pub put-stores : e ≤ 1 → (out : List ℕ) (a b : ℕ) → a ≡ 5 + 3 * (26 * l) → b ≡ a + 6 * n
      → sets (sets (sets (sets out 0 (bytes_high 5 (header_bits p l n m e))) 5 (run 3 price_bits (tab (number_at prices) (26 * l)))) a (run 6 packed (tab (fields_given Item.Row row_list) n))) b (run size packed (tab (fields_given (Item.Transaction edition) transaction_list) m))
      ≡ sets out 0 (file_of hour)
  put-stores known out a b f g =
      file-stores out (bytes_high 5 (header_bits p l n m e)) (run 3 price_bits (tab (number_at prices) (26 * l))) (run 6 packed (tab (fields_given Item.Row row_list) n)) (run size packed (tab (fields_given (Item.Transaction edition) transaction_list) m)) 5 a b
      (length_high 5 (header_bits p l n m e))
      (omega (arith, length_run 3 price_bits (tab (number_at prices) (26 * l)), length-tab (number_at prices) (26 * l)))
      (omega (arith, length_run 6 packed (tab (fields_given Item.Row row_list) n), length-tab (fields_given Item.Row row_list) n))
      ∙ ap (sets out 0) (stored_is known)

  -- ---- the answers

  pub file-length : length (file_of hour) ≡ 5 + 3 * (26 * l) + 6 * n + size * m
  file-length =
      omega (
        arith,
        written-length hour,
        priced-length {n = l} {a = hour.congestion_ahead} {b = hour.congestion_real} {c = hour.loss_ahead} {d = hour.loss_real} (record { congestion-ahead = length-tab _ _; congestion-real = length-tab _ _; loss-ahead = length-tab _ _; loss-real = length-tab _ _ }),
        length-tab (row_given row_list) n,
        ap (λ (k : ℕ). size * k) (length-tab (transaction_given edition transaction_list) m),
      )

  abbrev header : Header
  header = record { participants = p; locations = l; rows = n; transactions = m; edition = e }

  module _ (h : HeaderFits header) where
    counts-taken : counts_refusal (pos p) (pos l) (pos n) (pos m) (pos e) ≡ 0
    unfolding counts_refusal
    counts-taken =
        rw
        (count-taken 0 1 e (omega arith) h.known-edition, count-taken 1 64 p h.some-participants h.few-participants, count-taken 1 64 l h.some-locations h.few-locations, count-taken 0 2048 n (omega arith) h.few-rows, count-taken 0 256 m (omega arith) h.few-transactions)
        refl

    abbrev lists : ℕ
    lists = lists_refusal l n m edition (length prices) (length row_list) (length transaction_list)

    module _ (before : List ℕ) where
      abbrev answer : ℕ
      answer = write_refusal c (length before)

      abbrev Answer : ℕ → List ℕ → Type 0
      Answer r after = (r ≡ answer) × (after ≡ write_outcome c before)

      -- refused by its lists
      pub write-lists : (r : ℕ) → (r ≡ 0 → ⊥) → r ≡ lists → Answer r before
      unfolding write_refusal
      write-lists r some f = kept answer _ before r some (then-ends lists _ r some f ∙ sym (then-later _ _ counts-taken))

      module _ (q : ℕ) (z : q ≡ 0) (f : q ≡ lists) where
        rest : answer ≡ (content_refusal hour no_spare then unless (leb (length (file_of hour)) (length before)) 1 0)
        rest = write-rest c (length before) counts-taken (sym f ∙ z)

        pub lists-long : (length prices ≡ 8 * (26 * l)) × (length row_list ≡ 8 * (6 * n)) × (length transaction_list ≡ 8 * (transaction_length edition * m))
        lists-long = lists-right l n m edition (length prices) (length row_list) (length transaction_list) (sym f ∙ z)

        -- .. by its content
        pub write-content : (r : ℕ) → (r ≡ 0 → ⊥) → r ≡ content_refusal hour no_spare → Answer r before
        write-content r some g = kept answer _ before r some (then-ends (content_refusal hour no_spare) _ r some g ∙ sym rest)

        module _ (r : ℕ) (y : r ≡ 0) (g : r ≡ content_refusal hour no_spare) where
          last : answer ≡ unless (leb (length (file_of hour)) (length before)) 1 0
          last = rest ∙ then-later (content_refusal hour no_spare) _ (sym g ∙ y)

          -- .. by the buffer
          pub write-short : length before < 5 + 3 * (26 * l) + 6 * n + size * m → Answer 1 before
          write-short k = refused answer _ before 0 (sym (last ∙ ap (λ (b : Bool). unless b 1 0) (lt-leb (length (file_of hour)) (length before) (omega (arith, file-length)))))

          module _ (k : 5 + 3 * (26 * l) + 6 * n + size * m ≤ length before) where
            pub write-ready : Ready header prices row_list transaction_list (length before)
            write-ready =
                record {
                  header = h;
                  prices-long = lists-long.0;
                  rows_long = lists-long.1;
                  transactions-long = lists-long.2;
                  fits = passes-fits hour (hour-counts c (right c counts-taken (sym f ∙ z))) (sym g ∙ y);
                  enough = k;
                }

            -- .. or written: "Bytes beyond the file stay."
            pub write_done : (after : List ℕ) → after ≡ sets before 0 (file_of hour) → Answer 0 after
            write_done after w =
                done answer _ before after
                (sym (last ∙ ap (λ (b : Bool). unless b 1 0) (le-leb (length (file_of hour)) (length before) (omega (arith, file-length)))))
                (w ∙ sets-eq (file_of hour) before 0 (omega (arith, file-length)) ∙ ap (λ (j : ℕ). file_of hour ++ drop j before) (zero-add (length (file_of hour))))
