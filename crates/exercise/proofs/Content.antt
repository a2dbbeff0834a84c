-- The order of an hour's content, as loops go through the stretches of its file. Assumes nothing.
use mathlib.Core.Path.{◌≡◌, refl, sym, ap, ap₂, ◌∙◌}
use mathlib.Core.List.{List, ◌++◌}
use Prim.Native.Nat.{ℕ, ◌+◌, ◌*◌}
use native.Mathlib.Omega.{arith}
use lib.IntN.{ℤ}
use lib.ListN.{length, take, drop, length-append}
use lib.Seq.{take_at, drop_at}
use Rattle.ints.specs.Refusal.{unless}
use Rattle.ints.specs.Table.{tab, all}
use Rattle.ints.specs.Turn.{◌then◌}
use Rattle.ints.proofs.Eachs.{turn-all}
use Rattle.ints.proofs.Tables.{length-tab, tab-ext, tab-parts}
use Rattle.ints.proofs.Turns.{order-tab}
use Rattle.hour.specs.Order.{is_price, packed_row_refusal, packed_transaction_refusal, prices_refusal, rows_refusal, transactions_refusal, content_refusal}
use Rattle.exercise.specs.File.{header, price_at, row_at, transaction_at, price_bytes, row_bytes, transaction_bytes, edition_in, hour_of}
use Rattle.exercise.specs.Inside.{price_refusal, prices_in_refusal, rows_in_refusal, transactions_in_refusal, stretches_refusal}
use Rattle.exercise.specs.Order.{spare_of}

-- 26 things for each of n, in the four lists of an hour's prices
module _ {A : Type 0} (f : ℕ → A) (n : ℕ) where
  -- m of them from the one at j on
  abbrev from : ℕ → ℕ → List A
  from j m = tab (λ i. f (j + i)) m

  -- .. and the k after them
  from_on : (j m k : ℕ) → from j (m + k) ≡ from j m ++ from (j + m) k
  from_on j m k =
      tab-parts (λ i. f (j + i)) m k
      ∙ ap (λ (xs : List A). from j m ++ xs) (tab-ext _ _ k (λ i _. let here : j + (m + i) ≡ j + m + i = omega arith in ap f here))

  pub four-lists : tab f (26 * n) ≡ from 0 n ++ (from n (12 * n) ++ (from (13 * n) n ++ from (14 * n) (12 * n)))
  four-lists =
      let all_of : 26 * n ≡ n + (12 * n + (n + 12 * n)) = omega arith in
      let second : 0 + n ≡ n = omega arith in
      let third : n + 12 * n ≡ 13 * n = omega arith in
      let fourth : 13 * n + n ≡ 14 * n = omega arith in
      tab-ext _ _ (26 * n) (λ i _. let here : i ≡ 0 + i = omega arith in ap f here)
      ∙ ap (from 0) all_of
      ∙ from_on 0 n (12 * n + (n + 12 * n))
      ∙ ap (λ (k : ℕ). from 0 n ++ from k (12 * n + (n + 12 * n))) second
      ∙ ap (λ (xs : List A). from 0 n ++ xs)
      (from_on n (12 * n) (n + 12 * n)
      ∙ ap (λ (k : ℕ). from n (12 * n) ++ from k (n + 12 * n)) third
      ∙ ap (λ (xs : List A). from n (12 * n) ++ xs)
      (from_on (13 * n) n (12 * n) ∙ ap (λ (k : ℕ). from (13 * n) n ++ from k (12 * n)) fourth))

-- equal lists in two parts: the parts are equal where the first ones are equally long
parted : {A : Type 0} (xs xs' ys ys' : List A) → length xs ≡ length xs' → xs ++ ys ≡ xs' ++ ys' → (xs ≡ xs') × (ys ≡ ys')
parted xs xs' ys ys' l e = (
  sym (take_at xs ys (length xs) refl) ∙ ap (take (length xs)) e ∙ take_at xs' ys' (length xs) (sym l),
  sym (drop_at xs ys (length xs) refl) ∙ ap (drop (length xs)) e ∙ drop_at xs' ys' (length xs) (sym l),
)

-- four lists that are as long as an hour's should be, for n locations
pub record Priced (n : ℕ) (a b c d : List ℤ) : Type 0 where
  pub congestion-ahead : length a ≡ n
  pub congestion-real : length b ≡ 12 * n
  pub loss-ahead : length c ≡ n
  pub loss-real : length d ≡ 12 * n

module _ {n : ℕ} {a b c d : List ℤ} (l : Priced n a b c d) where
  pub priced-length : length (a ++ (b ++ (c ++ d))) ≡ 26 * n
  priced-length =
      omega (arith, length-append a (b ++ (c ++ d)), length-append b (c ++ d), length-append c d, l.congestion-ahead, l.congestion-real, l.loss-ahead, l.loss-real)

  -- they are read from places that hold all of them
  pub four-read : (f : ℕ → ℤ) → tab f (26 * n) ≡ a ++ (b ++ (c ++ d))
      → (tab (λ i. f (0 + i)) n ≡ a) × (tab (λ i. f (n + i)) (12 * n) ≡ b) × (tab (λ i. f (13 * n + i)) n ≡ c) × (tab (λ i. f (14 * n + i)) (12 * n) ≡ d)
  four-read f e =
      let first = parted _ _ _ _ (length-tab (λ i. f (0 + i)) n ∙ sym l.congestion-ahead) (sym (four-lists f n) ∙ e) in
      let second = parted _ _ _ _ (length-tab (λ i. f (n + i)) (12 * n) ∙ sym l.congestion-real) first.1 in
      let third = parted _ _ _ _ (length-tab (λ i. f (13 * n + i)) n ∙ sym l.loss-ahead) second.1 in
      (first.0, second.0, third.0, third.1)

module _ (file : List ℕ) where
  prices-are : prices_in_refusal (price_bytes file) (26 * (header file).locations) ≡ prices_refusal (hour_of file)
  unfolding prices_refusal price_refusal
  prices-are =
      turn-all is_price (price_at (price_bytes file)) 1 (26 * (header file).locations)
      ∙ ap (λ (xs : List ℤ). unless (all is_price xs) 2 0) (four-lists (price_at (price_bytes file)) (header file).locations)

  rows_are : rows_in_refusal (header file).participants (header file).locations (row_bytes file) (header file).rows ≡ rows_refusal (hour_of file) (spare_of file)
  unfolding rows_refusal
  rows_are = sym (order-tab (λ i row. packed_row_refusal (header file).participants (header file).locations row ((spare_of file).row i)) (row_at (row_bytes file)) (header file).rows)

  transactions-are : transactions_in_refusal (edition_in file) (header file).participants (header file).locations (transaction_bytes file) (header file).transactions ≡ transactions_refusal (hour_of file) (spare_of file)
  unfolding transactions_refusal
  transactions-are =
      sym (order-tab (λ i t. packed_transaction_refusal (header file).participants (header file).locations t ((spare_of file).transaction i)) (transaction_at (edition_in file) (transaction_bytes file)) (header file).transactions)

  pub content-is : stretches_refusal (header file) (price_bytes file) (row_bytes file) (transaction_bytes file) ≡ content_refusal (hour_of file) (spare_of file)
  unfolding content_refusal
  content-is = ap₂ (λ (p r : ℕ). p then r) prices-are (ap₂ (λ (r t : ℕ). r then t) rows_are transactions-are)
