-- The rows and transactions of a stretch without a refusal have passed the tests. Assumes nothing.
use mathlib.Core.Path.{◌≡◌}
use mathlib.Core.List.{List}
use Prim.Native.Nat.{ℕ, ◌<◌}
use lib.Dec.{eqb}
use borrow.Author.Tests.{eqb-true}
use Rattle.ints.specs.Each.{Every}
use Rattle.ints.specs.Refusal.{unless}
use Rattle.ints.proofs.Gather.{every-tab}
use Rattle.ints.proofs.Refusals.{passed}
use Rattle.ints.proofs.Turns.{then-none, turn-none}
use Rattle.hour.specs.InsideTested.{RowTested, TransactionTested}
use Rattle.hour.specs.Order.{row_refusal, transaction_refusal}
use Rattle.hour.proofs.Tested.{row-tested, transaction-tested}
use Rattle.hour.specs.declared.Edition.{Edition}
use Rattle.exercise.specs.File.{packed_row, row_spare, row_at, rows_in, packed_transaction, transaction_spare, transaction_at, transactions_in}
use Rattle.exercise.specs.Order.{row_refusal_at, transaction_refusal_at}
use Rattle.exercise.specs.Inside.{rows_in_refusal, transactions_in_refusal}
use Rattle.hour.specs.Order.{packed_row_refusal, packed_transaction_refusal}

-- spare bits that are tested are 0
no_bits : (spare : ℕ) → unless (eqb spare 0) 9 0 ≡ 0 → spare ≡ 0
no_bits spare e = eqb-true spare 0 (passed (eqb spare 0) 8 0 e).0

module _ (participants locations : ℕ) (s : List ℕ) where
  -- a row: its own tests, and its spare bits, which are 0
  row-passes : (i : ℕ) → row_refusal_at participants locations s i ≡ 0 → (row_refusal participants locations (row_at s i) ≡ 0) × (unless (eqb (row_spare (packed_row s i)) 0) 9 0 ≡ 0)
  unfolding packed_row_refusal
  row-passes i e = then-none (row_refusal participants locations (row_at s i)) _ e

  pub row-at-tested : (i : ℕ) → row_refusal_at participants locations s i ≡ 0 → RowTested participants locations (row_at s i)
  row-at-tested i e = row-tested participants locations (row_at s i) (row-passes i e).0

  pub row-at-spare : (i : ℕ) → row_refusal_at participants locations s i ≡ 0 → row_spare (packed_row s i) ≡ 0
  row-at-spare i e = no_bits (row_spare (packed_row s i)) (row-passes i e).1

  -- every one of the first n
  pub rows-tested : (n : ℕ) → rows_in_refusal participants locations s n ≡ 0 → Every (RowTested participants locations) (rows_in s n)
  rows-tested n e = every-tab (RowTested participants locations) (row_at s) n (λ i l. row-at-tested i (turn-none (row_refusal_at participants locations s) n e i l))

  pub rows-spare : (n : ℕ) → rows_in_refusal participants locations s n ≡ 0 → (i : ℕ) → i < n → row_spare (packed_row s i) ≡ 0
  rows-spare n e i l = row-at-spare i (turn-none (row_refusal_at participants locations s) n e i l)

module _ (edition : Edition) (participants locations : ℕ) (s : List ℕ) where
  -- a transaction, likewise
  transaction-passes : (i : ℕ) → transaction_refusal_at edition participants locations s i ≡ 0
      → (transaction_refusal participants locations (transaction_at edition s i) ≡ 0) × (unless (eqb (transaction_spare edition (packed_transaction edition s i)) 0) 9 0 ≡ 0)
  unfolding packed_transaction_refusal
  transaction-passes i e = then-none (transaction_refusal participants locations (transaction_at edition s i)) _ e

  pub transaction-at-tested : (i : ℕ) → transaction_refusal_at edition participants locations s i ≡ 0 → TransactionTested participants locations (transaction_at edition s i)
  transaction-at-tested i e = transaction-tested participants locations (transaction_at edition s i) (transaction-passes i e).0

  pub transactions-tested : (n : ℕ) → transactions_in_refusal edition participants locations s n ≡ 0 → Every (TransactionTested participants locations) (transactions_in edition s n)
  transactions-tested n e = every-tab (TransactionTested participants locations) (transaction_at edition s) n (λ i l. transaction-at-tested i (turn-none (transaction_refusal_at edition participants locations s) n e i l))

  pub transactions-spare : (n : ℕ) → transactions_in_refusal edition participants locations s n ≡ 0 → (i : ℕ) → i < n → transaction_spare edition (packed_transaction edition s i) ≡ 0
  transactions-spare n e i l = no_bits (transaction_spare edition (packed_transaction edition s i)) (transaction-passes i (turn-none (transaction_refusal_at edition participants locations s) n e i l)).1
