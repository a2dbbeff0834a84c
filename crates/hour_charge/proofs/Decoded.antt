-- A row, and a transaction, that was decoded at a place is the one there, and has been tested; and in turn, the first that is refused is the refusal of all. Assumes nothing.
use Rattle.std.proofs.Common.{◌≡◌, ℕ, List, ◌+◌, ◌<◌, refl, sym, ◌∙◌, subst}
use Rattle.std.specs.Prelude.{Result, Ok, Err}
use Rattle.std.specs.Result.{result_and}
use Rattle.ints.specs.Turn.{in_turn}
use Rattle.ints.proofs.Turns.{turn-next, turn-first}
use Rattle.refusals.specs.Number.{number, answer, numbered}
use Rattle.refusals.specs.declared.Refusal.{Refusal}
use Rattle.refusals.proofs.Numbers.{number-not-zero}
use Rattle.exercise.specs.File.{row_at, transaction_at}
use Rattle.hour.specs.InsideTested.{RowTested, TransactionTested}
use Rattle.hour.specs.declared.Edition.{Edition}
use Rattle.hour.specs.declared.Row.{Row}
use Rattle.hour.specs.declared.Transaction.{Transaction}
use Rattle.exercise.specs.Decoding.{decoded}
use Rattle.exercise.proofs.Answers.{taken, answered, row-decoded, transaction-decoded}
use Rattle.exercise.proofs.Tested.{row-at-tested, transaction-at-tested}
use Rattle.exercise.specs.Inside.{decoded_row_at, decoded_transaction_at}

module _ (participants locations : ℕ) (s : List ℕ) (i : ℕ) (r : Row) (e : decoded_row_at participants locations s i ≡ Ok r) where
  pub row_is : row_at s i ≡ r
  row_is = (row-decoded participants locations s i r e).1

  pub row-passed : RowTested participants locations r
  row-passed = subst (RowTested participants locations) row_is (row-at-tested participants locations s i (row-decoded participants locations s i r e).0)

module _ (edition : Edition) (participants locations : ℕ) (s : List ℕ) (i : ℕ) (t : Transaction) (e : decoded_transaction_at edition participants locations s i ≡ Ok t) where
  pub transaction-is : transaction_at edition s i ≡ t
  transaction-is = (transaction-decoded edition participants locations s i t e).1

  pub transaction-passed : TransactionTested participants locations t
  transaction-passed = subst (TransactionTested participants locations) transaction-is (transaction-at-tested edition participants locations s i (transaction-decoded edition participants locations s i t e).0)

-- in turn: refusals f and things, of which the first i are accepted
module _ {A : Type 0} (f : ℕ → ℕ) (things : ℕ → A) (i : ℕ) (before : in_turn f i ≡ 0) where
  pub next : (x : A) → decoded (f i) (things i) ≡ Ok x → in_turn f (i + 1) ≡ 0
  next x e = turn-next f i before (taken (f i) (things i) x e).0

  pub first : (r : Refusal) → numbered {A = A} (Err r) ≡ decoded (f i) (things i) → (n : ℕ) → i < n → number r ≡ in_turn f n
  first r e n h =
      let own : number r ≡ f i = answered (f i) (things i) (Err r) e in
      own ∙ sym (turn-first f i n h before (λ z. number-not-zero r (own ∙ z)))

  -- .. and so it leaves
  pub first-refused : (r : Result A Refusal) → ((x : A) → r ≡ Ok x → ⊥) → numbered r ≡ decoded (f i) (things i) → (n : ℕ) → i < n → answer (result_and {U = Unit {0}} r (Ok tt)) ≡ in_turn f n
  first-refused (Ok x) some e n h = absurd (some x refl)
  first-refused (Err r) some e n h = first r e n h
