-- What is decoded: accepted, it is what stands there, which has no refusal; and the answer of a call that decodes is the refusal. Assumes nothing.
use Rattle.std.proofs.Common.{◌≡◌, ℕ, List, Bool, true, false, eqb, refl, sym, ap, ◌∙◌}
use Rattle.std.specs.Prelude.{Result, Ok, Err}
use borrow.Author.Tests.{eqb-true}
use Rattle.ints.specs.Refusal.{pick}
use Rattle.refusals.specs.Number.{answer, numbered}
use Rattle.refusals.specs.declared.Refusal.{Refusal}
use Rattle.hour.specs.declared.Edition.{Edition}
use Rattle.hour.specs.declared.Row.{Row}
use Rattle.hour.specs.declared.Transaction.{Transaction}
use Rattle.exercise.specs.Decoding.{decoded, decoded_refusal}
use Rattle.exercise.specs.File.{row_at, transaction_at}
use Rattle.exercise.specs.Inside.{decoded_row_at, decoded_transaction_at}
use Rattle.exercise.specs.Order.{row_refusal_at, transaction_refusal_at}

-- ---- the two cases hold what they were made of, and are apart

module _ {A : Type 0} where
  pub inside : (x y : A) → ◌≡◌ {A = Result A ℕ} (Ok x) (Ok y) → x ≡ y
  inside x y e = cc

  pub apart : (x : A) (k : ℕ) → ◌≡◌ {A = Result A ℕ} (Ok x) (Err k) → ⊥
  apart x k e = cc

  -- the number of an outcome is its answer
  pub told : (r : Result A Refusal) → answer r ≡ decoded_refusal (numbered r)
  told (Ok x) = refl
  told (Err refusal) = refl

-- ---- what is decoded

module _ {A : Type 0} (refusal : ℕ) (x : A) where
  pub taken : (y : A) → decoded refusal x ≡ Ok y → (refusal ≡ 0) × (x ≡ y)
  taken y = by (eqb refusal 0) refl
    where
      by : (t : Bool) → eqb refusal 0 ≡ t → ◌≡◌ {A = Result A ℕ} (pick t (Ok x) (Err refusal)) (Ok y) → (refusal ≡ 0) × (x ≡ y)
      by true t e = (eqb-true refusal 0 t, inside x y e)
      by false t e = absurd (apart y refusal (sym e))

  pub its-refusal : decoded_refusal (decoded refusal x) ≡ refusal
  its-refusal = by (eqb refusal 0) refl
    where
      by : (t : Bool) → eqb refusal 0 ≡ t → decoded_refusal {A = A} (pick t (Ok x) (Err refusal)) ≡ refusal
      by true t = sym (eqb-true refusal 0 t)
      by false t = refl

  -- by a call
  module _ (r : Result A Refusal) (e : numbered r ≡ decoded refusal x) where
    pub answered : answer r ≡ refusal
    answered = told r ∙ ap decoded_refusal e ∙ its-refusal

-- ---- at a place

pub row-decoded : (participants locations : ℕ) (s : List ℕ) (i : ℕ) (r : Row) → decoded_row_at participants locations s i ≡ Ok r → (row_refusal_at participants locations s i ≡ 0) × (row_at s i ≡ r)
row-decoded participants locations s i r e = taken (row_refusal_at participants locations s i) (row_at s i) r e

pub transaction-decoded : (edition : Edition) (participants locations : ℕ) (s : List ℕ) (i : ℕ) (t : Transaction) → decoded_transaction_at edition participants locations s i ≡ Ok t
    → (transaction_refusal_at edition participants locations s i ≡ 0) × (transaction_at edition s i ≡ t)
transaction-decoded edition participants locations s i t e = taken (transaction_refusal_at edition participants locations s i) (transaction_at edition s i) t e
