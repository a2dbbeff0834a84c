-- No two refusals have one number, and none has 0: what C is told says which one it was. Assumes nothing.
use Rattle.std.proofs.Common.{◌≡◌, ℕ, eqb, refl, sym, ap, ◌∙◌, arith}
use Rattle.std.specs.Prelude.{Result, Ok, Err, ⊤}
use Rattle.ints.specs.Refusal.{pick}
use Rattle.refusals.specs.Number.{number, answer, numbered}
use Rattle.refusals.specs.declared.Refusal.{Refusal}

-- the refusal of a number from 1 to 10
named : ℕ → Refusal
named n =
    pick (eqb n 1) Refusal.Length
    (pick (eqb n 2) Refusal.Range
    (pick (eqb n 3) Refusal.Identity
    (pick (eqb n 4) Refusal.Kind
    (pick (eqb n 5) Refusal.AreaTotal
    (pick (eqb n 6) Refusal.MeteredLoad
    (pick (eqb n 7) Refusal.NoShares
    (pick (eqb n 8) Refusal.Contracts
    (pick (eqb n 9) Refusal.File
    Refusal.Surplus))))))))

named-number : (r : Refusal) → named (number r) ≡ r
unfolding named
named-number Refusal.Length = refl
named-number Refusal.Range = refl
named-number Refusal.Identity = refl
named-number Refusal.Kind = refl
named-number Refusal.AreaTotal = refl
named-number Refusal.MeteredLoad = refl
named-number Refusal.NoShares = refl
named-number Refusal.Contracts = refl
named-number Refusal.File = refl
named-number Refusal.Surplus = refl

pub number-unique : (r s : Refusal) → number r ≡ number s → r ≡ s
number-unique r s e = sym (named-number r) ∙ ap named e ∙ named-number s

pub number-not-zero : (r : Refusal) → number r ≡ 0 → ⊥
number-not-zero Refusal.Length e = omega arith
number-not-zero Refusal.Range e = omega arith
number-not-zero Refusal.Identity e = omega arith
number-not-zero Refusal.Kind e = omega arith
number-not-zero Refusal.AreaTotal e = omega arith
number-not-zero Refusal.MeteredLoad e = omega arith
number-not-zero Refusal.NoShares e = omega arith
number-not-zero Refusal.Contracts e = omega arith
number-not-zero Refusal.File e = omega arith
number-not-zero Refusal.Surplus e = omega arith

-- two outcomes with one answer are one outcome
pub answer-unique : (r s : Result ⊤ Refusal) → answer r ≡ answer s → r ≡ s
answer-unique (Ok x) (Ok y) e = refl
answer-unique (Ok x) (Err s) e = absurd (number-not-zero s (sym e))
answer-unique (Err r) (Ok y) e = absurd (number-not-zero r e)
answer-unique (Err r) (Err s) e = ap Err (number-unique r s e)

-- and so are two of a value or a refusal
pub numbered-unique : {A : Type 0} (r s : Result A Refusal) → numbered r ≡ numbered s → r ≡ s
numbered-unique {A = A} (Ok x) (Ok y) e = let same : ◌≡◌ {A = Result A ℕ} (Ok x) (Ok y) = e in cc
numbered-unique {A = A} (Ok x) (Err s) e = let same : ◌≡◌ {A = Result A ℕ} (Ok x) (Err (number s)) = e in cc
numbered-unique {A = A} (Err r) (Ok y) e = let same : ◌≡◌ {A = Result A ℕ} (Err (number r)) (Ok y) = e in cc
numbered-unique {A = A} (Err r) (Err s) e = let same : ◌≡◌ {A = Result A ℕ} (Err (number r)) (Err (number s)) = e in let numbers : number r ≡ number s = cc in ap Err (number-unique r s numbers)
