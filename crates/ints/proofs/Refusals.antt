-- An order of refusals, line by line, and the lent list. Assumes nothing.
use mathlib.Core.Path.{◌≡◌, refl, sym, ap, ap₂, ◌∙◌}
use mathlib.Core.Bool.{Bool, true, false, ◌&&◌}
use mathlib.Core.List.{List}
use Prim.Native.Nat.{ℕ, suc}
use native.Mathlib.Omega.{arith}
use lib.Dec.{eqb}
use borrow.Author.Tests.{eq-eqb, ne_eqb}
use Rattle.ints.specs.Refusal.{pick, unless, lent}
use Rattle.ints.proofs.Bools.{not-both}

-- a refusal is a number above 0
some : (k : ℕ) → suc k ≡ 0 → ⊥
some k e = omega arith

-- the order gives no refusal: this line's test holds, and the later lines give none
pub passed : (t : Bool) (k later : ℕ) → unless t (suc k) later ≡ 0 → (t ≡ true) × (later ≡ 0)
passed true k later e = (refl, e)
passed false k later e = absurd (some k e)

-- whether an order gives no refusal: its tests joined, line by line, up to the last
pub none : (t : Bool) (k later : ℕ) {x y : Bool} → x ≡ t → y ≡ eqb later 0 → (x && y) ≡ eqb (unless t (suc k) later) 0
none true k later p q = ap₂ ◌&&◌ p q
none false k later p q = ap₂ ◌&&◌ p q ∙ sym (ne_eqb (suc k) 0 (some k))

pub none_last : (t : Bool) (k : ℕ) → t ≡ eqb (unless t (suc k) 0) 0
none_last true k = refl
none_last false k = sym (ne_eqb (suc k) 0 (some k))

-- an order that gives a refusal, at its last line
pub last : (t : Bool) (k : ℕ) → eqb (unless t k 0) 0 ≡ false → k ≡ unless t k 0
last true k e = absurd (not-both e)
last false k e = refl

-- a lent list after an accepted call
pub lent-result : {A : Type 0} (answer : ℕ) (result before : List A) → answer ≡ 0 → lent answer result before ≡ result
lent-result answer result before e = ap (λ (b : Bool). pick b result before) (eq-eqb answer 0 e)

-- .. and after a refused one
pub lent-before : {A : Type 0} (answer : ℕ) (result before : List A) → (answer ≡ 0 → ⊥) → before ≡ lent answer result before
lent-before answer result before some = sym (ap (λ (b : Bool). pick b result before) (ne_eqb answer 0 some))

-- ---- the answer r of a call, with what a lent list holds after it

module _ {A : Type 0} (answer : ℕ) (result before : List A) where
  pub kept : (r : ℕ) → (r ≡ 0 → ⊥) → r ≡ answer → (r ≡ answer) × (before ≡ lent answer result before)
  kept r some e = (e, lent-before answer result before (λ z. some (e ∙ z)))

  pub refused : (k : ℕ) → suc k ≡ answer → (suc k ≡ answer) × (before ≡ lent answer result before)
  refused k e = kept (suc k) (some k) e

  pub done : (after : List A) → 0 ≡ answer → after ≡ result → (0 ≡ answer) × (after ≡ lent answer result before)
  done after e f = (e, f ∙ sym (lent-result answer result before (sym e)))
