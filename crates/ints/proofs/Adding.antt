-- Amounts added to their owners' totals, one thing after the other. Assumes nothing.
use mathlib.Core.Path.{◌≡◌, refl, sym, ap, ◌∙◌, subst}
use mathlib.Core.Bool.{Bool, true, false}
use mathlib.Core.List.{List, [], ◌∷◌, ◌++◌}
use Prim.Native.Nat.{ℕ, ◌+◌, ◌*◌, ◌≤◌, ◌<◌}
use native.Mathlib.Nat.{mul-le-mul_right}
use native.Mathlib.Numerals.{add-one}
use native.Mathlib.Omega.{arith}
use lib.Dec.{eqb}
use lib.IntN.{ℤ, pos, ◌+ℤ◌, +ℤ_idr, +ℤ_assoc}
use lib.ListN.{length, set, length-set}
use lib.Seq.{get_or-set_same, get_or-set_other}
use borrow.Author.Tests.{eqb-true, eqb-false}
use Rattle.ints.specs.Each.{Every}
use Rattle.ints.specs.InsideEvery.{to_owner, owed, Added}
use Rattle.ints.specs.InsideRange.{Within, InRange}
use Rattle.ints.specs.Sum.{Σℤ, only}
use Rattle.ints.specs.Table.{◌at◌, tab}
use Rattle.ints.proofs.Gather.{Σ-ext-on}
use Rattle.ints.proofs.Sizes.{w-add, w-lit, w-up}
use Rattle.ints.proofs.Sums.{Σ-append, Σ-one}

-- ---- what is owed

module _ {A : Type 0} (owner : A → ℕ) (f : A → ℤ) (p : ℕ) where
  pub owed_none : owed owner f [] p ≡ pos 0
  unfolding owed Σℤ
  owed_none = refl

  -- one thing more, at the end
  pub owed-last : (xs : List A) (x : A) → owed owner f (xs ++ (x ∷ [])) p ≡ owed owner f xs p +ℤ only (eqb (owner x) p) (f x)
  unfolding owed
  owed-last xs x =
      Σ-append (λ x. only (eqb (owner x) p) (f x)) xs (x ∷ [])
      ∙ ap (λ (z : ℤ). owed owner f xs p +ℤ z) (Σ-one (λ x. only (eqb (owner x) p) (f x)) x)

-- equal amounts, where something is known of each thing
pub owed-ext : {A : Type 0} {P : A → Type 0} (owner : A → ℕ) (f g : A → ℤ) → ((x : A) → P x → f x ≡ g x) → (xs : List A) → Every P xs → (p : ℕ) → owed owner f xs p ≡ owed owner g xs p
unfolding owed
owed-ext owner f g h xs e p =
    Σ-ext-on (λ x. only (eqb (owner x) p) (f x)) (λ x. only (eqb (owner x) p) (g x)) (λ x q. ap (λ (z : ℤ). only (eqb (owner x) p) z) (h x q)) xs e

-- what is within a bound, or left out
pub only-within : (b : Bool) {z : ℤ} {k : ℕ} → Within z k → Within (only b z) k
only-within true w = w
only-within false w = w-up (w-lit {x = pos 0} {k = 0} tt) (omega arith)

-- ---- a total

-- a number added at q is added there alone
pub added : (xs : List ℤ) (q : ℕ) (z : ℤ) (p : ℕ) → q < length xs → set xs q (xs at q +ℤ z) at p ≡ xs at p +ℤ only (eqb q p) z
added xs q z p l = by (eqb q p) refl
  where
    by : (b : Bool) → eqb q p ≡ b → set xs q (xs at q +ℤ z) at p ≡ xs at p +ℤ only b z
    by true e =
        ap (λ (p : ℕ). set xs q (xs at q +ℤ z) at p) (sym (eqb-true q p e)) ∙ get_or-set_same xs q (xs at q +ℤ z) (pos 0) l
        ∙ ap (λ (p : ℕ). xs at p +ℤ z) (eqb-true q p e)
    by false e = get_or-set_other xs q p (xs at q +ℤ z) (pos 0) (λ k. eqb-false q p e (sym k)) ∙ sym (+ℤ_idr (xs at p))

-- ---- a loop that adds what each thing adds. Totals start within `first`, and what is added to one of them within `size`

module _ {A : Type 0} (adds : A → ℕ → ℤ) (g : ℕ → A) (first size : ℕ) where
  pub record Adding (before : List ℤ) (i : ℕ) (totals : List ℤ) : Type 0 where
    pub sum : Added adds (tab g i) before totals
    pub range : InRange totals (first + i * size)
    pub long : length totals ≡ length before

  pub adding-start : {before : List ℤ} → InRange before first → Adding before 0 before
  unfolding tab Σℤ
  adding-start {before} r = record {
    sum = record { each = λ p. sym (+ℤ_idr (before at p)) };
    range = record { each = λ p. w-up (r.each p) (omega arith) };
    long = refl;
  }

  -- one thing more, x, which changes each total by what it adds to it
  pub adding-next : {before totals after : List ℤ} {i : ℕ} → Adding before i totals → (x : A) → g i ≡ x
      → ((p : ℕ) → after at p ≡ totals at p +ℤ adds x p) → ((p : ℕ) → Within (adds x p) size) → length after ≡ length totals → Adding before (i + 1) after
  unfolding tab
  adding-next {before} {totals} {after} {i} a x is step w l = record {
    sum = record {
      each = λ p.
          step p ∙ ap (λ (y : ℤ). y +ℤ adds x p) (a.sum.each p)
          ∙ +ℤ_assoc (before at p) (Σℤ (λ x. adds x p) (tab g i)) (adds x p)
          ∙ ap (λ (y : ℤ). before at p +ℤ y)
          (ap (λ (x : A). Σℤ (λ x. adds x p) (tab g i) +ℤ adds x p) (sym is)
          ∙ sym (ap (λ (n : ℕ). Σℤ (λ x. adds x p) (tab g n)) (add-one i) ∙ Σ-append (λ x. adds x p) (tab g i) (g i ∷ []) ∙ ap (λ (z : ℤ). Σℤ (λ x. adds x p) (tab g i) +ℤ z) (Σ-one (λ x. adds x p) (g i))));
    };
    range = record { each = λ p. subst (λ (y : ℤ). Within y (first + (i + 1) * size)) (sym (step p)) (w-up (w-add (a.range.each p) (w p)) (omega arith)) };
    long = l ∙ a.long;
  }

  -- in the loop every total is within a bound
  pub adding-range : {before totals : List ℤ} {i : ℕ} → Adding before i totals → (n last : ℕ) → i ≤ n → first + n * size ≤ last → InRange totals last
  adding-range {i = i} a n last h l = record { each = λ p. w-up (a.range.each p) (omega (arith, mul-le-mul_right size h)) }

  -- the loop's end
  pub adding-done : {before totals : List ℤ} {i : ℕ} → Adding before i totals → (n : ℕ) → i ≡ n → Added adds (tab g n) before totals
  adding-done {before} {totals} a n e = subst (λ (k : ℕ). Added adds (tab g k) before totals) e a.sum

-- things that have one owner each: the amount was stored there
pub owner-next : {A : Type 0} (owner : A → ℕ) (f : A → ℤ) (g : ℕ → A) (first size : ℕ) {before totals after : List ℤ} {i : ℕ} → Adding (to_owner owner f) g first size before i totals
    → (x : A) → g i ≡ x → owner x < length totals → after ≡ set totals (owner x) (totals at owner x +ℤ f x) → Within (f x) size → Adding (to_owner owner f) g first size before (i + 1) after
owner-next owner f g first size {totals = totals} a x is l stored w =
    adding-next (to_owner owner f) g first size a x is
    (λ p. ap (λ (t : List ℤ). t at p) stored ∙ added totals (owner x) (f x) p l)
    (λ p. only-within (eqb (owner x) p) w)
    (ap length stored ∙ length-set totals (owner x) _)

-- a sum of things is within as many times the bound as there are things
pub Σ-within : {A : Type 0} {P : A → Type 0} (f : A → ℤ) (k : ℕ) → ((x : A) → P x → Within (f x) k) → (xs : List A) → Every P xs → Within (Σℤ f xs) (length xs * k)
unfolding Σℤ
Σ-within f k h [] e = w-up (w-lit {x = pos 0} {k = 0} tt) (omega arith)
Σ-within {P = P} f k h (x ∷ xs) e = w-up (w-add (h x e.0) (Σ-within f k h xs e.1)) (omega arith)

pub owed-within : {A : Type 0} {P : A → Type 0} (owner : A → ℕ) (f : A → ℤ) (k : ℕ) → ((x : A) → P x → Within (f x) k) → (xs : List A) → Every P xs → (p : ℕ) → Within (owed owner f xs p) (length xs * k)
unfolding owed
owed-within owner f k h xs e p = Σ-within (λ x. to_owner owner f x p) k (λ x q. only-within (eqb (owner x) p) (h x q)) xs e
