-- A test of each of 0 .. n - 1, one by one. Assumes nothing.
use mathlib.Core.Path.{◌≡◌, refl, sym, ap, ap₂, ◌∙◌}
use mathlib.Core.Logic.{⊎_elim}
use mathlib.Core.Bool.{Bool, true, false, ◌&&◌, and-false}
use mathlib.Core.List.{List, [], ◌∷◌, ◌++◌}
use Prim.Native.Nat.{ℕ, zero, suc, ◌+◌, ◌<◌, suc-le-suc}
use native.Mathlib.Nat.{eq-or-lt_of_le, le_of_suc-le-suc, not-suc-le-zero}
use native.Mathlib.Numerals.{add-one}
use native.Mathlib.Omega.{arith}
use lib.ListN.{length, get_or}
use borrow.Author.Tests.{ne_eqb}
use Rattle.ints.specs.Each.{all_to, Every}
use Rattle.ints.specs.Refusal.{pick, unless}
use Rattle.ints.specs.Table.{tab, all}
use Rattle.ints.specs.Turn.{◌then◌, in_turn}
use Rattle.ints.proofs.Bools.{and-true, and-grouped, and_last}

module _ (t : ℕ → Bool) where
  -- a loop that tests one after the other: before the first, one more that passes, one that fails
  pub all_to-none : all_to t 0 ≡ true
  unfolding all_to
  all_to-none = refl

  pub all_to-next : (i : ℕ) → all_to t i ≡ true → t i ≡ true → all_to t (i + 1) ≡ true
  unfolding all_to
  all_to-next i e h = ap (all_to t) (add-one i) ∙ ap₂ ◌&&◌ e h

  pub all_to-fails : (n i : ℕ) → i < n → t i ≡ false → all_to t n ≡ false
  unfolding all_to
  all_to-fails zero i l h = absurd (not-suc-le-zero l)
  all_to-fails (suc n) i l h =
      ⊎_elim
      (λ e. ap (λ (b : Bool). all_to t n && b) (ap t (sym e) ∙ h) ∙ and-false (all_to t n))
      (λ u. ap (λ (b : Bool). b && t n) (all_to-fails n i u h))
      (eq-or-lt_of_le (le_of_suc-le-suc l))

  -- a test that all pass is passed by each
  pub all_to-at : (n : ℕ) → all_to t n ≡ true → (i : ℕ) → i < n → t i ≡ true
  unfolding all_to
  all_to-at zero e i l = absurd (not-suc-le-zero l)
  all_to-at (suc n) e i l =
      let b = and-true (all_to t n) (t n) e in
      ⊎_elim (λ q. ap t q ∙ b.1) (λ u. all_to-at n b.0 i u) (eq-or-lt_of_le (le_of_suc-le-suc l))

-- equal tests, below n
pub all_to-ext : (s t : ℕ → Bool) (n : ℕ) → ((i : ℕ) → i < n → s i ≡ t i) → all_to s n ≡ all_to t n
unfolding all_to
all_to-ext s t zero h = refl
all_to-ext s t (suc n) h = ap₂ ◌&&◌ (all_to-ext s t n (λ i l. h i (omega arith))) (h n (omega arith))

-- a test that each element passes is passed by all
pub all-each : {A : Type 0} (t : A → Bool) (d : A) (l : List A) → ((i : ℕ) → i < length l → t (get_or l i d) ≡ true) → all t l ≡ true
unfolding all
all-each t d [] h = refl
all-each t d (x ∷ xs) h = ap₂ ◌&&◌ (h 0 (omega arith)) (all-each t d xs (λ i l. h (suc i) (suc-le-suc l)))

-- one element more, at the end
all-last : {A : Type 0} (t : A → Bool) (xs : List A) (x : A) → all t (xs ++ (x ∷ [])) ≡ (all t xs && t x)
unfolding all
all-last t [] x = and_last (t x)
all-last t (y ∷ ys) x = ap (λ (b : Bool). t y && b) (all-last t ys x) ∙ and-grouped (t y) (all t ys) (t x)

-- things that are refused by one number, in turn: that number unless all pass
pub turn-all : {A : Type 0} (t : A → Bool) (g : ℕ → A) (k n : ℕ) → in_turn (λ i. unless (t (g i)) (suc k) 0) n ≡ unless (all t (tab g n)) (suc k) 0
unfolding in_turn tab all
turn-all t g k zero = refl
turn-all t g k (suc n) =
    ap (λ (r : ℕ). r then unless (t (g n)) (suc k) 0) (turn-all t g k n)
    ∙ both (all t (tab g n)) (t (g n))
    ∙ ap (λ (b : Bool). unless b (suc k) 0) (sym (all-last t (tab g n) (g n)))
  where
    both : (a b : Bool) → (unless a (suc k) 0 then unless b (suc k) 0) ≡ unless (a && b) (suc k) 0
    both true b = refl
    both false b = ap (λ (c : Bool). pick c (unless b (suc k) 0) (suc k)) (ne_eqb (suc k) 0 some)
      where
        some : suc k ≡ 0 → ⊥
        some e = omega arith

-- ---- what a test that all pass tells of each

pub all-every : {A : Type 0} (t : A → Bool) (P : A → Type 0) → ((x : A) → t x ≡ true → P x) → (xs : List A) → all t xs ≡ true → Every P xs
unfolding all
all-every t P h [] e = tt
all-every t P h (x ∷ xs) e = let both = and-true (t x) (all t xs) e in (h x both.0, all-every t P h xs both.1)
