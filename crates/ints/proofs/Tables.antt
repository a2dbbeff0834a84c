-- Laws of tabulated lists and of tests over a list. Assumes nothing.
use mathlib.Core.Path.{◌≡◌, refl, sym, ap, ap₂, ◌∙◌, subst}
use mathlib.Core.Logic.{⊎_elim}
use mathlib.Core.Bool.{Bool, true, ◌&&◌}
use mathlib.Core.List.{List, [], ◌∷◌, ◌++◌, append-nil, append_assoc}
use Prim.Native.Nat.{ℕ, zero, suc, ◌+◌, ◌≤◌, ◌<◌}
use native.Mathlib.Nat.{eq-or-lt_of_le, le_of_suc-le-suc, not-suc-le-zero}
use native.Mathlib.Numerals.{add-one}
use native.Mathlib.Omega.{arith}
use Rattle.std.proofs.lemmas.List.{length-take-le, replicate-append-replicate}
use lib.ListN.{length, get_or, take, replicate, drop, set, length-append, length-drop, length-set, get_or-append, drop_of_length-le, take-append-drop}
use lib.Seq.{take-suc-set, take_all, get_or_at, get_or-take, get_or-drop, get_or-set_other, drop-cons, ext_get_or}
use Rattle.ints.specs.Table.{tab, all}
use Rattle.ints.proofs.Bools.{and-true, and-nothing, and_assoc}

-- ---- tabulated lists

pub length-tab : {A : Type 0} (f : ℕ → A) (n : ℕ) → length (tab f n) ≡ n
unfolding tab
length-tab f zero = refl
length-tab f (suc n) = omega (arith, length-append (tab f n) (f n ∷ []), length-tab f n)

pub get_or-tab : {A : Type 0} (f : ℕ → A) (d : A) (n i : ℕ) → i < n → get_or (tab f n) i d ≡ f i
unfolding tab
get_or-tab f d zero i l = absurd (not-suc-le-zero l)
get_or-tab f d (suc n) i l =
    ⊎_elim
    (λ e. ap (λ (k : ℕ). get_or (tab f n ++ (f n ∷ [])) k d) e ∙ get_or_at (tab f n) (f n) [] d n (length-tab f n) ∙ ap f (sym e))
    (λ u. get_or-append (tab f n) (f n ∷ []) d i (omega (arith, length-tab f n)) ∙ get_or-tab f d n i u)
    (eq-or-lt_of_le (le_of_suc-le-suc l))

-- a loop that writes f i at i: before the first store, one store more, after the last
pub tab-none : {A : Type 0} (f : ℕ → A) → [] ≡ tab f 0
unfolding tab
tab-none f = refl

pub tab-store : {A : Type 0} (f : ℕ → A) (l : List A) (i : ℕ) (v : A) → i < length l → v ≡ f i → take i l ≡ tab f i → take (i + 1) (set l i v) ≡ tab f (i + 1)
unfolding tab
tab-store {A} f l i v h q e = ap (λ (k : ℕ). take k (set l i v)) (add-one i) ∙ take-suc-set l i v h ∙ ap₂ (λ (t : List A) (x : A). t ++ (x ∷ [])) e q ∙ ap (tab f) (sym (add-one i))

pub tab-done : {A : Type 0} (f : ℕ → A) (l : List A) (i : ℕ) → length l ≡ i → take i l ≡ tab f i → l ≡ tab f (length l)
tab-done f l i h e = sym (take_all i l (omega arith)) ∙ e ∙ ap (tab f) (sym h)

-- what such a loop has written is read
pub tab-read : {A : Type 0} (f : ℕ → A) (l : List A) (n : ℕ) (d : A) → take n l ≡ tab f n → (i : ℕ) → i < n → get_or l i d ≡ f i
tab-read {A} f l n d e i h = sym (get_or-take n l i d h) ∙ ap (λ (t : List A). get_or t i d) e ∙ get_or-tab f d n i h

pub tab-ext : {A : Type 0} (f g : ℕ → A) (n : ℕ) → ((i : ℕ) → i < n → f i ≡ g i) → tab f n ≡ tab g n
unfolding tab
tab-ext {A} f g zero h = refl
tab-ext {A} f g (suc n) h = ap₂ (λ (t : List A) (x : A). t ++ (x ∷ [])) (tab-ext f g n (λ i l. h i (omega arith))) (h n (omega arith))

-- a list is its numbers
pub tab-self : {A : Type 0} (d : A) (l : List A) → l ≡ tab (λ i. get_or l i d) (length l)
tab-self d l = ext_get_or d l (tab (λ i. get_or l i d) (length l)) (sym (length-tab (λ i. get_or l i d) (length l))) (λ i h. sym (get_or-tab (λ i. get_or l i d) d (length l) i h))

pub tab-copy : {A : Type 0} (d : A) (l : List A) {n : ℕ} → n ≡ length l → tab (λ i. get_or l i d) n ≡ l
tab-copy d l e = ap (tab (λ i. get_or l i d)) e ∙ sym (tab-self d l)

-- the front of a list is its first numbers, and a list of one number is that number throughout
pub take-tab : {A : Type 0} (d : A) (l : List A) (n : ℕ) → n ≤ length l → take n l ≡ tab (λ i. get_or l i d) n
take-tab d l n h =
    ext_get_or d (take n l) (tab (λ i. get_or l i d) n)
    (length-take-le n l h ∙ sym (length-tab (λ i. get_or l i d) n))
    (λ i m. let k : i < n = omega (arith, length-take-le n l h) in get_or-take n l i d k ∙ sym (get_or-tab (λ i. get_or l i d) d n i k))

pub replicate-tab : {A : Type 0} (x : A) (n : ℕ) → replicate n x ≡ tab (λ i. x) n
unfolding tab
replicate-tab x zero = refl
replicate-tab x (suc n) = ap (λ (k : ℕ). replicate k x) (sym (add-one n)) ∙ sym (replicate-append-replicate n 1 x) ∙ ap (λ (t : List _). t ++ (x ∷ [])) (replicate-tab x n)

-- a loop that changes the numbers of a list where they are: the first i are f's, and the others are as they were
module _ {A : Type 0} (d : A) (f : ℕ → A) (before : List A) where
  pub record InPlace (i : ℕ) (l : List A) : Type 0 where
    pub made : take i l ≡ tab f i
    pub rest : (j : ℕ) → i ≤ j → get_or l j d ≡ get_or before j d
    pub long : length l ≡ length before

  pub place-start : InPlace 0 before
  place-start = record { made = tab-none f; rest = λ j _. refl; long = refl }

  pub place-next : (l after : List A) (i : ℕ) (v : A) → InPlace i l → i < length before → v ≡ f i → after ≡ set l i v → InPlace (i + 1) after
  place-next l after i v p h q e = subst (InPlace (i + 1)) (sym e) (record {
    made = tab-store f l i v (omega (arith, p.long)) q p.made;
    rest = λ j k. get_or-set_other l i j v d (λ z. same i (subst (λ (j : ℕ). i + 1 ≤ j) z k)) ∙ p.rest j (omega arith);
    long = length-set l i v ∙ p.long;
  })
    where
      same : (i : ℕ) → i + 1 ≤ i → ⊥
      same i h = omega arith

  pub place-done : (l : List A) (i : ℕ) → InPlace i l → length before ≤ i → i ≤ length before → l ≡ tab f (length before)
  place-done l i p h k = tab-done f l i (omega (arith, p.long)) p.made ∙ ap (tab f) p.long

  -- .. of a list whose first i are changed
  pub place-front : (l : List A) (i : ℕ) → InPlace i l → l ≡ tab f i ++ drop i before
  place-front l i p = sym (take-append-drop i l) ∙ ap₂ ◌++◌ p.made (ext_get_or d (drop i l) (drop i before) (omega (arith, length-drop i l, length-drop i before, p.long)) (λ j _. get_or-drop i l j d ∙ p.rest (i + j) (omega arith) ∙ sym (get_or-drop i before j d)))

-- ---- a test over a list, element by element

module _ {A : Type 0} (t : A → Bool) (d : A) where
  pub all-next : (l : List A) (i : ℕ) → i < length l → all t (drop i l) ≡ (t (get_or l i d) && all t (drop (i + 1) l))
  unfolding all
  all-next l i h = ap (all t) (drop-cons l i d h) ∙ ap (λ (k : ℕ). t (get_or l i d) && all t (drop k l)) (sym (add-one i))

  pub all_none : (l : List A) (i : ℕ) → length l ≤ i → all t (drop i l) ≡ true
  unfolding all
  all_none l i h = ap (all t) (drop_of_length-le l h)

  -- a test that all pass is passed at each place
  pub all-at : (l : List A) → all t l ≡ true → (i : ℕ) → i < length l → t (get_or l i d) ≡ true
  unfolding all
  all-at [] e i h = absurd (not-suc-le-zero h)
  all-at (x ∷ xs) e zero h = (and-true (t x) (all t xs) e).0
  all-at (x ∷ xs) e (suc i) h = all-at xs (and-true (t x) (all t xs) e).1 i (le_of_suc-le-suc h)

-- ---- a list by a rule, in two parts

-- a test over one more
pub all-last : {A : Type 0} (t : A → Bool) (f : ℕ → A) (n : ℕ) → (all t (tab f n) && t (f n)) ≡ all t (tab f (n + 1))
unfolding tab all
all-last {A} t f n = sym (ap (λ (k : ℕ). all t (tab f k)) (add-one n) ∙ more (tab f n))
  where
    more : (xs : List A) → all t (xs ++ (f n ∷ [])) ≡ (all t xs && t (f n))
    more [] = and-nothing (t (f n))
    more (x ∷ xs) = ap (λ (b : Bool). t x && b) (more xs) ∙ and_assoc (t x) (all t xs) (t (f n))

pub tab-parts : {A : Type 0} (f : ℕ → A) (m n : ℕ) → tab f (m + n) ≡ tab f m ++ tab (λ i. f (m + i)) n
unfolding tab
tab-parts f m zero = let here : m + 0 ≡ m = omega arith in ap (tab f) here ∙ sym (append-nil (tab f m))
tab-parts f m (suc n) =
    let here : m + suc n ≡ suc (m + n) = omega arith in
    ap (tab f) here ∙ ap (λ xs. xs ++ (f (m + n) ∷ [])) (tab-parts f m n) ∙ append_assoc (tab f m) (tab (λ i. f (m + i)) n) (f (m + n) ∷ [])

-- .. and its first element apart
pub tab-front : {A : Type 0} (f : ℕ → A) (n : ℕ) → tab f (suc n) ≡ f 0 ∷ tab (λ i. f (suc i)) n
unfolding tab
tab-front f zero = refl
tab-front {A} f (suc n) = ap (λ (t : List A). t ++ (f (suc n) ∷ [])) (tab-front f n)
