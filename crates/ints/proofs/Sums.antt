-- Laws of sums in ℤ over a list. Assumes nothing.
use mathlib.Core.Path.{◌≡◌, refl, sym, ap, ap₂, ◌∙◌}
use mathlib.Core.Logic.{◌≢◌, ⊎_elim}
use mathlib.Core.List.{List, [], ◌∷◌, ◌++◌}
use Prim.Native.Nat.{ℕ, zero, suc, ◌+◌, ◌*◌, ◌≤◌, ◌<◌}
use native.Mathlib.Nat.{eq-or-lt_of_le, le_of_suc-le-suc}
use native.Mathlib.Numerals.{add-one}
use native.Mathlib.Omega.{arith}
use lib.IntN.{ℤ, pos, neg_ℤ, nat_abs, ◌+ℤ◌, ◌*ℤ◌, +ℤ_idl, +ℤ_idr, +ℤ_assoc, +ℤ_comm, *ℤ-zero, *ℤ_comm, neg_ℤ-+ℤ}
use lib.ListN.{length, take, get_or}
use lib.Seq.{take-suc, take-length}
use Rattle.ints.specs.Sum.{Σℤ, sum_to}
use Rattle.ints.proofs.Diff.{*ℤ-distl}
use Rattle.ints.proofs.Sizes.{abs-add}

module _ {A : Type 0} (f : A → ℤ) where
  pub Σ-append : (xs ys : List A) → Σℤ f (xs ++ ys) ≡ Σℤ f xs +ℤ Σℤ f ys
  unfolding Σℤ
  Σ-append [] ys = sym (+ℤ_idl (Σℤ f ys))
  Σ-append (x ∷ xs) ys = ap (λ (s : ℤ). f x +ℤ s) (Σ-append xs ys) ∙ sym (+ℤ_assoc (f x) (Σℤ f xs) (Σℤ f ys))

  pub Σ-one : (x : A) → Σℤ f (x ∷ []) ≡ f x
  unfolding Σℤ
  Σ-one x = +ℤ_idr (f x)

  -- one element more, as a loop adds it
  pub Σ-snoc : (xs : List A) (i : ℕ) (d : A) → i < length xs → Σℤ f (take (i + 1) xs) ≡ Σℤ f (take i xs) +ℤ f (get_or xs i d)
  Σ-snoc xs i d h = ap (λ (n : ℕ). Σℤ f (take n xs)) (add-one i) ∙ ap (Σℤ f) (take-suc xs i d h) ∙ Σ-append (take i xs) (get_or xs i d ∷ []) ∙ ap (λ (s : ℤ). Σℤ f (take i xs) +ℤ s) (Σ-one (get_or xs i d))

  pub Σ-abs : (k : ℕ) (xs : List A) → ((x : A) → nat_abs (f x) ≤ k) → nat_abs (Σℤ f xs) ≤ length xs * k
  unfolding Σℤ
  Σ-abs k [] h = omega arith
  Σ-abs k (x ∷ xs) h = omega (arith, abs-add (f x) (Σℤ f xs) k (length xs * k) (h x) (Σ-abs k xs h))

  pub Σ-scale : (c : ℤ) (xs : List A) → Σℤ (λ x. c *ℤ f x) xs ≡ c *ℤ Σℤ f xs
  unfolding Σℤ
  Σ-scale c [] = sym (*ℤ-zero c)
  Σ-scale c (x ∷ xs) = ap (λ (s : ℤ). c *ℤ f x +ℤ s) (Σ-scale c xs) ∙ sym (*ℤ-distl c (f x) (Σℤ f xs))

-- four terms regrouped
pub shuffle : (a b c d : ℤ) → (a +ℤ b) +ℤ (c +ℤ d) ≡ (a +ℤ c) +ℤ (b +ℤ d)
shuffle a b c d = +ℤ_assoc a b (c +ℤ d) ∙ ap (λ (s : ℤ). a +ℤ s) (sym (+ℤ_assoc b c d) ∙ ap (λ (s : ℤ). s +ℤ d) (+ℤ_comm b c) ∙ +ℤ_assoc c b d) ∙ sym (+ℤ_assoc a c (b +ℤ d))

pub Σ-plus : {A : Type 0} (f g : A → ℤ) (xs : List A) → Σℤ (λ x. f x +ℤ g x) xs ≡ Σℤ f xs +ℤ Σℤ g xs
unfolding Σℤ
Σ-plus f g [] = refl
Σ-plus f g (x ∷ xs) = ap (λ (s : ℤ). (f x +ℤ g x) +ℤ s) (Σ-plus f g xs) ∙ shuffle (f x) (g x) (Σℤ f xs) (Σℤ g xs)

pub Σ-zero : {A : Type 0} (xs : List A) → Σℤ (λ (x : A). pos 0) xs ≡ pos 0
unfolding Σℤ
Σ-zero [] = refl
Σ-zero (x ∷ xs) = +ℤ_idl (Σℤ (λ x. pos 0) xs) ∙ Σ-zero xs

-- equal terms
pub Σ-ext : {A : Type 0} (f g : A → ℤ) (xs : List A) → ((x : A) → f x ≡ g x) → Σℤ f xs ≡ Σℤ g xs
unfolding Σℤ
Σ-ext f g [] h = refl
Σ-ext f g (x ∷ xs) h = ap₂ ◌+ℤ◌ (h x) (Σ-ext f g xs h)

-- the exchange law
pub Σ-swap : {A B : Type 0} (f : A → B → ℤ) (xs : List A) (ys : List B) → Σℤ (λ x. Σℤ (f x) ys) xs ≡ Σℤ (λ y. Σℤ (λ x. f x y) xs) ys
unfolding Σℤ
Σ-swap f [] ys = sym (Σ-zero ys)
Σ-swap f (x ∷ xs) ys = ap (λ (s : ℤ). Σℤ (f x) ys +ℤ s) (Σ-swap f xs ys) ∙ sym (Σ-plus (f x) (λ y. Σℤ (λ x. f x y) xs) ys)

-- ---- sums over a count

-- one more term, at the code's i + 1
pub sum_to-next : (f : ℕ → ℤ) (n : ℕ) → sum_to f (n + 1) ≡ sum_to f n +ℤ f n
unfolding sum_to
sum_to-next f n = ap (sum_to f) (add-one n)

pub sum_to-zero : (f : ℕ → ℤ) → sum_to f 0 ≡ pos 0
unfolding sum_to
sum_to-zero f = refl

-- equal terms, below the count
pub sum_to-ext : (f g : ℕ → ℤ) (n : ℕ) → ((i : ℕ) → i < n → f i ≡ g i) → sum_to f n ≡ sum_to g n
unfolding sum_to
sum_to-ext f g zero h = refl
sum_to-ext f g (suc n) h = ap₂ ◌+ℤ◌ (sum_to-ext f g n (λ i l. h i (omega arith))) (h n (omega arith))

pub sum_to-plus : (f g : ℕ → ℤ) (n : ℕ) → sum_to (λ i. f i +ℤ g i) n ≡ sum_to f n +ℤ sum_to g n
unfolding sum_to
sum_to-plus f g zero = refl
sum_to-plus f g (suc n) = ap (λ (s : ℤ). s +ℤ (f n +ℤ g n)) (sum_to-plus f g n) ∙ shuffle (sum_to f n) (sum_to g n) (f n) (g n)

pub sum_to-neg : (f : ℕ → ℤ) (n : ℕ) → sum_to (λ i. neg_ℤ (f i)) n ≡ neg_ℤ (sum_to f n)
unfolding sum_to
sum_to-neg f zero = refl
sum_to-neg f (suc n) = ap (λ (s : ℤ). s +ℤ neg_ℤ (f n)) (sum_to-neg f n) ∙ sym (neg_ℤ-+ℤ (sum_to f n) (f n))

pub sum_to-scale : (c : ℤ) (f : ℕ → ℤ) (n : ℕ) → sum_to (λ i. c *ℤ f i) n ≡ c *ℤ sum_to f n
unfolding sum_to
sum_to-scale c f zero = sym (*ℤ-zero c)
sum_to-scale c f (suc n) = ap (λ (s : ℤ). s +ℤ c *ℤ f n) (sum_to-scale c f n) ∙ sym (*ℤ-distl c (sum_to f n) (f n))

pub sum_to-nil : (n : ℕ) → sum_to (λ (i : ℕ). pos 0) n ≡ pos 0
unfolding sum_to
sum_to-nil zero = refl
sum_to-nil (suc n) = +ℤ_idr (sum_to (λ i. pos 0) n) ∙ sum_to-nil n

-- the exchange law
pub sum_to-swap : (f : ℕ → ℕ → ℤ) (m n : ℕ) → sum_to (λ i. sum_to (f i) n) m ≡ sum_to (λ j. sum_to (λ i. f i j) m) n
unfolding sum_to
sum_to-swap f zero n = sym (sum_to-nil n)
sum_to-swap f (suc m) n = ap (λ (s : ℤ). s +ℤ sum_to (f m) n) (sum_to-swap f m n) ∙ sym (sum_to-plus (λ j. sum_to (λ i. f i j) m) (f m) n)

-- one term of all is not 0: the sum is that term
pub sum_to-none : (f : ℕ → ℤ) (n : ℕ) → ((i : ℕ) → i < n → f i ≡ pos 0) → sum_to f n ≡ pos 0
sum_to-none f n h = sum_to-ext f (λ i. pos 0) n h ∙ sum_to-nil n

pub sum_to-only : (f : ℕ → ℤ) (n k : ℕ) → k < n → ((i : ℕ) → i < n → i ≢ k → f i ≡ pos 0) → sum_to f n ≡ f k
unfolding sum_to
sum_to-only f zero k l h = absurd (not-lt l)
  where
    not-lt : k < 0 → ⊥
    not-lt h = omega arith
sum_to-only f (suc n) k l h = ⊎_elim here (there (λ j. sum_to-only f n k j (λ i u v. h i (omega arith) v))) (eq-or-lt_of_le (le_of_suc-le-suc l))
  where
    here : k ≡ n → sum_to f n +ℤ f n ≡ f k
    here e =
        ap₂ ◌+ℤ◌ (sum_to-none f n (λ i j. h i (omega arith) (omega arith))) (ap f (sym e)) ∙ +ℤ_idl (f k)

    there : (k < n → sum_to f n ≡ f k) → k < n → sum_to f n +ℤ f n ≡ f k
    there r j =
        ap₂ ◌+ℤ◌ (r j) (h n (omega arith) (omega arith)) ∙ +ℤ_idr (f k)

-- a bound on each term bounds the sum
pub sum_to-abs : (f : ℕ → ℤ) (k n : ℕ) → ((i : ℕ) → i < n → nat_abs (f i) ≤ k) → nat_abs (sum_to f n) ≤ n * k
unfolding sum_to
sum_to-abs f k zero h = omega arith
sum_to-abs f k (suc n) h = omega (arith, abs-add (sum_to f n) (f n) (n * k) k (sum_to-abs f k n (λ i l. h i (omega arith))) (h n (omega arith)))

-- a list's sum by its places
Σ-to : {A : Type 0} (f : A → ℤ) (xs : List A) (d : A) (n : ℕ) → n ≤ length xs → Σℤ f (take n xs) ≡ sum_to (λ i. f (get_or xs i d)) n
unfolding sum_to Σℤ
Σ-to f xs d zero l = refl
Σ-to f xs d (suc n) l =
    ap (λ (m : ℕ). Σℤ f (take m xs)) (sym (add-one n)) ∙ Σ-snoc f xs n d (omega arith) ∙ ap (λ (s : ℤ). s +ℤ f (get_or xs n d)) (Σ-to f xs d n (omega arith))

pub Σ-at : {A : Type 0} (f : A → ℤ) (xs : List A) (d : A) → Σℤ f xs ≡ sum_to (λ i. f (get_or xs i d)) (length xs)
Σ-at f xs d = ap (Σℤ f) (sym (take-length xs)) ∙ Σ-to f xs d (length xs) (omega arith)

pub sum_to-scale-r : (c : ℤ) (f : ℕ → ℤ) (n : ℕ) → sum_to f n *ℤ c ≡ sum_to (λ i. f i *ℤ c) n
sum_to-scale-r c f n = *ℤ_comm (sum_to f n) c ∙ sym (sum_to-scale c f n) ∙ sum_to-ext (λ i. c *ℤ f i) (λ i. f i *ℤ c) n (λ i _. *ℤ_comm c (f i))
