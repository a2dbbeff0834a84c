-- Sums over a list and sums over places: added up place by place, or element by element. Assumes nothing.
use mathlib.Core.Path.{◌≡◌, refl, sym, ap, ap₂, ◌∙◌, subst}
use mathlib.Core.Bool.{Bool, true, false, ◌&&◌, and-true, and-false}
use mathlib.Core.List.{List, [], ◌∷◌, ◌++◌, map}
use Prim.Native.Nat.{ℕ, zero, suc, ◌<◌}
use native.Mathlib.Omega.{arith}
use lib.Dec.{eqb}
use lib.ListN.{length, get_or}
use lib.IntN.{ℤ, neg_ℤ, ◌+ℤ◌, ◌-ℤ◌, ◌*ℤ◌, +ℤ_idl, zero-*ℤ, *ℤ-zero, *ℤ_comm, neg_ℤ-+ℤ}
use borrow.Author.Tests.{eq-eqb, ne_eqb}
use Rattle.ints.specs.Each.{Every}
use Rattle.ints.specs.InsideEvery.{keep}
use Rattle.ints.specs.Refusal.{pick}
use Rattle.ints.specs.Sum.{Σℤ, sum_to, only}
use Rattle.ints.specs.Table.{tab}
use Rattle.ints.proofs.Tables.{length-tab, get_or-tab}
use Rattle.ints.proofs.Sums.{Σ-plus, Σ-ext, Σ-scale, sum_to-nil, sum_to-only, sum_to-plus, sum_to-neg, sum_to-ext}

-- ---- a list's elements

pub every_map : {A : Type 0} {P Q : A → Type 0} → ((x : A) → P x → Q x) → (xs : List A) → Every P xs → Every Q xs
every_map h [] e = tt
every_map h (x ∷ xs) e = (h x e.0, every_map h xs e.1)

pub every-last : {A : Type 0} (P : A → Type 0) (xs : List A) (x : A) → Every P xs → P x → Every P (xs ++ (x ∷ []))
every-last P [] x e h = (h, tt)
every-last P (y ∷ ys) x e h = (e.0, every-last P ys x e.1 h)

pub every-tab : {A : Type 0} (P : A → Type 0) (f : ℕ → A) (n : ℕ) → ((i : ℕ) → i < n → P (f i)) → Every P (tab f n)
unfolding tab
every-tab P f zero h = tt
every-tab P f (suc n) h = every-last P (tab f n) (f n) (every-tab P f n (λ i l. h i (omega arith))) (h n (omega arith))

-- equal terms, where something is known of each element
pub Σ-ext-on : {A : Type 0} {P : A → Type 0} (f g : A → ℤ) → ((x : A) → P x → f x ≡ g x) → (xs : List A) → Every P xs → Σℤ f xs ≡ Σℤ g xs
unfolding Σℤ
Σ-ext-on f g h [] e = refl
Σ-ext-on f g h (x ∷ xs) e = ap₂ ◌+ℤ◌ (h x e.0) (Σ-ext-on f g h xs e.1)

pub Σ-neg : {A : Type 0} (f : A → ℤ) (xs : List A) → Σℤ (λ x. neg_ℤ (f x)) xs ≡ neg_ℤ (Σℤ f xs)
unfolding Σℤ
Σ-neg f [] = refl
Σ-neg f (x ∷ xs) = ap (λ (s : ℤ). neg_ℤ (f x) +ℤ s) (Σ-neg f xs) ∙ sym (neg_ℤ-+ℤ (f x) (Σℤ f xs))

pub Σ-minus : {A : Type 0} (f g : A → ℤ) (xs : List A) → Σℤ (λ x. f x -ℤ g x) xs ≡ Σℤ f xs -ℤ Σℤ g xs
Σ-minus f g xs = Σ-plus f (λ x. neg_ℤ (g x)) xs ∙ ap (λ (s : ℤ). Σℤ f xs +ℤ s) (Σ-neg g xs)

pub sum_to-minus : (f g : ℕ → ℤ) (n : ℕ) → sum_to (λ i. f i -ℤ g i) n ≡ sum_to f n -ℤ sum_to g n
sum_to-minus f g n = sum_to-plus f (λ i. neg_ℤ (g i)) n ∙ ap (λ (s : ℤ). sum_to f n +ℤ s) (sum_to-neg g n)

-- ---- `only`

pub only-mul : (b : Bool) (z c : ℤ) → only b z *ℤ c ≡ only b (z *ℤ c)
only-mul true z c = refl
only-mul false z c = zero-*ℤ c

pub only-scale : (c : ℤ) (b : Bool) (z : ℤ) → c *ℤ only b z ≡ only b (c *ℤ z)
only-scale c true z = refl
only-scale c false z = *ℤ-zero c

-- a factor goes into a sum of chosen terms
pub Σ-only-mul : {A : Type 0} (t : A → Bool) (f : A → ℤ) (c : ℤ) (xs : List A) → Σℤ (λ x. only (t x) (f x)) xs *ℤ c ≡ Σℤ (λ x. only (t x) (f x *ℤ c)) xs
Σ-only-mul t f c xs =
    *ℤ_comm (Σℤ (λ x. only (t x) (f x)) xs) c ∙ sym (Σ-scale (λ x. only (t x) (f x)) c xs)
    ∙ Σ-ext (λ x. c *ℤ only (t x) (f x)) (λ x. only (t x) (f x *ℤ c)) xs (λ x. *ℤ_comm c (only (t x) (f x)) ∙ only-mul (t x) (f x) c)

pub Σ-only-scale : {A : Type 0} (c : ℤ) (t : A → Bool) (f : A → ℤ) (xs : List A) → c *ℤ Σℤ (λ x. only (t x) (f x)) xs ≡ Σℤ (λ x. only (t x) (c *ℤ f x)) xs
Σ-only-scale c t f xs =
    sym (Σ-scale (λ x. only (t x) (f x)) c xs) ∙ Σ-ext (λ x. c *ℤ only (t x) (f x)) (λ x. only (t x) (c *ℤ f x)) xs (λ x. only-scale c (t x) (f x))

-- ---- the exchange of the two kinds of sum

pub swap : {A : Type 0} (f : ℕ → A → ℤ) (n : ℕ) (xs : List A) → sum_to (λ i. Σℤ (f i) xs) n ≡ Σℤ (λ x. sum_to (λ i. f i x) n) xs
unfolding Σℤ
swap f n [] = sum_to-nil n
swap f n (x ∷ xs) = sum_to-plus (λ i. f i x) (λ i. Σℤ (f i) xs) n ∙ ap (λ (s : ℤ). sum_to (λ i. f i x) n +ℤ s) (swap f n xs)

-- an element has one place: of the sum over all places its own term is left
pub one_place : (t : Bool) (place n : ℕ) (f : ℕ → ℤ) → place < n → sum_to (λ l. only (t && eqb place l) (f l)) n ≡ only t (f place)
one_place t place n f h =
    sum_to-only (λ l. only (t && eqb place l) (f l)) n place h
    (λ l _ ne. ap (λ (b : Bool). only (t && b) (f l)) (ne_eqb place l (λ e. ne (sym e))) ∙ ap (λ (b : Bool). only b (f l)) (and-false t))
    ∙ ap (λ (b : Bool). only (t && b) (f place)) (eq-eqb place place refl) ∙ ap (λ (b : Bool). only b (f place)) (and-true t)

-- what stands at each place, over all places, is every element's term at its own place
pub gather : {A : Type 0} (t : A → Bool) (place : A → ℕ) (n : ℕ) (f : A → ℕ → ℤ) (xs : List A) → Every (λ x. place x < n) xs
    → sum_to (λ l. Σℤ (λ x. only (t x && eqb (place x) l) (f x l)) xs) n ≡ Σℤ (λ x. only (t x) (f x (place x))) xs
gather t place n f xs e =
    swap (λ l x. only (t x && eqb (place x) l) (f x l)) n xs
    ∙ Σ-ext-on (λ x. sum_to (λ l. only (t x && eqb (place x) l) (f x l)) n) (λ x. only (t x) (f x (place x))) (λ x h. one_place (t x) (place x) n (f x) h) xs e

-- the same over pairs of places
pub gather_pairs : {A : Type 0} (t : A → Bool) (from to : A → ℕ) (n : ℕ) (f : A → ℕ → ℕ → ℤ) (xs : List A) → Every (λ x. from x < n) xs → Every (λ x. to x < n) xs
    → sum_to (λ i. sum_to (λ j. Σℤ (λ x. only (t x && eqb (from x) i && eqb (to x) j) (f x i j)) xs) n) n ≡ Σℤ (λ x. only (t x) (f x (from x) (to x))) xs
gather_pairs t from to n f xs d e =
    sum_to-ext (λ i. sum_to (λ j. Σℤ (λ x. only (t x && eqb (from x) i && eqb (to x) j) (f x i j)) xs) n) (λ i. Σℤ (λ x. only (t x && eqb (from x) i) (f x i (to x))) xs) n
    (λ i _. gather (λ x. t x && eqb (from x) i) to n (λ x. f x i) xs e)
    ∙ gather t from n (λ x i. f x i (to x)) xs d

-- a sum of chosen terms needs only the elements of which some are chosen
pub Σ-keep : {A : Type 0} (t u : A → Bool) (f : A → ℤ) → ((x : A) → t x ≡ false → u x ≡ false) → (xs : List A)
    → Σℤ (λ x. only (u x) (f x)) (keep t xs) ≡ Σℤ (λ x. only (u x) (f x)) xs
unfolding Σℤ keep
Σ-keep t u f h [] = refl
Σ-keep {A} t u f h (x ∷ xs) = by (t x) refl (Σ-keep t u f h xs)
  where
    by : (b : Bool) → t x ≡ b → Σℤ (λ x. only (u x) (f x)) (keep t xs) ≡ Σℤ (λ x. only (u x) (f x)) xs
        → Σℤ (λ x. only (u x) (f x)) (pick b (x ∷ keep t xs) (keep t xs)) ≡ only (u x) (f x) +ℤ Σℤ (λ x. only (u x) (f x)) xs
    by true e rest = ap (λ (s : ℤ). only (u x) (f x) +ℤ s) rest
    by false e rest = rest ∙ sym (ap (λ (b : Bool). only b (f x) +ℤ Σℤ (λ x. only (u x) (f x)) xs) (h x e) ∙ +ℤ_idl (Σℤ (λ x. only (u x) (f x)) xs))

-- ---- the elements of a list by another name

pub every_of : {A B : Type 0} (g : A → B) (P : B → Type 0) (xs : List A) → Every (λ x. P (g x)) xs → Every P (map g xs)
every_of g P [] e = tt
every_of g P (x ∷ xs) e = (e.0, every_of g P xs e.1)

pub Σ-map : {A B : Type 0} (g : A → B) (f : B → ℤ) (xs : List A) → Σℤ f (map g xs) ≡ Σℤ (λ x. f (g x)) xs
unfolding Σℤ
Σ-map g f [] = refl
Σ-map g f (x ∷ xs) = ap (λ (s : ℤ). f (g x) +ℤ s) (Σ-map g f xs)

pub keep-map : {A B : Type 0} (g : A → B) (t : B → Bool) (xs : List A) → keep t (map g xs) ≡ map g (keep (λ x. t (g x)) xs)
unfolding keep
keep-map g t [] = refl
keep-map g t (x ∷ xs) = by (t (g x)) (keep-map g t xs)
  where
    by : (b : Bool) → keep t (map g xs) ≡ map g (keep (λ x. t (g x)) xs) → pick b (g x ∷ keep t (map g xs)) (keep t (map g xs)) ≡ map g (pick b (x ∷ keep (λ x. t (g x)) xs) (keep (λ x. t (g x)) xs))
    by true e = ap (λ ys. g x ∷ ys) e
    by false e = e

pub map_last : {A B : Type 0} (g : A → B) (xs : List A) (x : A) → map g (xs ++ (x ∷ [])) ≡ map g xs ++ (g x ∷ [])
map_last g [] x = refl
map_last {A} {B} g (y ∷ xs) x = ap (λ (zs : List B). g y ∷ zs) (map_last g xs x)

pub keep_append : {A : Type 0} (t : A → Bool) (xs ys : List A) → keep t (xs ++ ys) ≡ keep t xs ++ keep t ys
unfolding keep
keep_append t [] ys = refl
keep_append {A} t (x ∷ xs) ys = by (t x) (keep_append t xs ys)
  where
    by : (b : Bool) → keep t (xs ++ ys) ≡ keep t xs ++ keep t ys → pick b (x ∷ keep t (xs ++ ys)) (keep t (xs ++ ys)) ≡ pick b (x ∷ keep t xs) (keep t xs) ++ keep t ys
    by true e = ap (λ (zs : List A). x ∷ zs) e
    by false e = e

-- of elements that were chosen before, by a test that leaves no such one out
pub keep-keep : {A : Type 0} (t u : A → Bool) → ((x : A) → u x ≡ false → t x ≡ false) → (xs : List A) → keep t (keep u xs) ≡ keep t xs
unfolding keep
keep-keep t u h [] = refl
keep-keep {A} t u h (x ∷ xs) = by (u x) refl (keep-keep t u h xs)
  where
    by : (b : Bool) → u x ≡ b → keep t (keep u xs) ≡ keep t xs → keep t (pick b (x ∷ keep u xs) (keep u xs)) ≡ pick (t x) (x ∷ keep t xs) (keep t xs)
    by true e rest = ap (λ (zs : List A). pick (t x) (x ∷ zs) zs) rest
    by false e rest = rest ∙ sym (ap (λ (b : Bool). pick b (x ∷ keep t xs) (keep t xs)) (h x e))

-- what holds of each holds at each place
pub every-at : {A : Type 0} (P : A → Type 0) (d : A) → P d → (xs : List A) → Every P xs → (i : ℕ) → P (get_or xs i d)
every-at P d h [] e i = h
every-at P d h (x ∷ xs) e zero = e.0
every-at P d h (x ∷ xs) e (suc i) = every-at P d h xs e.1 i

pub tab-every : {A : Type 0} (P : A → Type 0) (f : ℕ → A) (n : ℕ) → Every P (tab f n) → (i : ℕ) → i < n → P (f i)
tab-every {A} P f n e i h = by (tab f n) e i (omega (arith, length-tab f n)) (f i) (get_or-tab f (f i) n i h)
  where
    by : (xs : List A) → Every P xs → (i : ℕ) → i < length xs → (y : A) → get_or xs i y ≡ y → P y
    by [] e i h y g = absurd (omega arith)
    by (x ∷ xs) e zero h y g = subst P g e.0
    by (x ∷ xs) e (suc i) h y g = by xs e.1 i (omega arith) y g

pub every_append : {A : Type 0} (P : A → Type 0) (xs ys : List A) → Every P xs → Every P ys → Every P (xs ++ ys)
every_append P [] ys e f = f
every_append P (x ∷ xs) ys e f = (e.0, every_append P xs ys e.1 f)
