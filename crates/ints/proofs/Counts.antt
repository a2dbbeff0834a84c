-- Laws of sums and counts in ℕ. Assumes nothing.
use mathlib.Core.Path.{◌≡◌, refl, ap, ap₂, ◌∙◌, subst}
use mathlib.Core.Logic.{⊎_elim}
use mathlib.Core.Bool.{Bool, true, false}
use Prim.Native.Nat.{ℕ, zero, suc, ◌+◌, ◌*◌, ◌≤◌, ◌<◌}
use native.Mathlib.Nat.{eq-or-lt_of_le, le_of_suc-le-suc, not-suc-le-zero}
use native.Mathlib.Numerals.{add-one}
use native.Mathlib.Omega.{arith}
use Rattle.ints.specs.Sum.{sum_nat, one}

pub sum_nat-zero : (f : ℕ → ℕ) → sum_nat f 0 ≡ 0
unfolding sum_nat
sum_nat-zero f = refl

pub sum_nat-suc : (f : ℕ → ℕ) (n : ℕ) → sum_nat f (suc n) ≡ sum_nat f n + f n
unfolding sum_nat
sum_nat-suc f n = refl

-- one more term, at the code's n + 1
pub sum_nat-next : (f : ℕ → ℕ) (n : ℕ) → sum_nat f (n + 1) ≡ sum_nat f n + f n
unfolding sum_nat
sum_nat-next f n = ap (sum_nat f) (add-one n)

pub sum_nat-ext : (f g : ℕ → ℕ) (n : ℕ) → ((i : ℕ) → i < n → f i ≡ g i) → sum_nat f n ≡ sum_nat g n
unfolding sum_nat
sum_nat-ext f g zero h = refl
sum_nat-ext f g (suc n) h = ap₂ ◌+◌ (sum_nat-ext f g n (λ i l. h i (omega arith))) (h n (omega arith))

pub sum_nat-le : (f g : ℕ → ℕ) (n : ℕ) → ((i : ℕ) → i < n → f i ≤ g i) → sum_nat f n ≤ sum_nat g n
unfolding sum_nat
sum_nat-le f g zero h = omega arith
sum_nat-le f g (suc n) h = omega (arith, sum_nat-le f g n (λ i l. h i (omega arith)), h n (omega arith))

-- smaller at one place, and nowhere larger
pub sum_nat-lt : (f g : ℕ → ℕ) (n k : ℕ) → k < n → f k < g k → ((i : ℕ) → i < n → f i ≤ g i) → sum_nat f n < sum_nat g n
unfolding sum_nat
sum_nat-lt f g zero k l s h = absurd (not-suc-le-zero l)
sum_nat-lt f g (suc n) k l s h =
    ⊎_elim
    (λ e. omega (arith, sum_nat-le f g n (λ i j. h i (omega arith)), subst (λ (i : ℕ). f i < g i) e s))
    (λ j. omega (arith, sum_nat-lt f g n k j s (λ i u. h i (omega arith)), h n (omega arith)))
    (eq-or-lt_of_le (le_of_suc-le-suc l))

pub sum_nat-plus : (f g : ℕ → ℕ) (n : ℕ) → sum_nat (λ i. f i + g i) n ≡ sum_nat f n + sum_nat g n
unfolding sum_nat
sum_nat-plus f g zero = refl
sum_nat-plus f g (suc n) = omega (arith, sum_nat-plus f g n)

pub sum_nat-scale : (c : ℕ) (f : ℕ → ℕ) (n : ℕ) → sum_nat (λ i. c * f i) n ≡ c * sum_nat f n
unfolding sum_nat
sum_nat-scale c f zero = omega arith
sum_nat-scale c f (suc n) = omega (arith, sum_nat-scale c f n)

-- each term at most c
pub sum_nat-most : (f : ℕ → ℕ) (c n : ℕ) → ((i : ℕ) → i < n → f i ≤ c) → sum_nat f n ≤ n * c
unfolding sum_nat
sum_nat-most f c zero h = omega arith
sum_nat-most f c (suc n) h = omega (arith, sum_nat-most f c n (λ i l. h i (omega arith)), h n (omega arith))

pub one-most : (b : Bool) → one b ≤ 1
one-most true = omega arith
one-most false = omega arith

-- a test that implies another
pub one-le : (a b : Bool) → (a ≡ true → b ≡ true) → one a ≤ one b
one-le true b h = omega (arith, ap one (h refl))
one-le false b h = omega arith

-- fewer terms
pub sum_nat-part : (f : ℕ → ℕ) (i n : ℕ) → i ≤ n → sum_nat f i ≤ sum_nat f n
unfolding sum_nat
sum_nat-part f i zero h = omega (arith, ap (sum_nat f) (zero_is i h))
  where
    zero_is : (i : ℕ) → i ≤ 0 → i ≡ 0
    zero_is i h = omega arith
sum_nat-part f i (suc n) h = ⊎_elim (λ e. omega (arith, ap (sum_nat f) e)) (λ l. omega (arith, sum_nat-part f i n (le_of_suc-le-suc l))) (eq-or-lt_of_le h)

-- a count of 0: none passes
pub count_none : (p : ℕ → Bool) (n : ℕ) → sum_nat (λ i. one (p i)) n ≡ 0 → (i : ℕ) → i < n → p i ≡ false
unfolding sum_nat
count_none p zero e i l = absurd (not-suc-le-zero l)
count_none p (suc n) e i l =
    ⊎_elim (λ q. ap p q ∙ off (p n) (omega arith)) (λ u. count_none p n (omega arith) i u) (eq-or-lt_of_le (le_of_suc-le-suc l))
  where
    off : (b : Bool) → one b ≡ 0 → b ≡ false
    off true e = let z : ◌≡◌ {A = ℕ} 1 0 = e in absurd (omega arith)
    off false e = refl

-- a term is within the sum
pub sum_nat-term : (f : ℕ → ℕ) (i n : ℕ) → i < n → f i ≤ sum_nat f n
sum_nat-term f i n l = omega (arith, sum_nat-next f i, sum_nat-part f (i + 1) n (omega arith))

-- a count below n: some does not pass
pub count-some : (p : ℕ → Bool) (n : ℕ) → sum_nat (λ i. one (p i)) n < n → (i : ℕ) × (i < n) × (p i ≡ false)
unfolding sum_nat
count-some p zero h = absurd (not-suc-le-zero h)
count-some p (suc n) h = go (p n) refl (λ l. count-some p n l)
  where
    go : (b : Bool) → p n ≡ b → (sum_nat (λ i. one (p i)) n < n → (i : ℕ) × (i < n) × (p i ≡ false)) → (i : ℕ) × (i < suc n) × (p i ≡ false)
    go true e f = let r = f (omega (arith, ap one e)) in (r.0, omega (arith, r.1), r.2)
    go false e f = (n, omega arith, e)
