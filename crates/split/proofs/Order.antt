-- The order of parties by remainder: places in it are 0 .. n - 1, each once. Assumes nothing.
use mathlib.Core.Path.{◌≡◌, sym, ap, ap₂, ◌∙◌}
use mathlib.Core.Logic.{◌⊎◌, inl, inr, ⊎_elim}
use mathlib.Core.Bool.{Bool, true, false, ◌||◌, ◌&&◌}
use Prim.Native.Nat.{ℕ, zero, suc, ◌+◌, ◌-◌, ◌≤◌, ◌<◌}
use native.Mathlib.Omega.{arith}
use lib.Dec.{ltb, eqb}
use borrow.Author.Tests.{lt-ltb, eq-eqb, ltb-true, ltb-false, eqb-true}
use Rattle.ints.specs.Sum.{one, count}
use Rattle.ints.proofs.Bools.{either, not-both, same, or-true, or_right, and-true}
use Rattle.ints.proofs.Counts.{sum_nat-zero, sum_nat-suc, sum_nat-ext, sum_nat-le, sum_nat-lt, sum_nat-most, one-most, one-le}
use Rattle.split.specs.Split.{before, place}

-- what `before` says of the numbers
abbrev pub Before : (ℕ → ℕ) → ℕ → ℕ → Type 0
Before r j i = (r i < r j) ⊎ ((r j ≡ r i) × (j < i))

pub before-says : (r : ℕ → ℕ) (j i : ℕ) → before r j i ≡ true → Before r j i
unfolding before
before-says r j i e =
    ⊎_elim
    (λ h. inl (ltb-true (r i) (r j) h))
    (λ h. let b = and-true (eqb (r j) (r i)) (ltb j i) h in inr (eqb-true (r j) (r i) b.0, ltb-true j i b.1))
    (or-true (ltb (r i) (r j)) (eqb (r j) (r i) && ltb j i) e)

pub says-before : (r : ℕ → ℕ) (j i : ℕ) → Before r j i → before r j i ≡ true
unfolding before
says-before r j i (inl h) = ap (λ (b : Bool). b || (eqb (r j) (r i) && ltb j i)) (lt-ltb (r i) (r j) h)
says-before r j i (inr h) = or_right (ltb (r i) (r j)) _ (ap₂ ◌&&◌ (eq-eqb (r j) (r i) h.0) (lt-ltb j i h.1))

-- ---- a strict order in which of two parties one comes before the other

before-irr : (r : ℕ → ℕ) (i : ℕ) → before r i i ≡ false
before-irr r i = ⊎_elim (λ e. absurd (⊎_elim (λ h. no h) (λ h. no h.1) (before-says r i i e))) (λ e. e) (either (before r i i))
  where
    no : {x : ℕ} → x < x → ⊥
    no h = omega arith

before-trans : (r : ℕ → ℕ) (k j i : ℕ) → before r k j ≡ true → before r j i ≡ true → before r k i ≡ true
before-trans r k j i e f = says-before r k i (go (before-says r k j e) (before-says r j i f))
  where
    go : Before r k j → Before r j i → Before r k i
    go (inl h) (inl g) = inl (omega arith)
    go (inl h) (inr g) = inl (omega arith)
    go (inr h) (inl g) = inl (omega arith)
    go (inr h) (inr g) = inr (omega arith, omega arith)

-- party j, the earlier, comes before party i unless i has the larger remainder
before-or : (r : ℕ → ℕ) (j i : ℕ) → j < i → before r i j ≡ false → before r j i ≡ true
before-or r j i l e =
    ⊎_elim
    (λ g. absurd (not-both (sym (says-before r i j (inl (ltb-true (r j) (r i) g))) ∙ e)))
    (λ g. says-before r j i (⊎_elim (λ h. inl (ltb-true (r i) (r j) h)) (λ h. inr (omega (arith, ltb-false (r i) (r j) h, ltb-false (r j) (r i) g), l)) (either (ltb (r i) (r j)))))
    (either (ltb (r j) (r i)))

-- ---- places

place-suc : (r : ℕ → ℕ) (n i : ℕ) → place r (suc n) i ≡ place r n i + one (before r n i)
unfolding place
place-suc r n i = sum_nat-suc (λ j. one (before r j i)) n

place-most : (r : ℕ → ℕ) (n i : ℕ) → place r n i ≤ n
unfolding place
place-most r n i = omega (arith, sum_nat-most (λ j. one (before r j i)) 1 n (λ j _. one-most (before r j i)))

-- whoever comes before another has the lower place
pub place-lt : (r : ℕ → ℕ) (n j i : ℕ) → j < n → before r j i ≡ true → place r n j < place r n i
unfolding place
place-lt r n j i l e =
    sum_nat-lt (λ k. one (before r k j)) (λ k. one (before r k i)) n j l
    (omega (arith, ap one (before-irr r j), ap one e))
    (λ k _. one-le (before r k j) (before r k i) (λ h. before-trans r k j i h e))

place-le : (r : ℕ → ℕ) (n j i : ℕ) → before r j i ≡ true → place r n j ≤ place r n i
unfolding place
place-le r n j i e = sum_nat-le (λ k. one (before r k j)) (λ k. one (before r k i)) n (λ k _. one-le (before r k j) (before r k i) (λ h. before-trans r k j i h e))

same_test : (a b c d : ℕ) → (a < b → c < d) → (c < d → a < b) → one (ltb a b) ≡ one (ltb c d)
same_test a b c d f g = ap one (same (ltb a b) (ltb c d) (λ e. lt-ltb c d (f (ltb-true a b e))) (λ e. lt-ltb a b (g (ltb-true c d e))))

-- one party more, at the end: below its place nothing moves, and above it each place is one more
module _ (r : ℕ → ℕ) (n m : ℕ) where
  low : m ≤ place r n n → (i : ℕ) → i < n → one (ltb (place r (suc n) i) m) ≡ one (ltb (place r n i) m)
  low h i l =
      ⊎_elim
      (λ e. same_test (place r (suc n) i) m (place r n i) m (λ g. omega (arith, place-suc r n i, ap one e)) (λ g. omega (arith, place-suc r n i, ap one e, place-le r n n i e)))
      (λ e. same_test (place r (suc n) i) m (place r n i) m (λ g. omega (arith, place-suc r n i, ap one e)) (λ g. omega (arith, place-suc r n i, ap one e)))
      (either (before r n i))

  high : place r n n < m → (i : ℕ) → i < n → one (ltb (place r (suc n) i) m) ≡ one (ltb (place r n i) (m - 1))
  high h i l =
      ⊎_elim
      (λ e. same_test (place r (suc n) i) m (place r n i) (m - 1) (λ g. omega (arith, place-suc r n i, ap one e)) (λ g. omega (arith, place-suc r n i, ap one e)))
      (λ e. same_test (place r (suc n) i) m (place r n i) (m - 1) (λ g. omega (arith, place-lt r n i n l (before-or r i n l e))) (λ g. omega (arith, place-suc r n i, ap one e)))
      (either (before r n i))

  last : place r (suc n) n ≡ place r n n
  last = omega (arith, place-suc r n n, ap one (before-irr r n))

-- m of n parties have a place below m
pub ranks : (r : ℕ → ℕ) (n m : ℕ) → m ≤ n → count (λ i. ltb (place r n i) m) n ≡ m
ranks r zero m h = omega (arith, sum_nat-zero (λ i. one (ltb (place r 0 i) m)))
ranks r (suc n) m h =
    ⊎_elim
    (λ e. omega (
      arith,
      sum_nat-suc (λ i. one (ltb (place r (suc n) i) m)) n,
      sum_nat-ext (λ i. one (ltb (place r (suc n) i) m)) (λ i. one (ltb (place r n i) (m - 1))) n (high r n m (ltb-true (place r n n) m e)),
      ranks r n (m - 1) (omega arith),
      ap (λ (p : ℕ). one (ltb p m)) (last r n m),
      ap one e,
      ltb-true (place r n n) m e,
    ))
    (λ e. omega (
      arith,
      sum_nat-suc (λ i. one (ltb (place r (suc n) i) m)) n,
      sum_nat-ext (λ i. one (ltb (place r (suc n) i) m)) (λ i. one (ltb (place r n i) m)) n (low r n m (ltb-false (place r n n) m e)),
      ranks r n m (omega (arith, place-most r n n, ltb-false (place r n n) m e)),
      ap (λ (p : ℕ). one (ltb p m)) (last r n m),
      ap one e,
    ))
    (either (ltb (place r n n) m))
