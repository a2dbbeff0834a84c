-- The laws of the parts of a size, from the definition. Assumes nothing.
use mathlib.Core.Path.{◌≡◌, refl, sym, ap, ◌∙◌, subst}
use mathlib.Core.Logic.{inl, ⊎_elim}
use mathlib.Core.Bool.{Bool, true, false}
use mathlib.Core.List.{List}
use Prim.Native.Nat.{ℕ, zero, suc, ◌+◌, ◌*◌, ◌-◌, ◌/◌, ◌%◌, ◌≤◌, ◌<◌}
use native.Mathlib.Nat.{div-add-mod, mod-lt, zero-div, zero-mod, mul-zero, zero-mul, le_of_mul-le-mul_left, mul-le-mul_left, mul-lt-mul_of_pos_left, eq-zero-or-pos, eq-or-lt_of_le, le_of_lt, le-div_iff_mul-le, div-mul-le_self}
use native.Mathlib.Omega.{arith}
use lib.Dec.{T, ltb}
use lib.IntN.{ℤ, pos, nat_abs}
use lib.ListN.{length}
use lib.Signed.{non_neg}
use mir.Syntax.{w64}
use mir.Val.{Fits}
use borrow.Author.Tests.{lt-ltb, le-ltb, ltb-true}
use Rattle.ints.specs.Number.{below0, signed}
use Rattle.ints.specs.Sum.{sum_nat, one, count}
use Rattle.ints.proofs.Counts.{sum_nat-ext, sum_nat-le, sum_nat-plus, sum_nat-scale, sum_nat-most, sum_nat-part, one-most, one-le}
use Rattle.ints.proofs.Tables.{length-tab}
use Rattle.split.specs.Inside.{Shares}
use Rattle.split.specs.Split.{share, total, cut_down, remainder, units_left, before, place, has_unit, part, parts}
use Rattle.split.proofs.Order.{ranks, says-before, place-lt}

div_mono : (m n k : ℕ) → 0 < k → m ≤ n → m / k ≤ n / k
div_mono m n k p h = (le-div_iff_mul-le p).1 (omega (arith, div-mul-le_self m k))

-- t is cancelled from t * a, where a is q and d
cancelled : (t q d r a : ℕ) → a ≡ q + d → t * a ≡ t * q + r → t * d ≡ r
cancelled t q d r a e f = omega (arith, sym (ap (λ (x : ℕ). t * x) e) ∙ f)

-- as many parties come before one that has no remainder as have one
behind : (r : ℕ → ℕ) (n i : ℕ) → r i ≡ 0 → count (λ j. ltb 0 (r j)) n ≤ place r n i
unfolding place
behind r n i e =
    sum_nat-le (λ j. one (ltb 0 (r j))) (λ j. one (before r j i)) n
    (λ j _. one-le (ltb 0 (r j)) (before r j i) (λ g. says-before r j i (inl (omega (arith, ltb-true 0 (r j) g)))))

module _ (size : ℕ) (shares : List ℤ) where
  abbrev n : ℕ
  n = length shares

  abbrev t : ℕ
  t = total shares

  abbrev q : ℕ → ℕ
  q = cut_down size shares

  abbrev r : ℕ → ℕ
  r = remainder size shares

  abbrev left : ℕ
  left = units_left size shares

  -- a product by its quotient and remainder
  pub whole : (i : ℕ) → size * share shares i ≡ t * q i + r i
  unfolding cut_down remainder
  whole i = sym (div-add-mod (size * share shares i) t)

  -- the same of the sums
  sums : t * size ≡ t * sum_nat q n + sum_nat r n
  unfolding total
  sums =
      omega (
        arith,
        sum_nat-scale size (share shares) n,
        sum_nat-ext (λ i. size * share shares i) (λ i. t * q i + r i) n (λ i _. whole i),
        sum_nat-plus (λ i. t * q i) r n,
        sum_nat-scale t q n,
      )

  pub part-is : (i : ℕ) → part size shares i ≡ q i + one (has_unit size shares i)
  unfolding part
  part-is i = refl

  -- of a share of 0 nothing is cut down, and there is no remainder
  no-product : (i : ℕ) → share shares i ≡ 0 → size * share shares i ≡ 0
  no-product i e = ap (λ (x : ℕ). size * x) e ∙ mul-zero size

  pub zero-cut : (i : ℕ) → share shares i ≡ 0 → q i ≡ 0
  unfolding cut_down
  zero-cut i e = ap (λ (x : ℕ). x / t) (no-product i e) ∙ zero-div t

  pub zero-remainder : (i : ℕ) → share shares i ≡ 0 → r i ≡ 0
  unfolding remainder
  zero-remainder i e = ap (λ (x : ℕ). x % t) (no-product i e) ∙ zero-mod t

  module _ (some : 0 < t) where
    pub small : (i : ℕ) → r i < t
    unfolding remainder
    small i = mod-lt (size * share shares i) some

    -- what is cut down adds up to the size at most, and the rest of the size is what is left
    pub cut_sum : sum_nat q n ≤ size
    cut_sum = le_of_mul-le-mul_left {m = sum_nat q n} {n = size} {k = t} (omega (arith, sums)) some

    pub left_is : size ≡ sum_nat q n + left
    unfolding units_left
    left_is = omega (arith, cut_sum)

    -- no more units are left than parties have a remainder: the remainders total as many times the total as units are left
    left-few : left ≤ count (λ i. ltb 0 (r i)) n
    left-few =
        le_of_mul-le-mul_left {m = left} {n = count (λ i. ltb 0 (r i)) n} {k = t}
        (omega (
          arith,
          cancelled t (sum_nat q n) left (sum_nat r n) size left_is sums,
          sum_nat-scale t (λ i. one (ltb 0 (r i))) n,
          sum_nat-le r (λ i. t * one (ltb 0 (r i))) n (λ i _. at (r i) (small i)),
        ))
        some
      where
        at : (x : ℕ) → x < t → x ≤ t * one (ltb 0 x)
        at zero l = omega arith
        at (suc x) l = subst (λ (b : Bool). suc x ≤ t * one b) (sym (lt-ltb 0 (suc x) (omega arith))) (omega arith)

    pub left-most : left ≤ n
    left-most = omega (arith, left-few, sum_nat-most (λ i. one (ltb 0 (r i))) 1 n (λ i _. one-most (ltb 0 (r i))))

    -- ---- the parts total the size
    pub part-sum : sum_nat (part size shares) n ≡ size
    part-sum =
        omega (
          arith,
          sum_nat-ext (part size shares) (λ i. q i + one (has_unit size shares i)) n (λ i _. part-is i),
          sum_nat-plus q (λ i. one (has_unit size shares i)) n,
          ranks r n left left-most,
          left_is,
        )

    -- ---- a zero share gets zero: without a remainder there is no unit
    pub no-remainder : (i : ℕ) → r i ≡ 0 → has_unit size shares i ≡ false
    no-remainder i e = le-ltb (place r n i) left (omega (arith, left-few, behind r n i e))

    pub zero-part : (i : ℕ) → share shares i ≡ 0 → part size shares i ≡ 0
    zero-part i e = omega (arith, part-is i, zero-cut i e, ap one (no-remainder i (zero-remainder i e)))

    -- ---- of two parties the larger share never gets the smaller part
    cut-le : (i j : ℕ) → share shares j ≤ share shares i → q j ≤ q i
    unfolding cut_down
    cut-le i j h = div_mono (size * share shares j) (size * share shares i) t some (mul-le-mul_left size h)

    ordered : (i j : ℕ) → share shares j < share shares i → q j ≡ q i → 0 < size → r j < r i
    ordered i j h e p = omega (arith, whole i, whole j, ap (λ (x : ℕ). t * x) e, mul-lt-mul_of_pos_left h p)

    -- whoever comes before a party with a unit has one
    pub unit-before : (i j : ℕ) → i < n → before r i j ≡ true → has_unit size shares j ≡ true → has_unit size shares i ≡ true
    unit-before i j l b e = lt-ltb (place r n i) left (omega (arith, place-lt r n i j l b, ltb-true (place r n j) left e))

    pub larger-part : (i j : ℕ) → i < n → share shares j < share shares i → part size shares j ≤ part size shares i
    larger-part i j l h =
        ⊎_elim
        (λ e. ⊎_elim
        (λ z. omega (arith, part-is i, part-is j, ap one (le-ltb (place r n j) left (omega (arith, left_is)))))
        (λ p. omega (
          arith,
          part-is i,
          part-is j,
          one-le (has_unit size shares j) (has_unit size shares i) (unit-before i j l (says-before r i j (inl (ordered i j h e p)))),
        ))
        (eq-zero-or-pos size))
        (λ g. omega (arith, part-is i, part-is j, one-most (has_unit size shares j)))
        (eq-or-lt_of_le (cut-le i j (le_of_lt h)))

    -- ---- sizes, for the code
    pub cut-front : (i : ℕ) → i ≤ n → sum_nat q i ≤ size
    cut-front i l = omega (arith, sum_nat-part q i n l, cut_sum)

-- a number from 0 to 4,000,000,000 can be cast to 64 bits without a sign
pub natural-cast : (z : ℤ) (n : ℕ) → z ≡ pos n → n ≤ 4000000000 → T (non_neg z) × Fits w64 (nat_abs z)
natural-cast z n e h = subst (λ (z : ℤ). T (non_neg z) × Fits w64 (nat_abs z)) (sym e) (tt, record { fits = omega arith })

-- at most 64 shares of at most 4,000,000,000
pub total-most : (shares : List ℤ) → Shares shares → total shares ≤ 256000000000
unfolding total
total-most shares s = omega (arith, sum_nat-most (share shares) 4000000000 (length shares) (λ i _. s.most i), s.few)

pub length-parts : (amount : ℤ) (shares : List ℤ) → length (parts amount shares) ≡ length shares
unfolding parts
length-parts amount shares = length-tab (λ i. signed (below0 amount) (part (nat_abs amount) shares i)) (length shares)

-- no size, no part, also where the shares total 0
pub no_size : (shares : List ℤ) (i : ℕ) → part 0 shares i ≡ 0
unfolding part cut_down units_left
no_size shares i =
    omega (
      arith,
      ap (λ (x : ℕ). x / total shares) (zero-mul (share shares i)) ∙ zero-div (total shares),
      ap one (le-ltb (place (remainder 0 shares) (length shares) i) (0 - sum_nat (cut_down 0 shares) (length shares)) (omega arith)),
    )
