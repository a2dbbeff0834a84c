-- A floor moved from key to key, and the keys above it counted. Assumes nothing.
use Rattle.std.proofs.Common.{◌≡◌, ℕ, zero, suc, ◌+◌, ◌-◌, ◌*◌, ◌<◌, ◌≤◌, min, Bool, true, false, ltb, ◌⊎◌, List, get_or, sym, refl, ap, ◌∙◌, ap₂, inl, inr, ⊎_elim, le_of_suc-le-suc, not-suc-le-zero, eq-or-lt_of_le, add-one, arith, ltb-false, ltb-true, le-ltb, lt-ltb, le-leb}
use native.Mathlib.Decide.{dec_lt}
use borrow.Author.Tests.{lt-leb}
use Rattle.ints.specs.Sum.{sum_nat, one, count}
use Rattle.ints.proofs.Bools.{either, same}
use Rattle.ints.proofs.Counts.{sum_nat-ext, sum_nat-le, sum_nat-lt, sum_nat-most, one-most, one-le, count-some}
use Rattle.split_units.specs.Inside.{keys_above, back, distance, least, Keys, Counted, Floor}
use Rattle.split_units.specs.declared.Level.{Level}

-- ---- the least of n numbers, and where it is

pub least-none : (f : ℕ → ℕ) → 18446744073709551615 ≡ least f 0
unfolding least
least-none f = refl

least-next : (f : ℕ → ℕ) (n : ℕ) → min (least f n) (f n) ≡ least f (n + 1)
unfolding least
least-next f n = ap (least f) (sym (add-one n))

least-le : (f : ℕ → ℕ) (n i : ℕ) → i < n → least f n ≤ f i
unfolding least
least-le f zero i l = absurd (not-suc-le-zero l)
least-le f (suc n) i l = ⊎_elim (λ e. omega (arith, ap f e)) (λ u. omega (arith, least-le f n i u)) (eq-or-lt_of_le (le_of_suc-le-suc l))

least_at : (f : ℕ → ℕ) (n : ℕ) → least f n < 18446744073709551615 → (i : ℕ) × (i < n) × (f i ≡ least f n)
unfolding least
least_at f zero h = absurd (omega arith)
least_at f (suc n) h =
    ⊎_elim
    (λ e. (n, omega arith, omega (arith, ltb-true (f n) (least f n) e)))
    (λ e. let r = least_at f n (omega (arith, ltb-false (f n) (least f n) e)) in (r.0, omega (arith, r.1), omega (arith, r.2, ltb-false (f n) (least f n) e)))
    (either (ltb (f n) (least f n)))

-- four numbers more, each with a least of its own
crossed : (a b c d : ℕ) → min (min a b) (min c d) ≡ min (min a c) (min b d)
crossed a b c d = omega arith

pub least-four : (f : ℕ → ℕ) (n a b c d : ℕ) → min (min a b) (min c d) ≡ least f n → min (min (min a (f n)) (min b (f (n + 1)))) (min (min c (f (n + 2))) (min d (f (n + 3)))) ≡ least f (n + 4)
least-four f n a b c d e =
    ap₂ min (crossed a (f n) b (f (n + 1))) (crossed c (f (n + 2)) d (f (n + 3)))
    ∙ crossed (min a b) (min (f n) (f (n + 1))) (min c d) (min (f (n + 2)) (f (n + 3)))
    ∙ ap (λ (x : ℕ). min x (min (min (f n) (f (n + 1))) (min (f (n + 2)) (f (n + 3))))) e
    ∙ joined (least f n) (f n) (f (n + 1)) (f (n + 2)) (f (n + 3))
    ∙ ap (λ (x : ℕ). min (min (min x (f (n + 1))) (f (n + 2))) (f (n + 3))) (least-next f n)
    ∙ ap (λ (x : ℕ). min (min x (f (n + 2))) (f (n + 3))) (least-next f (n + 1) ∙ ap (least f) (omega arith))
    ∙ ap (λ (x : ℕ). min x (f (n + 3))) (least-next f (n + 2) ∙ ap (least f) (omega arith))
    ∙ least-next f (n + 3)
    ∙ ap (least f) (omega arith)
  where
    grouped : (x y z : ℕ) → min x (min y z) ≡ min (min x y) z
    grouped x y z = omega arith

    joined : (x a b c d : ℕ) → min x (min (min a b) (min c d)) ≡ min (min (min (min x a) b) c) d
    joined x a b c d = grouped x (min a b) (min c d) ∙ grouped (min x (min a b)) c d ∙ ap (λ (y : ℕ). min (min y c) d) (grouped x a b)

-- ---- distances

-- what is back from a, and what isn't
pub back_is : (a b : ℕ) → b ≤ a → back a b ≡ a - b
back_is a b h = simp (le-leb b a h)

pub back-not : (a b : ℕ) → a < b → back a b ≡ 18446744073709551616 + a - b
back-not a b h = simp (lt-leb b a h)

-- ---- counts

-- some of n pass
count-any : (p : ℕ → Bool) (n : ℕ) → 0 < count p n → (i : ℕ) × (i < n) × (p i ≡ true)
unfolding sum_nat
count-any p zero h = absurd (not-suc-le-zero h)
count-any p (suc n) h = go (p n) refl (λ l. count-any p n l)
  where
    go : (b : Bool) → p n ≡ b → (0 < count p n → (i : ℕ) × (i < n) × (p i ≡ true)) → (i : ℕ) × (i < suc n) × (p i ≡ true)
    go false e f = let r = f (omega (arith, ap one e)) in (r.0, omega (arith, r.1), r.2)
    go true e f = (n, omega arith, e)

-- one more at one place, and the same everywhere else
sum_nat-one : (f g : ℕ → ℕ) (n m : ℕ) → m < n → f m ≡ g m + 1 → ((i : ℕ) → i < n → (i ≡ m → ⊥) → f i ≡ g i) → sum_nat f n ≡ sum_nat g n + 1
unfolding sum_nat
sum_nat-one f g zero m l e h = absurd (not-suc-le-zero l)
sum_nat-one f g (suc n) m l e h =
    ⊎_elim
    (λ q. omega (arith, sum_nat-ext f g n (λ i u. h i (omega arith) (λ z. omega arith)), ap f q, ap g q))
    (λ u. omega (arith, sum_nat-one f g n m u e (λ i v. h i (omega arith)), h n (omega arith) (λ z. omega arith)))
    (eq-or-lt_of_le (le_of_suc-le-suc l))

module _ (keys : List ℕ) (n : ℕ) where
  abbrev key : ℕ → ℕ
  key j = get_or keys j 0

  abbrev above : ℕ → ℕ
  above k = keys_above keys n k

  pub counted-most : (at : Level) → Counted keys n at → at.count ≤ n
  counted-most at c = omega (arith, c.is, sum_nat-most (λ j. one (ltb at.floor (key j))) 1 n (λ j _. one-most (ltb at.floor (key j))))

  -- above a higher floor are no more keys
  fewer : (k m : ℕ) → k ≤ m → above m ≤ above k
  fewer k m h = sum_nat-le (λ j. one (ltb m (key j))) (λ j. one (ltb k (key j))) n (λ j _. one-le (ltb m (key j)) (ltb k (key j)) (λ e. lt-ltb k (key j) (omega (arith, ltb-true m (key j) e))))

  -- so that of two floors the one with more keys above it is the lower
  pub lower : (low high : Level) → Counted keys n low → Counted keys n high → high.count < low.count → low.floor < high.floor
  lower low high l h more = ⊎_elim (λ t. ltb-true low.floor high.floor t) (λ f. absurd (no (fewer high.floor low.floor (ltb-false low.floor high.floor f)))) (either (ltb low.floor high.floor))
    where
      no : above low.floor ≤ above high.floor → ⊥
      no p = omega (arith, l.is, h.is)

  -- and above a key fewer than above what is below it
  fewer-one : (k i : ℕ) → i < n → k < key i → above (key i) < above k
  fewer-one k i l h =
      sum_nat-lt (λ j. one (ltb (key i) (key j))) (λ j. one (ltb k (key j))) n i l
      (omega (arith, ap one (le-ltb (key i) (key i) (omega arith)), ap one (lt-ltb k (key i) h)))
      (λ j _. one-le (ltb (key i) (key j)) (ltb k (key j)) (λ e. lt-ltb k (key j) (omega (arith, ltb-true (key i) (key j) e))))

  -- as many keys above the floor as units: these are the keys above which there are fewer
  pub floor-found : (units : ℕ) (at : Level) → Counted keys n at → at.count ≡ units → Floor keys n units at.floor
  floor-found units at c e = record {
    low = c.low;
    each = λ i l. ⊎_elim
        (λ t. t ∙ sym (lt-ltb (above (key i)) units (omega (arith, c.is, e, fewer-one at.floor i l (ltb-true at.floor (key i) t)))))
        (λ f. f ∙ sym (le-ltb (above (key i)) units (omega (arith, c.is, e, fewer (key i) at.floor (ltb-false at.floor (key i) f)))))
        (either (ltb at.floor (key i)));
  }

  -- of all keys only key m is above x and not above y
  between-one : (x y m : ℕ) → m < n → x < key m → key m ≤ y → ((j : ℕ) → j < n → x < key j → key j ≤ y → j ≡ m) → above x ≡ above y + 1
  between-one x y m l h g only =
      sum_nat-one (λ j. one (ltb x (key j))) (λ j. one (ltb y (key j))) n m l
      (omega (arith, ap one (lt-ltb x (key m) h), ap one (le-ltb y (key m) g)))
      (λ j u d. ap one (same (ltb x (key j)) (ltb y (key j)) (λ e. into j u d e (either (ltb y (key j)))) (λ e. lt-ltb x (key j) (omega (arith, ltb-true y (key j) e)))))
    where
      into : (j : ℕ) → j < n → (j ≡ m → ⊥) → ltb x (key j) ≡ true → (ltb y (key j) ≡ true) ⊎ (ltb y (key j) ≡ false) → ltb y (key j) ≡ true
      into j u d e (inl t) = t
      into j u d e (inr f) = absurd (d (only j u (ltb-true x (key j) e) (ltb-false y (key j) f)))

  -- ---- the ends: no key is above the highest floor, and all are above 0
  module _ (k : Keys keys n) where
    pub top : Counted keys n (record { floor = 17592186044415; count = 0 })
    top = record { low = omega arith; is = none (sum_nat-most (λ j. one (ltb 17592186044415 (key j))) 0 n (λ j l. omega (arith, ap one (le-ltb 17592186044415 (key j) (omega (arith, k.high j l)))))) }
      where
        none : above 17592186044415 ≤ n * 0 → 0 ≡ above 17592186044415
        none h = omega arith

    pub bottom : Counted keys n (record { floor = 0; count = n })
    unfolding sum_nat
    bottom = record { low = omega arith; is = all n ∙ sum_nat-ext (λ _. 1) (λ j. one (ltb 0 (key j))) n (λ j l. sym (ap one (lt-ltb 0 (key j) (k.low j l)))) }
      where
        all : (m : ℕ) → m ≡ sum_nat (λ _. 1) m
        all zero = refl
        all (suc m) = omega (arith, all m)

  module _ (k : Keys keys n) (floor m : ℕ) (all : n ≤ m) where
    -- a key that isn't 0 is one of the n
    inside : (i : ℕ) → 0 < key i → i < n
    inside i h = by (dec_lt i n)
      where
        by : Dec (i < n) → i < n
        by (yes l) = l
        by (no l) = absurd (omega (arith, k.rest i (omega arith)))

    -- ---- the floor raised to the smallest key above it
    module _ (some : 0 < above floor) where
      abbrev over : ℕ
      over = least (λ j. distance true floor (key j)) m

      any : (j : ℕ) × (j < n) × (floor < key j)
      any = let a = count-any (λ j. ltb floor (key j)) n some in (a.0, a.1, ltb-true floor (key a.0) a.2)

      over-most : floor + 1 + over < 17592186044416
      over-most = omega (arith, least-le (λ j. distance true floor (key j)) m any.0 (omega (arith, any.1)), back_is (key any.0) (floor + 1) (omega (arith, any.2)), any.2, k.high any.0 any.1)

      raises : above floor ≡ above (floor + 1 + over) + 1
      raises =
          let i = least_at (λ j. distance true floor (key j)) m (omega (arith, over-most)) in
          let is = ⊎_elim (λ t. hit i.0 i.2 (ltb-true floor (key i.0) t)) (λ f. absurd (miss i.0 i.2 (ltb-false floor (key i.0) f))) (either (ltb floor (key i.0))) in
          let l = inside i.0 (omega (arith, is)) in
          between-one floor (floor + 1 + over) i.0 l (omega (arith, is)) (omega (arith, is))
          (λ j u h g. k.apart j i.0 u l (omega (arith, is, least-le (λ j. distance true floor (key j)) m j (omega arith), back_is (key j) (floor + 1) (omega arith))))
        where
          hit : (i : ℕ) → back (key i) (floor + 1) ≡ over → floor < key i → key i ≡ floor + 1 + over
          hit i e h = omega (arith, back_is (key i) (floor + 1) (omega arith))

          miss : (i : ℕ) → back (key i) (floor + 1) ≡ over → key i ≤ floor → ⊥
          miss i e h = omega (arith, back-not (key i) (floor + 1) (omega arith), over-most)

    -- ---- the floor lowered past the largest key that is not above it
    module _ (some : above floor < n) (fits : floor < 17592186044416) where
      abbrev under : ℕ
      under = least (λ j. distance false floor (key j)) m

      other : (j : ℕ) × (j < n) × (key j ≤ floor)
      other = let a = count-some (λ j. ltb floor (key j)) n some in (a.0, a.1, ltb-false floor (key a.0) a.2)

      under-most : under < floor
      under-most = omega (arith, least-le (λ j. distance false floor (key j)) m other.0 (omega (arith, other.1)), back_is floor (key other.0) other.2, other.2, k.low other.0 other.1)

      lowers : above (floor - under - 1) ≡ above floor + 1
      lowers =
          let i = least_at (λ j. distance false floor (key j)) m (omega (arith, under-most)) in
          let is = ⊎_elim (λ t. absurd (miss i.0 i.2 (ltb-true floor (key i.0) t))) (λ f. hit i.0 i.2 (ltb-false floor (key i.0) f)) (either (ltb floor (key i.0))) in
          let l = inside i.0 (omega (arith, is, under-most)) in
          between-one (floor - under - 1) floor i.0 l (omega (arith, is, under-most)) (omega (arith, is))
          (λ j u h g. k.apart j i.0 u l (omega (arith, is, under-most, least-le (λ j. distance false floor (key j)) m j (omega arith), back_is floor (key j) g)))
        where
          hit : (i : ℕ) → back floor (key i) ≡ under → key i ≤ floor → key i ≡ floor - under
          hit i e h = omega (arith, back_is floor (key i) h)

          miss : (i : ℕ) → back floor (key i) ≡ under → floor < key i → ⊥
          miss i e h = omega (arith, back-not floor (key i) h, under-most, k.high i (inside i (omega arith)))

  -- ---- a level moved by the least distance of m keys
  module _ (k : Keys keys n) (at : Level) (c : Counted keys n at) (m : ℕ) (all : n ≤ m) (up : Bool) (step : ℕ) (found : step ≡ least (λ j. distance up at.floor (key j)) m) where
    found-is : (b : Bool) → up ≡ b → step ≡ least (λ j. distance b at.floor (key j)) m
    found-is b e = found ∙ ap (λ (u : Bool). least (λ j. distance u at.floor (key j)) m) e

    module _ (e : up ≡ true) (some : 0 < at.count) where
      some-above : 0 < above at.floor
      some-above = omega (arith, c.is)

      pub raised-low : at.floor + 1 + step < 17592186044416
      raised-low = omega (arith, found-is true e, over-most k at.floor m all some-above)

      pub raised : Counted keys n (record { floor = at.floor + 1 + step; count = at.count - 1 })
      raised = record { low = raised-low; is = omega (arith, c.is, raises k at.floor m all some-above) ∙ ap (λ (s : ℕ). above (at.floor + 1 + s)) (sym (found-is true e)) }

    module _ (e : up ≡ false) (some : at.count < n) where
      some-under : above at.floor < n
      some-under = omega (arith, c.is)

      pub lowered-low : step < at.floor
      lowered-low = omega (arith, found-is false e, under-most k at.floor m all some-under c.low)

      pub lowered : Counted keys n (record { floor = at.floor - step - 1; count = at.count + 1 })
      lowered = record { low = omega (arith, c.low); is = omega (arith, c.is, lowers k at.floor m all some-under c.low) ∙ ap (λ (s : ℕ). above (at.floor - s - 1)) (sym (found-is false e)) }
