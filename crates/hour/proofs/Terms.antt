-- The pieces of the theorem: identities of ℤ, what one element of a list counts over the hour, and how the tariff's terms are sums over a list. Assumes nothing.
use mathlib.Core.Path.{◌≡◌, refl, sym, ap, ◌∙◌, subst}
use mathlib.Core.Logic.{⊎_elim}
use mathlib.Core.Bool.{Bool, true, false, ◌&&◌}
use mathlib.Core.List.{List}
use Prim.Native.Nat.{ℕ, zero, suc, ◌<◌}
use native.Mathlib.Omega.{arith}
use lib.Dec.{eqb}
use lib.IntN.{ℤ, pos, negsuc, neg_ℤ, ◌+ℤ◌, ◌-ℤ◌, ◌*ℤ◌, +ℤ_idl, +ℤ_idr, +ℤ_comm, neg_ℤ-+ℤ, neg_ℤ-neg_ℤ}
use Rattle.ints.specs.Each.{Every}
use Rattle.ints.specs.Refusal.{pick}
use Rattle.ints.specs.Sum.{Σℤ, sum_to, only}
use Rattle.ints.proofs.Diff.{◌⊖◌, ⊖-laws, ⊖-eq, ind2, ind3}
use Rattle.ints.proofs.Gather.{Σ-ext-on, Σ-minus, swap, one_place}
use Rattle.ints.proofs.Sums.{Σ-plus, sum_to-ext, sum_to-neg, sum_to-scale, sum_to-nil}
use Rattle.hour.specs.Hour.{day_ahead, real_time}
use Rattle.hour.specs.InsideTested.{Timed}
use Rattle.hour.specs.Charges.{positive, above}

-- ---- identities of ℤ

pub factor : (x y c : ℤ) → x *ℤ c -ℤ y *ℤ c ≡ (x -ℤ y) *ℤ c
factor = ind3 (λ x y c. x *ℤ c -ℤ y *ℤ c ≡ (x -ℤ y) *ℤ c) (λ a b c d e f. simp ⊖-laws (⊖-eq _ _ _ _ (omega arith)))

-- (a - b) - (d - e) by markets
pub by-market : (a b d e : ℤ) → (a -ℤ b) -ℤ (d -ℤ e) ≡ (a -ℤ d) -ℤ (b -ℤ e)
by-market a b d e =
    ind2 (λ a b. (a -ℤ b) -ℤ (d -ℤ e) ≡ (a -ℤ d) -ℤ (b -ℤ e))
    (λ a₁ a₂ b₁ b₂. ind2 (λ d e. (a₁ ⊖ a₂ -ℤ b₁ ⊖ b₂) -ℤ (d -ℤ e) ≡ (a₁ ⊖ a₂ -ℤ d) -ℤ (b₁ ⊖ b₂ -ℤ e)) (λ d₁ d₂ e₁ e₂. simp ⊖-laws (⊖-eq _ _ _ _ (omega arith))) d e) a b

-- n * (s * q) - s * t
pub taken_back : (n s q t : ℤ) → n *ℤ (s *ℤ q) -ℤ s *ℤ t ≡ s *ℤ (n *ℤ q -ℤ t)
taken_back n s q t =
    ind2 (λ n s. n *ℤ (s *ℤ q) -ℤ s *ℤ t ≡ s *ℤ (n *ℤ q -ℤ t))
    (λ a b c d. ind2 (λ q t. a ⊖ b *ℤ (c ⊖ d *ℤ q) -ℤ c ⊖ d *ℤ t ≡ c ⊖ d *ℤ (a ⊖ b *ℤ q -ℤ t)) (λ e f g h. simp ⊖-laws (⊖-eq _ _ _ _ (omega arith))) q t) n s

-- n * (x - y) - (u - v)
pub apart : (n x y u v : ℤ) → n *ℤ (x -ℤ y) -ℤ (u -ℤ v) ≡ (n *ℤ x -ℤ u) -ℤ (n *ℤ y -ℤ v)
apart n x y u v =
    ind3 (λ n x y. n *ℤ (x -ℤ y) -ℤ (u -ℤ v) ≡ (n *ℤ x -ℤ u) -ℤ (n *ℤ y -ℤ v))
    (λ a b c d e f. ind2 (λ u v. a ⊖ b *ℤ (c ⊖ d -ℤ e ⊖ f) -ℤ (u -ℤ v) ≡ (a ⊖ b *ℤ c ⊖ d -ℤ u) -ℤ (a ⊖ b *ℤ e ⊖ f -ℤ v)) (λ g h i j. simp ⊖-laws (⊖-eq _ _ _ _ (omega arith))) u v) n x y

-- the excess less the shortfall is the difference
positive-less : (z : ℤ) → positive z -ℤ positive (neg_ℤ z) ≡ z
positive-less (pos zero) = refl
positive-less (pos (suc n)) = +ℤ_idr (pos (suc n))
positive-less (negsuc n) = +ℤ_idl (negsuc n)

turned : (x y : ℤ) → neg_ℤ (x -ℤ y) ≡ y -ℤ x
turned x y = neg_ℤ-+ℤ x (neg_ℤ y) ∙ ap (λ (z : ℤ). neg_ℤ x +ℤ z) (neg_ℤ-neg_ℤ y) ∙ +ℤ_comm (neg_ℤ x) y

pub above-less : (x y : ℤ) → above x y -ℤ above y x ≡ x -ℤ y
above-less x y = ap (λ (z : ℤ). above x y -ℤ positive z) (sym (turned x y)) ∙ positive-less (x -ℤ y)

-- ---- what one element counts over the hour, by its market m and interval i

-- s is its signed amount, q its day-ahead price and c its real-time prices; b says that it is the participant's
abbrev pub Hour : (b : Bool) (s q : ℤ) (c : ℕ → ℤ) (m i : ℕ) → Type 0
Hour b s q c m i =
    only (b && eqb m day_ahead && eqb i 0) (pos 12 *ℤ (s *ℤ q))
    +ℤ sum_to (λ k. only (b && eqb m real_time && eqb i k) (s *ℤ c k) -ℤ only (b && eqb m day_ahead && eqb i 0) (s *ℤ c k)) 12
    ≡ only b (s *ℤ pick (eqb m day_ahead) (pos 12 *ℤ q -ℤ sum_to c 12) (c i))

module _ (s q : ℤ) (c : ℕ → ℤ) where
  hour-other : (m i : ℕ) → Hour false s q c m i
  hour-other m i = +ℤ_idl (sum_to (λ k. pos 0) 12) ∙ sum_to-nil 12

  hour-ahead : Hour true s q c 0 0
  hour-ahead =
      ap (λ (z : ℤ). pos 12 *ℤ (s *ℤ q) +ℤ z)
      (sum_to-ext (λ k. pos 0 -ℤ s *ℤ c k) (λ k. neg_ℤ (s *ℤ c k)) 12 (λ k _. +ℤ_idl (neg_ℤ (s *ℤ c k)))
      ∙ sum_to-neg (λ k. s *ℤ c k) 12 ∙ ap neg_ℤ (sum_to-scale s c 12))
      ∙ taken_back (pos 12) s q (sum_to c 12)

  hour-real : (i : ℕ) → i < 12 → Hour true s q c 1 i
  hour-real i h =
      +ℤ_idl (sum_to (λ k. only (eqb i k) (s *ℤ c k) -ℤ pos 0) 12)
      ∙ sum_to-ext (λ k. only (eqb i k) (s *ℤ c k) -ℤ pos 0) (λ k. only (true && eqb i k) (s *ℤ c k)) 12 (λ k _. +ℤ_idr (only (eqb i k) (s *ℤ c k)))
      ∙ one_place true i 12 (λ k. s *ℤ c k) h

  pub hour : (b : Bool) (m i : ℕ) → Timed m i → Hour b s q c m i
  hour false m i t = hour-other m i
  hour true m i t =
      ⊎_elim
      (λ h. subst (λ (m : ℕ). Hour true s q c m i) (sym h.0) (subst (λ (i : ℕ). Hour true s q c 0 i) (sym h.1) hour-ahead))
      (λ h. subst (λ (m : ℕ). Hour true s q c m i) (sym h.0) (hour-real i h.1)) t

-- ---- the same over a list

module _ {A : Type 0} (own : A → Bool) (market interval : A → ℕ) (s q : A → ℤ) (c : ℕ → A → ℤ) where
  -- an element's term in day-ahead, in real time in interval k, and taken back in interval k
  abbrev pub day : A → ℤ
  day x = only (own x && eqb (market x) day_ahead && eqb (interval x) 0) (pos 12 *ℤ (s x *ℤ q x))

  abbrev pub real : ℕ → A → ℤ
  real k x = only (own x && eqb (market x) real_time && eqb (interval x) k) (s x *ℤ c k x)

  abbrev pub back : ℕ → A → ℤ
  back k x = only (own x && eqb (market x) day_ahead && eqb (interval x) 0) (s x *ℤ c k x)

  -- its amount times its weight
  abbrev pub whole : A → ℤ
  whole x = only (own x) (s x *ℤ pick (eqb (market x) day_ahead) (pos 12 *ℤ q x -ℤ sum_to (λ k. c k x) 12) (c (interval x) x))

  pub hours : {Q : A → Type 0} → ((x : A) → Q x → Timed (market x) (interval x)) → (xs : List A) → Every Q xs
      → Σℤ day xs +ℤ sum_to (λ k. Σℤ (real k) xs -ℤ Σℤ (back k) xs) 12 ≡ Σℤ whole xs
  hours timed xs e =
      ap (λ (z : ℤ). Σℤ day xs +ℤ z)
      (sum_to-ext (λ k. Σℤ (real k) xs -ℤ Σℤ (back k) xs) (λ k. Σℤ (λ x. real k x -ℤ back k x) xs) 12 (λ k _. sym (Σ-minus (real k) (back k) xs))
      ∙ swap (λ k x. real k x -ℤ back k x) 12 xs)
      ∙ sym (Σ-plus day (λ x. sum_to (λ k. real k x -ℤ back k x) 12) xs)
      ∙ Σ-ext-on (λ x. day x +ℤ sum_to (λ k. real k x -ℤ back k x) 12) whole
      (λ x h. hour (s x) (q x) (λ k. c k x) (own x) (market x) (interval x) (timed x h)) xs e
