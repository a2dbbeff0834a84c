-- The charge of two lists of positions and transactions, one after the other, is that of the one and that of the other, whatever stands in them. Assumes nothing.
use mathlib.Core.Path.{◌≡◌, sym, ap, ap₂, ◌∙◌}
use mathlib.Core.List.{List, ◌++◌}
use Prim.Native.Nat.{ℕ}
use native.Mathlib.Omega.{arith}
use lib.IntN.{ℤ, pos, ◌+ℤ◌, ◌-ℤ◌, ◌*ℤ◌}
use Rattle.ints.specs.Sum.{sum_to}
use Rattle.ints.proofs.Diff.{◌⊖◌, ⊖-laws, ⊖-eq, ind2, ind3}
use Rattle.ints.proofs.Sums.{Σ-append, sum_to-ext, sum_to-plus, shuffle}
use Rattle.hour.specs.Hour.{day_ahead, real_time, Prices, Position}
use Rattle.hour.specs.Charges.{P, C, A, B, D, E, withdrawn, injected, carried, ahead_at, real_at, ahead_path, real_path, position_charge, path_charge, charge}
use Rattle.hour.specs.declared.Transaction.{Transaction}
use Rattle.hour.proofs.Forms.{ahead-form, real-form, path-form}

-- ---- identities of ℤ

differ : (a b c d : ℤ) → (a +ℤ b) -ℤ (c +ℤ d) ≡ (a -ℤ c) +ℤ (b -ℤ d)
differ a b c d =
    ind2 (λ a b. (a +ℤ b) -ℤ (c +ℤ d) ≡ (a -ℤ c) +ℤ (b -ℤ d))
    (λ a₁ a₂ b₁ b₂. ind2 (λ c d. (a₁ ⊖ a₂ +ℤ b₁ ⊖ b₂) -ℤ (c +ℤ d) ≡ (a₁ ⊖ a₂ -ℤ c) +ℤ (b₁ ⊖ b₂ -ℤ d)) (λ c₁ c₂ d₁ d₂. simp ⊖-laws (⊖-eq _ _ _ _ (omega arith))) c d) a b

times : (x y c : ℤ) → (x +ℤ y) *ℤ c ≡ x *ℤ c +ℤ y *ℤ c
times = ind3 (λ x y c. (x +ℤ y) *ℤ c ≡ x *ℤ c +ℤ y *ℤ c) (λ a b c d e f. simp ⊖-laws (⊖-eq _ _ _ _ (omega arith)))

twelve : (x y : ℤ) → pos 12 *ℤ (x +ℤ y) ≡ pos 12 *ℤ x +ℤ pos 12 *ℤ y
twelve x y = ind3 (λ c x y. c *ℤ (x +ℤ y) ≡ c *ℤ x +ℤ c *ℤ y) (λ a b c d e f. simp ⊖-laws (⊖-eq _ _ _ _ (omega arith))) (pos 12) x y

-- a sum of sums
sum_both : {f : ℕ → ℤ} (g h : ℕ → ℤ) (n : ℕ) → ((i : ℕ) → f i ≡ g i +ℤ h i) → sum_to f n ≡ sum_to g n +ℤ sum_to h n
sum_both {f} g h n e = sum_to-ext f (λ i. g i +ℤ h i) n (λ i _. e i) ∙ sum_to-plus g h n

-- ---- positions

module _ (prices : Prices) (xs ys : List Position) (p : ℕ) where
  withdrawn-both : (m k l : ℕ) → withdrawn (xs ++ ys) m k p l ≡ withdrawn xs m k p l +ℤ withdrawn ys m k p l
  withdrawn-both m k l = Σ-append _ xs ys

  injected-both : (m k l : ℕ) → injected (xs ++ ys) m k p l ≡ injected xs m k p l +ℤ injected ys m k p l
  injected-both m k l = Σ-append _ xs ys

  ahead-both : (l : ℕ) → ahead_at prices (xs ++ ys) p l ≡ ahead_at prices xs p l +ℤ ahead_at prices ys p l
  ahead-both l =
      ahead-form prices (xs ++ ys) p l
      ∙ ap (λ (z : ℤ). z *ℤ P prices l) (ap₂ ◌-ℤ◌ (withdrawn-both day_ahead 0 l) (injected-both day_ahead 0 l) ∙ differ (B xs p l) (B ys p l) (E xs p l) (E ys p l))
      ∙ times (B xs p l -ℤ E xs p l) (B ys p l -ℤ E ys p l) (P prices l)
      ∙ ap₂ ◌+ℤ◌ (sym (ahead-form prices xs p l)) (sym (ahead-form prices ys p l))

  -- the bracket, of one list
  abbrev bracket : List Position → ℕ → ℕ → ℤ
  bracket zs k l = (A zs p k l -ℤ B zs p l) -ℤ (D zs p k l -ℤ E zs p l)

  real-both : (k l : ℕ) → real_at prices (xs ++ ys) p k l ≡ real_at prices xs p k l +ℤ real_at prices ys p k l
  real-both k l =
      real-form prices (xs ++ ys) p k l
      ∙ ap (λ (z : ℤ). z *ℤ C prices k l)
      (ap₂ ◌-ℤ◌
      (ap₂ ◌-ℤ◌ (withdrawn-both real_time k l) (withdrawn-both day_ahead 0 l) ∙ differ (A xs p k l) (A ys p k l) (B xs p l) (B ys p l))
      (ap₂ ◌-ℤ◌ (injected-both real_time k l) (injected-both day_ahead 0 l) ∙ differ (D xs p k l) (D ys p k l) (E xs p l) (E ys p l))
      ∙ differ (A xs p k l -ℤ B xs p l) (A ys p k l -ℤ B ys p l) (D xs p k l -ℤ E xs p l) (D ys p k l -ℤ E ys p l))
      ∙ times (bracket xs k l) (bracket ys k l) (C prices k l)
      ∙ ap₂ ◌+ℤ◌ (sym (real-form prices xs p k l)) (sym (real-form prices ys p k l))

  -- day-ahead, and in real time
  abbrev ahead_sum : List Position → ℤ
  ahead_sum zs = sum_to (λ l. pos 12 *ℤ ahead_at prices zs p l) prices.locations

  abbrev real_sum : List Position → ℕ → ℤ
  real_sum zs k = sum_to (λ l. real_at prices zs p k l) prices.locations

  pub positions-both : position_charge prices (xs ++ ys) p ≡ position_charge prices xs p +ℤ position_charge prices ys p
  unfolding position_charge
  positions-both =
      ap₂ ◌+ℤ◌
      (sum_both (λ l. pos 12 *ℤ ahead_at prices xs p l) (λ l. pos 12 *ℤ ahead_at prices ys p l) prices.locations (λ l. ap (λ (z : ℤ). pos 12 *ℤ z) (ahead-both l) ∙ twelve (ahead_at prices xs p l) (ahead_at prices ys p l)))
      (sum_both (real_sum xs) (real_sum ys) 12 (λ k. sum_both (real_at prices xs p k) (real_at prices ys p k) prices.locations (real-both k)))
      ∙ shuffle (ahead_sum xs) (ahead_sum ys) (sum_to (real_sum xs) 12) (sum_to (real_sum ys) 12)

-- ---- transactions

module _ (prices : Prices) (ts us : List Transaction) (p : ℕ) where
  carried-both : (m k i j : ℕ) → carried (ts ++ us) m k p i j ≡ carried ts m k p i j +ℤ carried us m k p i j
  carried-both m k i j = Σ-append _ ts us

  ahead-path-both : (i j : ℕ) → ahead_path prices (ts ++ us) p i j ≡ ahead_path prices ts p i j +ℤ ahead_path prices us p i j
  unfolding ahead_path
  ahead-path-both i j = ap (λ (z : ℤ). z *ℤ (P prices j -ℤ P prices i)) (carried-both day_ahead 0 i j) ∙ times (carried ts day_ahead 0 p i j) (carried us day_ahead 0 p i j) (P prices j -ℤ P prices i)

  -- real time less day-ahead, of one list
  abbrev beyond : List Transaction → ℕ → ℕ → ℕ → ℤ
  beyond vs k i j = carried vs real_time k p i j -ℤ carried vs day_ahead 0 p i j

  real-path-both : (k i j : ℕ) → real_path prices (ts ++ us) p k i j ≡ real_path prices ts p k i j +ℤ real_path prices us p k i j
  real-path-both k i j =
      path-form prices (ts ++ us) p k i j
      ∙ ap (λ (z : ℤ). z *ℤ (C prices k j -ℤ C prices k i)) (ap₂ ◌-ℤ◌ (carried-both real_time k i j) (carried-both day_ahead 0 i j) ∙ differ (carried ts real_time k p i j) (carried us real_time k p i j) (carried ts day_ahead 0 p i j) (carried us day_ahead 0 p i j))
      ∙ times (beyond ts k i j) (beyond us k i j) (C prices k j -ℤ C prices k i)
      ∙ ap₂ ◌+ℤ◌ (sym (path-form prices ts p k i j)) (sym (path-form prices us p k i j))

  -- over the sinks of a source, day-ahead and in real time
  abbrev ahead_paths : List Transaction → ℕ → ℤ
  ahead_paths vs i = sum_to (λ j. pos 12 *ℤ ahead_path prices vs p i j) prices.locations

  abbrev real_paths : List Transaction → ℕ → ℕ → ℤ
  real_paths vs k i = sum_to (λ j. real_path prices vs p k i j) prices.locations

  pub paths-both : path_charge prices (ts ++ us) p ≡ path_charge prices ts p +ℤ path_charge prices us p
  unfolding path_charge
  paths-both =
      let n = prices.locations in
      ap₂ ◌+ℤ◌
      (sum_both (ahead_paths ts) (ahead_paths us) n
      (λ i. sum_both (λ j. pos 12 *ℤ ahead_path prices ts p i j) (λ j. pos 12 *ℤ ahead_path prices us p i j) n (λ j. ap (λ (z : ℤ). pos 12 *ℤ z) (ahead-path-both i j) ∙ twelve (ahead_path prices ts p i j) (ahead_path prices us p i j))))
      (sum_both (λ k. sum_to (real_paths ts k) n) (λ k. sum_to (real_paths us k) n) 12
      (λ k. sum_both (real_paths ts k) (real_paths us k) n (λ i. sum_both (real_path prices ts p k i) (real_path prices us p k i) n (real-path-both k i))))
      ∙ shuffle (sum_to (ahead_paths ts) n) (sum_to (ahead_paths us) n) (sum_to (λ k. sum_to (real_paths ts k) n) 12) (sum_to (λ k. sum_to (real_paths us k) n) 12)

-- ---- both

pub charge-both : (prices : Prices) (xs ys : List Position) (ts us : List Transaction) (p : ℕ) → charge prices (xs ++ ys) (ts ++ us) p ≡ charge prices xs ts p +ℤ charge prices ys us p
unfolding charge
charge-both prices xs ys ts us p = ap₂ ◌+ℤ◌ (positions-both prices xs ys p) (paths-both prices ts us p) ∙ shuffle (position_charge prices xs p) (position_charge prices ys p) (path_charge prices ts p) (path_charge prices us p)
