-- What the order of refusals tells of a split that it accepts. Assumes nothing.
use mathlib.Core.Path.{◌≡◌, refl, sym, ap, ap₂, ◌∙◌}
use mathlib.Core.Logic.{◌⊎◌, inl, inr, ⊎_elim}
use mathlib.Core.Bool.{Bool, true, false, ◌||◌, ◌&&◌}
use mathlib.Core.List.{List, [], ◌∷◌}
use Prim.Native.Nat.{ℕ, suc, ◌≤◌, ◌<◌}
use native.Mathlib.Decide.{dec_lt}
use native.Mathlib.Omega.{arith}
use lib.Dec.{ltb, leb, eqb}
use lib.IntN.{ℤ, pos, negsuc, neg_ℤ, nat_abs}
use lib.ListN.{length, get_or-eq_default}
use borrow.Author.Tests.{le-leb, lt-leb, lt-ltb, le-ltb, eq-eqb, ne_eqb, ltb-true, leb-true, eqb-true}
use Rattle.ints.specs.Number.{between}
use Rattle.ints.specs.Refusal.{unless}
use Rattle.ints.specs.Table.{◌at◌, all}
use Rattle.ints.proofs.Bools.{or-true, or_right}
use Rattle.ints.proofs.Counts.{sum_nat-term}
use Rattle.ints.proofs.Refusals.{passed}
use Rattle.ints.proofs.Tables.{all-at}
use Rattle.ints.proofs.Tests.{between-size, between-natural}
use Rattle.split.specs.Inside.{Shares}
use Rattle.split.specs.Split.{share, total, split_refusal}

-- the order from the ranges on, and from the total on
abbrev pub from_total_refusal : ℤ → List ℤ → ℕ
from_total_refusal amount shares = unless (ltb 0 (total shares) || eqb (nat_abs amount) 0) 7 0

abbrev pub from_ranges_refusal : ℤ → List ℤ → ℕ
from_ranges_refusal amount shares =
    unless (between (neg_ℤ (pos 1000000000)) (pos 1000000000) amount) 2
    (unless (all (between (pos 0) (pos 4000000000)) shares) 2
    (from_total_refusal amount shares))

-- the list is in range at each place, and past its end, where 0 stands
pub shares_of : (shares : List ℤ) → length shares ≤ 64 → all (between (pos 0) (pos 4000000000)) shares ≡ true → Shares shares
shares_of shares few e = record { few = few; most = λ i. (here i (dec_lt i (length shares))).1; natural = λ i. (here i (dec_lt i (length shares))).0 }
  where
    here : (i : ℕ) → Dec (i < length shares) → (shares at i ≡ pos (share shares i)) × (share shares i ≤ 4000000000)
    here i (yes l) = between-natural (shares at i) 4000000000 (all-at (between (pos 0) (pos 4000000000)) (pos 0) shares e i l)
    here i (no l) =
        let none : shares at i ≡ pos 0 = get_or-eq_default shares (pos 0) (omega arith) in
        (none ∙ ap (λ (z : ℤ). pos (nat_abs z)) (sym none), omega (arith, ap nat_abs none))

pub record Accepted (amount : ℤ) (shares : List ℤ) (n : ℕ) : Type 0 where
  pub any : 1 ≤ length shares
  pub same : n ≡ length shares
  pub size : nat_abs amount ≤ 1000000000
  pub tested : Shares shares
  pub some : (0 < total shares) ⊎ (nat_abs amount ≡ 0)

pub accepted : (amount : ℤ) (shares : List ℤ) (n : ℕ) → split_refusal amount shares n ≡ 0 → Accepted amount shares n
unfolding split_refusal
accepted amount shares n e =
    let p1 = passed (leb 1 (length shares)) 0 _ e in
    let p2 = passed (leb (length shares) 64) 0 _ p1.1 in
    let p3 = passed (eqb n (length shares)) 0 _ p2.1 in
    let p4 = passed (between (neg_ℤ (pos 1000000000)) (pos 1000000000) amount) 1 _ p3.1 in
    let p5 = passed (all (between (pos 0) (pos 4000000000)) shares) 1 _ p4.1 in
    let p6 = passed (ltb 0 (total shares) || eqb (nat_abs amount) 0) 6 0 p5.1 in
    record {
      any = leb-true 1 (length shares) p1.0;
      same = eqb-true n (length shares) p3.0;
      size = between-size amount 1000000000 p4.0;
      tested = shares_of shares (leb-true (length shares) 64 p2.0) p5.0;
      some = ⊎_elim (λ t. inl (ltb-true 0 (total shares) t)) (λ t. inr (eqb-true (nat_abs amount) 0 t)) (or-true (ltb 0 (total shares)) (eqb (nat_abs amount) 0) p6.0);
    }

-- ---- shares that total 0 are in range: 2 and 7 are never both the reason for the shares

pub in-range : (shares : List ℤ) → total shares ≡ 0 → all (between (pos 0) (pos 4000000000)) shares ≡ true
unfolding total all
in-range shares e = each-passes shares (λ i l. ap (between (pos 0) (pos 4000000000)) (zero (shares at i) (omega (arith, sum_nat-term (share shares) i (length shares) l))))
  where
    zero : (z : ℤ) → nat_abs z ≡ 0 → z ≡ pos 0
    zero (pos n) h = ap pos h
    zero (negsuc n) h = absurd (not-suc h)
      where
        not-suc : {k : ℕ} → suc k ≡ 0 → ⊥
        not-suc q = omega arith

    each-passes : (xs : List ℤ) → ((i : ℕ) → i < length xs → between (pos 0) (pos 4000000000) (xs at i) ≡ true) → all (between (pos 0) (pos 4000000000)) xs ≡ true
    each-passes [] h = refl
    each-passes (x ∷ xs) h = ap₂ ◌&&◌ (h 0 (omega arith)) (each-passes xs (λ i l. h (suc i) (omega arith)))

-- ---- lists of the wrong length

module _ (amount : ℤ) (shares : List ℤ) (n : ℕ) where
  pub too_many : 64 < length shares → split_refusal amount shares n ≡ 1
  unfolding split_refusal
  too_many h = simp (le-leb 1 (length shares) (omega arith), lt-leb (length shares) 64 h)

  pub unequal : (n ≡ length shares → ⊥) → split_refusal amount shares n ≡ 1
  unfolding split_refusal
  unequal ne = ap (λ (b : Bool). unless (leb 1 (length shares)) 1 (unless (leb (length shares) 64) 1 (unless b 1 (from_ranges_refusal amount shares)))) (ne_eqb n (length shares) ne) ∙ either_way (leb 1 (length shares)) (leb (length shares) 64)
    where
      either_way : (a b : Bool) → unless a 1 (unless b 1 1) ≡ 1
      either_way true true = refl
      either_way true false = refl
      either_way false b = refl

-- ---- the last line of the order

module _ (amount : ℤ) (shares : List ℤ) where
  pub without-amount : nat_abs amount ≡ 0 → from_total_refusal amount shares ≡ 0
  without-amount e = ap (λ (b : Bool). unless b 7 0) (or_right (ltb 0 (total shares)) (eqb (nat_abs amount) 0) (eq-eqb (nat_abs amount) 0 e))

  pub with-total : 0 < total shares → from_total_refusal amount shares ≡ 0
  with-total h = ap (λ (b : Bool). unless (b || eqb (nat_abs amount) 0) 7 0) (lt-ltb 0 (total shares) h)

  pub without-total : total shares ≡ 0 → (nat_abs amount ≡ 0 → ⊥) → from_total_refusal amount shares ≡ 7
  without-total e ne = ap₂ (λ (a b : Bool). unless (a || b) 7 0) (le-ltb 0 (total shares) (omega arith)) (ne_eqb (nat_abs amount) 0 ne)
