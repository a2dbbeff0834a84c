-- The parts, from what was cut down and the keys. Assumes nothing.
use mathlib.Core.Path.{◌≡◌, refl, sym, ap, ap₂, ◌∙◌}
use mathlib.Core.Logic.{⊎_elim}
use mathlib.Core.Bool.{Bool}
use mathlib.Core.List.{List}
use Prim.Native.Nat.{ℕ, zero, suc, ◌+◌, ◌≤◌, ◌<◌}
use native.Mathlib.Nat.{eq-zero-or-pos}
use native.Mathlib.Decide.{dec_lt}
use native.Mathlib.Omega.{arith}
use lib.Dec.{ltb}
use lib.IntN.{ℤ, pos, nat_abs}
use lib.ListN.{length, get_or, replicate, get_or-eq_default}
use Rattle.ints.specs.Number.{below0, signed}
use Rattle.ints.specs.Sum.{sum_nat, one}
use Rattle.ints.specs.Table.{◌at◌, tab}
use Rattle.ints.proofs.Counts.{sum_nat-zero, sum_nat-term}
use Rattle.ints.proofs.Signs.{signed-zero}
use Rattle.ints.proofs.Tables.{length-tab, get_or-tab, tab-read, tab-ext}
use Rattle.split.specs.Inside.{Shares}
use Rattle.split.specs.Split.{share, total, cut_down, remainder, units_left, part, parts}
use Rattle.split.proofs.Laws.{small, cut_sum, total-most, part-is, no_size}
use Rattle.split_units.specs.Inside.{keys_above, Keys}
use Rattle.split_parts.specs.Inside.{SizeGiven, key_of, Keyed}
use Rattle.split_parts.proofs.Places.{above_place}

zeros : (n i : ℕ) → ◌≡◌ {A = ℕ} (get_or (replicate n 0) i 0) 0
zeros zero i = refl
zeros (suc n) zero = refl
zeros (suc n) (suc i) = zeros n i

module _ (size : ℕ) (shares : List ℤ) (t : ℕ) (given : SizeGiven size shares t) where
  pub share-most : (i : ℕ) → i < length shares → share shares i ≤ t
  unfolding total
  share-most i l = omega (arith, given.is, sum_nat-term (share shares) i (length shares) l)

  -- a size that isn't 0 has a total
  pub with-total : (size ≡ 0 → ⊥) → 0 < t
  with-total ne = ⊎_elim (λ l. l) (λ e. absurd (ne e)) given.some

  module _ (positive : 0 < t) where
    pub some : 0 < total shares
    some = omega (arith, given.is)

    pub cut_small : (i : ℕ) → i < length shares → cut_down size shares i ≤ 1000000000
    cut_small i l = omega (arith, sum_nat-term (cut_down size shares) i (length shares) l, cut_sum size shares some, given.small)

    -- there is a party
    pub someone : 0 < length shares
    unfolding total
    someone = ⊎_elim (λ e. absurd (none e)) (λ l. l) (eq-zero-or-pos (length shares))
      where
        none : length shares ≡ 0 → ⊥
        none e = omega (arith, some, ap (sum_nat (share shares)) e, sum_nat-zero (share shares))

    module _ (cuts : List ℤ) (cuts_are : cuts ≡ tab (λ i. pos (cut_down size shares i)) (length shares)) where
      pub cuts-length : length cuts ≡ length shares
      cuts-length = ap length cuts_are ∙ length-tab (λ i. pos (cut_down size shares i)) (length shares)

      cut_at : (i : ℕ) → i < length shares → cuts at i ≡ pos (cut_down size shares i)
      cut_at i l = ap (λ (c : List ℤ). c at i) cuts_are ∙ get_or-tab (λ i. pos (cut_down size shares i)) (pos 0) (length shares) i l

      -- what is cut down has the limits of shares
      pub cuts-tested : Shares cuts
      cuts-tested = record { few = omega (arith, cuts-length, given.tested.few); most = λ i. (here i (dec_lt i (length shares))).1; natural = λ i. (here i (dec_lt i (length shares))).0 }
        where
          natural : (z : ℤ) (n : ℕ) → z ≡ pos n → n ≤ 1000000000 → (z ≡ pos (nat_abs z)) × (nat_abs z ≤ 4000000000)
          natural z n e h = (e ∙ ap (λ (z : ℤ). pos (nat_abs z)) (sym e), omega (arith, ap nat_abs e))

          here : (i : ℕ) → Dec (i < length shares) → (cuts at i ≡ pos (share cuts i)) × (share cuts i ≤ 4000000000)
          here i (yes l) = natural (cuts at i) (cut_down size shares i) (cut_at i l) (cut_small i l)
          here i (no l) = natural (cuts at i) 0 (get_or-eq_default cuts (pos 0) (omega (arith, cuts-length))) (omega arith)

      module _ (keys : List ℕ) (keyed : Keyed (remainder size shares) (length shares) (replicate 64 0) keys) where
        key-at : (i : ℕ) → i < length shares → get_or keys i 0 ≡ key_of (remainder size shares) i
        key-at = tab-read (key_of (remainder size shares)) keys (length shares) 0 keyed.made

        pub keys-ranged : Keys keys (length shares)
        keys-ranged = record {
          few = given.tested.few;
          low = λ i l. omega (arith, key-at i l, given.tested.few);
          high = λ i l. omega (arith, key-at i l, small size shares some i, total-most shares given.tested);
          apart = λ i j l m e. omega (arith, key-at i l, key-at j m, e, given.tested.few);
          rest = λ i l. keyed.rest i l ∙ zeros 64 i;
        }

        -- fewer keys above its own than units left: the party has a unit
        pub parts-made : (neg : Bool) (units : ℕ) → units ≡ units_left size shares
            → tab (λ i. signed neg (share cuts i + one (ltb (keys_above keys (length shares) (get_or keys i 0)) units))) (length shares) ≡ tab (λ i. signed neg (part size shares i)) (length shares)
        parts-made neg units e =
            tab-ext _ _ (length shares)
            (λ i l. ap (signed neg) (ap₂ ◌+◌ (ap nat_abs (cut_at i l)) (ap one (ap₂ ltb (above_place keys (remainder size shares) (length shares) given.tested.few key-at i l) e)) ∙ sym (part-is size shares i)))

-- no size, and every part is 0
pub zeros-made : (size : ℕ) (shares : List ℤ) (neg : Bool) → size ≡ 0 → tab (λ i. pos 0) (length shares) ≡ tab (λ i. signed neg (part size shares i)) (length shares)
zeros-made size shares neg z =
    tab-ext (λ i. pos 0) (λ i. signed neg (part size shares i)) (length shares)
    (λ i _. sym (ap (signed neg) (ap (λ (size : ℕ). part size shares i) z ∙ no_size shares i) ∙ signed-zero neg))

-- a sign and a size that are the amount's
pub amount-made : (amount : ℤ) (shares : List ℤ) (neg : Bool) (size : ℕ) → neg ≡ below0 amount → size ≡ nat_abs amount → tab (λ i. signed neg (part size shares i)) (length shares) ≡ parts amount shares
unfolding parts
amount-made amount shares neg size e f = ap₂ (λ (neg : Bool) (size : ℕ). tab (λ i. signed neg (part size shares i)) (length shares)) e f
