-- Contracts and what remains, handed out one by one: the table after so many. Assumes nothing.
use mathlib.Core.Path.{◌≡◌, refl, sym, ap, ap₂, ◌∙◌, subst}
use mathlib.Core.Logic.{⊎_elim}
use mathlib.Core.Bool.{Bool, true, false}
use mathlib.Core.List.{List, [], ◌∷◌}
use Prim.Native.Nat.{ℕ, ◌+◌, ◌*◌, ◌-◌, ◌≤◌, ◌<◌}
use native.Mathlib.Omega.{arith}
use lib.Dec.{ltb, eqb}
use lib.IntN.{ℤ, pos, nat_abs, ◌+ℤ◌, ◌-ℤ◌, +ℤ_idl, +ℤ_idr}
use lib.ListN.{length, get_or, length-replicate}
use lib.Signed.{le_z}
use borrow.Author.Tests.{lt-ltb, le-ltb, eq-eqb, ne_eqb, eqb-true, eqb-false, ltb-true, ltb-false, leb-true}
use Rattle.ints.specs.InsideRange.{Within}
use Rattle.ints.specs.Refusal.{pick}
use Rattle.ints.specs.Sum.{sum_to, sum_nat, only}
use Rattle.ints.specs.Table.{◌at◌}
use Rattle.ints.proofs.Adding.{only-within}
use Rattle.ints.proofs.Bools.{either}
use Rattle.ints.proofs.Counts.{sum_nat-zero}
use Rattle.ints.proofs.Diff.{◌⊖◌, ⊖-eq, ⊖-laws, pos-⊖}
use Rattle.ints.proofs.Signs.{signed-sum}
use Rattle.ints.proofs.Sizes.{w-up}
use Rattle.ints.proofs.Sums.{sum_to-zero, sum_to-next, sum_to-ext, sum_to-abs}
use Rattle.split.specs.Inside.{Shares}
use Rattle.split.specs.Split.{share, total, part, parts}
use Rattle.load.specs.Inside.{Splittable, RoomInTables, Contracts, Empty, Won, won_part, Ranged, Remainings}
use Rattle.load.specs.Load.{identity, supplier, area, kw, contract_count, parts_of, contract_at, contracted, auctioned}
use Rattle.load.specs.InsideTable.{Cells, AddedCells}
use Rattle.load.proofs.Splits.{length-stretch, part-within, part-natural, splits_of}
use Rattle.load.proofs.Tables.{added_none, added_then, added-same, added-cells, zero-cells}

only_zero : (t : Bool) → only t (pos 0) ≡ pos 0
only_zero true = refl
only_zero false = refl

only-add : (t : Bool) (x y : ℤ) → only t x +ℤ only t y ≡ only t (x +ℤ y)
only-add true x y = refl
only-add false x y = refl

-- ---- step 2

module _ (n : ℕ) (area_parts contracts : List ℤ) where
  -- what the first j contracts come to, for a participant and for all
  abbrev pub first_load : ℕ → ℕ → ℕ → ℤ
  first_load j p b = sum_to (λ k. only (eqb (identity (supplier contracts k)) p) (contract_at n area_parts contracts k b)) j

  abbrev pub first_all : ℕ → ℕ → ℕ → ℤ
  first_all j p b = only (eqb 0 p) (sum_to (λ k. contract_at n area_parts contracts k b) j)

  pub contracts-none : {table : List ℤ} → AddedCells n (first_load 0) table table
  contracts-none = added_none _ (λ p b. sum_to-zero _)

  pub contracted-none : {table : List ℤ} → AddedCells n (first_all 0) table table
  contracted-none = added_none _ (λ p b. ap (only (eqb 0 p)) (sum_to-zero _) ∙ only_zero (eqb 0 p))

  pub contracts-next : {before table after : List ℤ} (j : ℕ) → AddedCells n (first_load j) before table
      → AddedCells n (λ p b. only (eqb (identity (supplier contracts j)) p) (contract_at n area_parts contracts j b)) table after → AddedCells n (first_load (j + 1)) before after
  contracts-next j x y = added_then _ x y (λ p b _ _. sym (sum_to-next _ j))

  pub contracted-next : {before table after : List ℤ} (j : ℕ) → AddedCells n (first_all j) before table
      → AddedCells n (λ p b. only (eqb 0 p) (contract_at n area_parts contracts j b)) table after → AddedCells n (first_all (j + 1)) before after
  contracted-next j x y = added_then _ x y (λ p b _ _. only-add (eqb 0 p) _ _ ∙ ap (only (eqb 0 p)) (sym (sum_to-next _ j)))

  module _ (given : Contracts n area_parts contracts) where
    pub contract-within : (j b : ℕ) → j < contract_count contracts → b < n → Within (contract_at n area_parts contracts j b) 20000000
    unfolding contract_at
    contract-within j b h l =
        part-within (given.splits j h) b (omega (arith, length-stretch n area_parts (identity (area contracts j)) (given.placed j h)))

    module _ (j : ℕ) (h : j ≤ contract_count contracts) where
      pub load-within : (p b : ℕ) → p < 64 → b < n → Within (first_load j p b) 10000000000
      load-within p b _ l = w-up {h = j * 20000000} (record { within = sum_to-abs _ 20000000 j (λ k u. (only-within (eqb (identity (supplier contracts k)) p) (contract-within k b (omega arith) l)).within) }) (omega (arith, given.few))

      pub all-within : (p b : ℕ) → p < 64 → b < n → Within (first_all j p b) 10000000000
      all-within p b _ l = only-within (eqb 0 p) (w-up {h = j * 20000000} (record { within = sum_to-abs _ 20000000 j (λ k u. (contract-within k b (omega arith) l).within) }) (omega (arith, given.few)))

      -- there is room for one more
      pub tables-of : {table₀ contracted₀ table contracted : List ℤ} → Empty n table₀ contracted₀ → AddedCells n (first_load j) table₀ table → AddedCells n (first_all j) contracted₀ contracted → RoomInTables n table contracted
      tables-of e x y = record {
        table-long = x.same ∙ ap length e.table_empty ∙ length-replicate (64 * n) (pos 0);
        contracted-long = y.same ∙ ap length e.contracted-empty;
        table-small = added-cells 1000000000000 x (zero-cells (64 * n) e.table_empty n) load-within (omega arith);
        contracted-small = added-cells 1000000000000 y (zero-cells 64 e.contracted-empty n) all-within (omega arith);
      }

-- ---- step 3

module _ (distributor : ℕ) (tranches : List ℤ) (remaining : ℤ) (p : ℕ) where
  pub stays : total tranches ≡ 0 → auctioned distributor tranches remaining p ≡ only (eqb distributor p) remaining
  unfolding auctioned
  stays e = ap (λ (t : Bool). pick t (only (eqb distributor p) remaining) (parts remaining tranches at p)) (eq-eqb (total tranches) 0 e)

  pub is_shared : (total tranches ≡ 0 → ⊥) → auctioned distributor tranches remaining p ≡ parts remaining tranches at p
  unfolding auctioned
  is_shared ne = ap (λ (t : Bool). pick t (only (eqb distributor p) remaining) (parts remaining tranches at p)) (ne_eqb (total tranches) 0 ne)

some_share : (shares : List ℤ) → (total shares ≡ 0 → ⊥) → 1 ≤ length shares
unfolding total
some_share [] ne = absurd (ne (sum_nat-zero (share [])))
some_share (x ∷ xs) ne = omega arith

-- tranches that were won can be split over
pub splits-over : {shares : List ℤ} {remaining : ℤ} → Shares shares → Ranged remaining → (total shares ≡ 0 → ⊥) → Splittable remaining shares
splits-over {shares} {remaining} s r ne = splits_of remaining shares r s (some_share shares ne) (omega arith)

-- the same by the tranches that aren't 0 and their winners
module _ (distributor : ℕ) (won : List ℤ) (winners : List ℕ) (remaining : ℤ) (p : ℕ) where
  abbrev to_winners : ℤ
  to_winners = sum_to (λ j. only (eqb (get_or winners j 0) p) (parts remaining won at j)) (length won)

  pub won-stays : total won ≡ 0 → won_part distributor won winners remaining p ≡ only (eqb distributor p) remaining
  unfolding won_part
  won-stays e = ap (λ (t : Bool). pick t (only (eqb distributor p) remaining) to_winners) (eq-eqb (total won) 0 e)

  pub won-shared : (total won ≡ 0 → ⊥) → won_part distributor won winners remaining p ≡ to_winners
  unfolding won_part
  won-shared ne = ap (λ (t : Bool). pick t (only (eqb distributor p) remaining) to_winners) (ne_eqb (total won) 0 ne)

  pub won-within : Won distributor won winners → Ranged remaining → Within (won_part distributor won winners remaining p) 2000000000
  won-within w r =
      ⊎_elim
      (λ t. subst (λ (z : ℤ). Within z 2000000000) (sym (won-stays (eqb-true (total won) 0 t))) (only-within (eqb distributor p) (w-up {h = 20000000} (record { within = r.small }) (omega arith))))
      (λ t. subst (λ (z : ℤ). Within z 2000000000) (sym (won-shared (eqb-false (total won) 0 t)))
      (w-up {h = length won * 20000000} (record { within = sum_to-abs _ 20000000 (length won) (λ j l. (only-within (eqb (get_or winners j 0) p) (part-within (splits-over w.tested r (eqb-false (total won) 0 t)) j l)).within) }) (omega (arith, w.tested.few))))
      (either (eqb (total won) 0))

-- `give` says what participant p gets of what remains at a bus
module _ (give : ℤ → ℕ → ℤ) (n : ℕ) (loads contracted : List ℤ) where
  -- what remained at the first j buses
  abbrev pub first_rest : ℕ → ℕ → ℕ → ℤ
  first_rest j p b = only (ltb b j) (give (loads at b -ℤ contracted at b) p)

  pub rests-none : {table : List ℤ} → AddedCells n (first_rest 0) table table
  rests-none = added_none _ (λ p b. ap (λ (t : Bool). only t (give (loads at b -ℤ contracted at b) p)) (le-ltb b 0 (omega arith)))

  pub rests-next : {before table after : List ℤ} (j : ℕ) → AddedCells n (first_rest j) before table
      → AddedCells n (λ p b. only (eqb j b) (give (loads at j -ℤ contracted at j) p)) table after → AddedCells n (first_rest (j + 1)) before after
  rests-next j x y = added_then _ x y (λ p b _ _. one_more (λ k. give (loads at k -ℤ contracted at k) p) b)
    where
      one_more : (f : ℕ → ℤ) (b : ℕ) → only (ltb b j) (f b) +ℤ only (eqb j b) (f j) ≡ only (ltb b (j + 1)) (f b)
      one_more f b = ⊎_elim same-bus other-bus (either (eqb j b))
        where
          same-bus : eqb j b ≡ true → only (ltb b j) (f b) +ℤ only (eqb j b) (f j) ≡ only (ltb b (j + 1)) (f b)
          same-bus t =
              let e = eqb-true j b t in
              ap₂ (λ (s t : Bool). only s (f b) +ℤ only t (f j)) (le-ltb b j (omega arith)) t ∙ +ℤ_idl (f j) ∙ ap f e
              ∙ sym (ap (λ (t : Bool). only t (f b)) (lt-ltb b (j + 1) (omega arith)))

          other-bus : eqb j b ≡ false → only (ltb b j) (f b) +ℤ only (eqb j b) (f j) ≡ only (ltb b (j + 1)) (f b)
          other-bus t =
              ap (λ (t : Bool). only (ltb b j) (f b) +ℤ only t (f j)) t ∙ +ℤ_idr (only (ltb b j) (f b))
              ∙ ap (λ (t : Bool). only t (f b)) (⊎_elim (λ s. s ∙ sym (lt-ltb b (j + 1) (omega (arith, ltb-true b j s)))) (λ s. s ∙ sym (le-ltb b (j + 1) (omega (arith, ltb-false b j s, eqb-false j b t)))) (either (ltb b j)))

  pub rests-done : {before after : List ℤ} → AddedCells n (first_rest n) before after → AddedCells n (λ p b. give (loads at b -ℤ contracted at b) p) before after
  rests-done x = added-same _ x (λ p b _ l. ap (λ (t : Bool). only t (give (loads at b -ℤ contracted at b) p)) (lt-ltb b n l))

  pub rests-small : {before table : List ℤ} (j : ℕ) → ((remaining : ℤ) (p : ℕ) → Ranged remaining → Within (give remaining p) 2000000000) → Remainings n loads contracted
      → Cells n before 100000000000 → AddedCells n (first_rest j) before table → Cells n table 1000000000000
  rests-small j small given c x = added-cells 1000000000000 x c (λ p b u l. only-within (ltb b j) (small (loads at b -ℤ contracted at b) p (given.each b l))) (omega arith)

-- ---- the load covers the contracts

pub natural-sum : (f : ℕ → ℤ) (g : ℕ → ℕ) (n : ℕ) → ((i : ℕ) → i < n → f i ≡ pos (g i)) → sum_to f n ≡ pos (sum_nat g n)
natural-sum f g n h = sum_to-ext f (λ i. pos (g i)) n h ∙ signed-sum false g n

pub minus-natural : (m k : ℕ) → k ≤ m → pos m -ℤ pos k ≡ pos (m - k)
minus-natural m k h = ap₂ ◌-ℤ◌ (pos-⊖ m) (pos-⊖ k) ∙ both ∙ sym (pos-⊖ (m - k))
  where
    both : m ⊖ 0 -ℤ k ⊖ 0 ≡ (m - k) ⊖ 0
    both = simp ⊖-laws (⊖-eq _ _ _ _ (omega arith))

-- what is left of kW that cover other kW
pub left-ranged : (x y : ℤ) → Ranged x → y ≡ pos (nat_abs y) → le_z y x ≡ true → Ranged (x -ℤ y)
left-ranged x y r e t = record { natural = is ∙ ap (λ (z : ℤ). pos (nat_abs z)) (sym is); small = omega (arith, ap nat_abs is, r.small) }
  where
    covers : nat_abs y ≤ nat_abs x
    covers = leb-true (nat_abs y) (nat_abs x) (sym (ap₂ le_z e r.natural) ∙ t)

    is : x -ℤ y ≡ pos (nat_abs x - nat_abs y)
    is = ap₂ ◌-ℤ◌ r.natural e ∙ minus-natural (nat_abs x) (nat_abs y) covers

module _ (n : ℕ) (area_parts contracts : List ℤ) (given : Contracts n area_parts contracts) where
  -- what contract j comes to, as a natural number
  abbrev pub kw_at : ℕ → ℕ → ℕ
  kw_at j b = part (nat_abs (kw contracts j)) (parts_of n area_parts (identity (area contracts j))) b

  pub contract-natural : (j b : ℕ) → j < contract_count contracts → b < n → contract_at n area_parts contracts j b ≡ pos (kw_at j b)
  unfolding contract_at
  contract-natural j b h l = part-natural (given.splits j h) b (omega (arith, length-stretch n area_parts (identity (area contracts j)) (given.placed j h)))

  pub contracted-natural : (b : ℕ) → b < n → contracted n area_parts contracts b ≡ pos (nat_abs (contracted n area_parts contracts b))
  contracted-natural b l =
      let e = natural-sum (λ j. contract_at n area_parts contracts j b) (λ j. kw_at j b) (contract_count contracts) (λ j h. contract-natural j b h l) in
      e ∙ ap (λ (z : ℤ). pos (nat_abs z)) (sym e)
