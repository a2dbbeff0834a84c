-- Tranches that aren't 0, packed one by one; what remains at a bus comes to the same by these. Assumes nothing.
use mathlib.Core.Path.{◌≡◌, refl, sym, ap, ◌∙◌, subst}
use mathlib.Core.Logic.{⊎_elim}
use mathlib.Core.Bool.{Bool, true, false}
use mathlib.Core.List.{List}
use Prim.Native.Nat.{ℕ, ◌+◌, ◌≤◌, ◌<◌}
use native.Mathlib.Decide.{dec_lt}
use native.Mathlib.Omega.{arith}
use lib.Dec.{ltb, eqb}
use lib.IntN.{ℤ, pos, nat_abs}
use lib.ListN.{length, get_or, set, take}
use lib.Seq.{get_or-set_same, get_or-set_other, get_or-take}
use borrow.Author.Tests.{eq-eqb, ne_eqb, eqb-true, eqb-false, ltb-false}
use Rattle.ints.specs.Refusal.{pick}
use Rattle.ints.specs.Sum.{sum_nat, only, one}
use Rattle.ints.specs.Table.{◌at◌}
use Rattle.ints.proofs.Bools.{either}
use Rattle.ints.proofs.Counts.{sum_nat-zero, sum_nat-next, sum_nat-ext}
use Rattle.ints.proofs.Sums.{sum_to-only}
use Rattle.split.specs.Split.{share, total, part, parts}
use Rattle.split.proofs.Laws.{zero-part}
use Rattle.split.proofs.Packed.{total-same, part_same}
use Rattle.load.specs.Inside.{Auction, Packed, Won, won_part, Ranged}
use Rattle.load.specs.Load.{auctioned}
use Rattle.load.proofs.Accepted.{past}
use Rattle.load.proofs.Handed.{stays, is_shared, splits-over, won-stays, won-shared, natural-sum}
use Rattle.load.proofs.Splits.{part-natural}

none : {j : ℕ} → j < 0 → ⊥
none l = omega arith

module _ {tranches : List ℤ} where
  pub packed_none : {won : List ℤ} {winners : List ℕ} → Packed tranches 0 won winners 0
  packed_none {winners = winners} = record {
    few = omega arith;
    each = λ j l. absurd (none l);
    named = λ j l. absurd (none l);
    ordered = λ j k h l. absurd (none l);
    sums = λ f z. sum_nat-zero (λ j. f (get_or winners j 0)) ∙ sym (sum_nat-zero f);
  }

  -- the same by other lists that have these m in front
  packed-by : {n m : ℕ} {won other : List ℤ} {winners others : List ℕ} → Packed tranches n won winners m → ((j : ℕ) → j < m → other at j ≡ won at j) → ((j : ℕ) → j < m → get_or others j 0 ≡ get_or winners j 0)
      → Packed tranches n other others m
  packed-by {m = m} {winners = winners} {others = others} p e f = record {
    few = p.few;
    each = λ j l. e j l ∙ p.each j l ∙ ap (λ (i : ℕ). tranches at i) (sym (f j l));
    named = λ j l. omega (arith, p.named j l, f j l);
    ordered = λ j k h l. omega (arith, p.ordered j k h l, f j (omega arith), f k l);
    sums = λ g z. sum_nat-ext (λ j. g (get_or others j 0)) (λ j. g (get_or winners j 0)) m (λ j l. ap g (f j l)) ∙ p.sums g z;
  }

  pub packed-front : {n m : ℕ} {won : List ℤ} {winners : List ℕ} → Packed tranches n won winners m → Packed tranches n (take m won) (take m winners) m
  packed-front {m = m} {won = won} {winners = winners} p = packed-by p (λ j l. get_or-take m won j (pos 0) l) (λ j l. get_or-take m winners j 0 l)

  -- one participant more, without a tranche and with one
  packed-skip : {n m : ℕ} {won : List ℤ} {winners : List ℕ} → Packed tranches n won winners m → share tranches n ≡ 0 → Packed tranches (n + 1) won winners m
  packed-skip {n} p e = record {
    few = omega (arith, p.few);
    each = p.each;
    named = λ j l. omega (arith, p.named j l);
    ordered = p.ordered;
    sums = λ f z. omega (arith, p.sums f z, sum_nat-next f n, z n e);
  }

  packed_keep : {n m : ℕ} {won : List ℤ} {winners : List ℕ} → Packed tranches n won winners m → won at m ≡ tranches at n → get_or winners m 0 ≡ n → Packed tranches (n + 1) won winners (m + 1)
  packed_keep {n} {m} {won} {winners} p e f = record {
    few = omega (arith, p.few);
    each = λ j l. each_at j l (dec_lt j m);
    named = λ j l. named-at j l (dec_lt j m);
    ordered = λ j k h l. ordered_at j k h l (dec_lt k m);
    sums = λ g z. omega (arith, sum_nat-next (λ j. g (get_or winners j 0)) m, p.sums g z, ap g f, sum_nat-next g n);
  }
    where
      last : (j : ℕ) → j < m + 1 → (j < m → ⊥) → j ≡ m
      last j l h = omega arith

      each_at : (j : ℕ) → j < m + 1 → Dec (j < m) → won at j ≡ tranches at get_or winners j 0
      each_at j l (yes h) = p.each j h
      each_at j l (no h) = subst (λ (j : ℕ). won at j ≡ tranches at get_or winners j 0) (sym (last j l h)) (e ∙ ap (λ (i : ℕ). tranches at i) (sym f))

      named-at : (j : ℕ) → j < m + 1 → Dec (j < m) → get_or winners j 0 < n + 1
      named-at j l (yes h) = omega (arith, p.named j h)
      named-at j l (no h) = omega (arith, ap (λ (j : ℕ). get_or winners j 0) (last j l h), f)

      ordered_at : (j k : ℕ) → j < k → k < m + 1 → Dec (k < m) → get_or winners j 0 < get_or winners k 0
      ordered_at j k h l (yes u) = p.ordered j k h u
      ordered_at j k h l (no u) = omega (arith, p.named j (omega arith), ap (λ (j : ℕ). get_or winners j 0) (last k l u), f)

  -- it was stored in any case, and is counted, by r, where it isn't 0
  pub packed-next : {n m : ℕ} {won : List ℤ} {winners : List ℕ} (x : ℤ) (r : ℕ) → Packed tranches n won winners m → x ≡ tranches at n → m < length won → m < length winners → r ≡ one (ltb 0 (share tranches n))
      → Packed tranches (n + 1) (set won m x) (set winners m n) (m + r)
  packed-next {n} {m} {won} {winners} x r p e l u is =
      ⊎_elim
      (λ t. subst (λ (r : ℕ). Packed tranches (n + 1) (set won m x) (set winners m n) (m + r)) (sym (is ∙ ap one t)) (packed_keep stored (get_or-set_same won m x (pos 0) l ∙ e) (get_or-set_same winners m n 0 u)))
      (λ t. subst (Packed tranches (n + 1) (set won m x) (set winners m n)) (none_more (is ∙ ap one t)) (packed-skip stored (omega (arith, ltb-false 0 (share tranches n) t))))
      (either (ltb 0 (share tranches n)))
    where
      none_more : r ≡ 0 → m ≡ m + r
      none_more z = omega arith

      stored : Packed tranches n (set won m x) (set winners m n) m
      stored = packed-by p (λ j l. get_or-set_other won m j x (pos 0) (λ z. omega (arith, z))) (λ j l. get_or-set_other winners m j n 0 (λ z. omega (arith, z)))

-- ---- what remains, by these

pick-natural : (t : Bool) (k : ℕ) → only t (pos k) ≡ pos (pick t k 0)
pick-natural true k = refl
pick-natural false k = refl

pick-zero : (t : Bool) {k : ℕ} → k ≡ 0 → pick t k 0 ≡ 0
pick-zero true e = e
pick-zero false e = refl

module _ {n distributor : ℕ} {tranches won : List ℤ} {winners : List ℕ} (auction : Auction n distributor tranches) (packed : Packed tranches 64 won winners (length won)) (beside : length winners ≡ length won) where
  abbrev who : ℕ → ℕ
  who j = get_or winners j 0

  sums : (f : ℕ → ℕ) → ((i : ℕ) → share tranches i ≡ 0 → f i ≡ 0) → sum_nat (λ j. f (who j)) (length won) ≡ sum_nat f (length tranches)
  sums f z = packed.sums f z ∙ ap (sum_nat f) (sym auction.all)

  won-total : total won ≡ total tranches
  won-total = total-same tranches won who packed.each packed.ordered sums

  pub won-given : Won distributor won winners
  won-given = record {
    distributed = auction.named;
    tested = record { few = packed.few; most = λ j. (here j (dec_lt j (length won))).1; natural = λ j. (here j (dec_lt j (length won))).0 };
    beside = beside;
    named = packed.named;
  }
    where
      here : (j : ℕ) → Dec (j < length won) → (won at j ≡ pos (share won j)) × (share won j ≤ 4000000000)
      here j (yes l) =
          let e = packed.each j l in
          (e ∙ auction.tested.natural (who j) ∙ ap (λ (z : ℤ). pos (nat_abs z)) (sym e), omega (arith, ap nat_abs e, auction.tested.most (who j)))
      here j (no l) = past won j 4000000000 l

  pub won-is : (remaining : ℤ) → Ranged remaining → (p : ℕ) → p < 64 → won_part distributor won winners remaining p ≡ auctioned distributor tranches remaining p
  won-is remaining r p u = ⊎_elim (λ t. none-won (eqb-true (total tranches) 0 t)) (λ t. some-won (eqb-false (total tranches) 0 t)) (either (eqb (total tranches) 0))
    where
      none-won : total tranches ≡ 0 → won_part distributor won winners remaining p ≡ auctioned distributor tranches remaining p
      none-won e = won-stays distributor won winners remaining p (won-total ∙ e) ∙ sym (stays distributor tranches remaining p e)

      -- participant i's part where i is p
      part_of : ℕ → ℕ
      part_of i = pick (eqb i p) (part (nat_abs remaining) tranches i) 0

      some-won : (total tranches ≡ 0 → ⊥) → won_part distributor won winners remaining p ≡ auctioned distributor tranches remaining p
      some-won ne =
          won-shared distributor won winners remaining p (λ e. ne (sym won-total ∙ e))
          ∙ natural-sum (λ j. only (eqb (who j) p) (parts remaining won at j)) (λ j. part_of (who j)) (length won)
          (λ j l. ap (only (eqb (who j) p)) (part-natural (splits-over won-given.tested r (λ e. ne (sym won-total ∙ e))) j l ∙ ap pos (part_same tranches won who packed.each packed.ordered sums (nat_abs remaining) (omega arith) j l)) ∙ pick-natural (eqb (who j) p) (part (nat_abs remaining) tranches (who j)))
          ∙ ap pos (packed.sums part_of (λ i e. pick-zero (eqb i p) (zero-part (nat_abs remaining) tranches (omega arith) i e)))
          ∙ sym (natural-sum (λ i. only (eqb i p) (pos (part (nat_abs remaining) tranches i))) part_of 64 (λ i _. pick-natural (eqb i p) (part (nat_abs remaining) tranches i)))
          ∙ sum_to-only (λ i. only (eqb i p) (pos (part (nat_abs remaining) tranches i))) 64 p u (λ i _ x. ap (λ (t : Bool). only t (pos (part (nat_abs remaining) tranches i))) (ne_eqb i p x))
          ∙ ap (λ (t : Bool). only t (pos (part (nat_abs remaining) tranches p))) (eq-eqb p p refl)
          ∙ sym (is_shared distributor tranches remaining p ne ∙ part-natural (splits-over auction.tested r ne) p (omega (arith, auction.all)))
