-- Laws of the table: parts added one by one, by rows and by columns. Assumes nothing.
use mathlib.Core.Path.{◌≡◌, refl, sym, ap, ap₂, ◌∙◌, subst}
use mathlib.Core.Bool.{Bool, true, false, ◌&&◌, and-true as and-unit, and-false}
use mathlib.Core.List.{List, ◌++◌}
use Prim.Native.Nat.{ℕ, ◌+◌, ◌*◌, ◌/◌, ◌%◌, ◌≤◌, ◌<◌}
use native.Mathlib.Decide.{dec_lt}
use native.Mathlib.Nat.{mul-add-div_right, mul-add-mod_self_right, div-eq_of_lt, div-lt_iff_lt-mul, div-add-mod', mod-eq_of_lt, mod-lt}
use native.Mathlib.Omega.{arith}
use lib.Dec.{eqb}
use lib.IntN.{ℤ, pos, ◌+ℤ◌, +ℤ_idl, +ℤ_idr, +ℤ_assoc}
use lib.ListN.{length, set, take, drop, replicate, length-set, length-replicate, take-append-drop}
use lib.Seq.{get_or-set_other, ext_get_or}
use borrow.Author.Tests.{eq-eqb, ne_eqb, eqb-true}
use Rattle.ints.specs.InsideRange.{Within}
use Rattle.ints.proofs.Ranges.{room, zero-at}
use Rattle.ints.specs.Refusal.{pick, lent}
use Rattle.ints.specs.Sum.{sum_to, only}
use Rattle.ints.specs.Table.{◌at◌, tab}
use Rattle.ints.proofs.Adding.{added, only-within}
use Rattle.ints.proofs.Bools.{same, and-true}
use Rattle.ints.proofs.Sizes.{w-add, w-lit, w-up}
use Rattle.ints.proofs.Tables.{length-tab, get_or-tab}
use Rattle.ints.proofs.Sums.{sum_to-zero, sum_to-next, sum_to-ext, sum_to-none, sum_to-only, sum_to-abs}
use Rattle.load.specs.Load.{cell}
use Rattle.load.specs.InsideTable.{FrontWithin, Room, Spread, Cells, AddedCells}

-- ---- parts are added one by one

-- what part i adds at k
abbrev share : (ℕ → ℕ) → List ℤ → ℕ → ℕ → ℤ
share place parts k i = only (eqb (place i) k) (parts at i)

module _ {before : List ℤ} {place : ℕ → ℕ} {parts : List ℤ} where
  pub spread_none : Spread before place parts 0 before
  spread_none = record { same = refl; each = λ k. sym (ap (λ (z : ℤ). before at k +ℤ z) (sum_to-zero (share place parts k)) ∙ +ℤ_idr (before at k)) }

  pub spread-next : {i : ℕ} {table : List ℤ} (z : ℤ) → Spread before place parts i table → place i < length table → z ≡ parts at i
      → Spread before place parts (i + 1) (set table (place i) (table at place i +ℤ z))
  spread-next {i} {table} z s l e = record { same = length-set table (place i) _ ∙ s.same; each = one }
    where
      one : (k : ℕ) → set table (place i) (table at place i +ℤ z) at k ≡ before at k +ℤ sum_to (share place parts k) (i + 1)
      one k =
          added table (place i) z k l
          ∙ ap₂ ◌+ℤ◌ (s.each k) (ap (only (eqb (place i) k)) e)
          ∙ +ℤ_assoc (before at k) (sum_to (share place parts k) i) (share place parts k i)
          ∙ ap (λ (y : ℤ). before at k +ℤ y) (sym (sum_to-next (share place parts k) i))

  -- while they are, no number is larger than at first by more than 64 parts
  pub spread-within : {n i : ℕ} {table : List ℤ} → Room before place parts n → Spread before place parts i table → i < n → Within (table at place i) 100000000000000
  spread-within {n} {i} {table} r s l =
      subst (λ (z : ℤ). Within z 100000000000000) (sym (s.each (place i)))
      (w-up (w-add (r.before i l) (record { within = sum_to-abs (share place parts (place i)) 1000000000000 i (λ j h. (only-within (eqb (place j) (place i)) (r.small.each j (omega arith))).within) }))
      (omega (arith, r.few)))

  -- past all of them nothing is added
  pub spread-past : {n : ℕ} {after : List ℤ} → Spread before place parts n after → (k : ℕ) → ((i : ℕ) → i < n → place i < k) → after at k ≡ before at k
  spread-past {n} s k below =
      s.each k
      ∙ ap (λ (z : ℤ). before at k +ℤ z) (sum_to-none (share place parts k) n (λ i l. ap (λ (t : Bool). only t (parts at i)) (ne_eqb (place i) k (λ e. omega (arith, below i l)))))
      ∙ +ℤ_idr (before at k)

-- a list whose front was lent, and is given back as the answer says
pub lent-front : (answer : ℕ) (result whole : List ℤ) (n : ℕ) → lent answer result (take n whole) ++ drop n whole ≡ lent answer (result ++ drop n whole) whole
lent-front answer result whole n = by (eqb answer 0)
  where
    by : (b : Bool) → pick b result (take n whole) ++ drop n whole ≡ pick b (result ++ drop n whole) whole
    by true = refl
    by false = take-append-drop n whole

-- ---- rows and columns

-- number k of a table is in row k / n, at column k % n
pub row-of : (n p b : ℕ) → b < n → (p * n + b) / n ≡ p
row-of n p b l = mul-add-div_right (omega arith) p b ∙ omega (arith, div-eq_of_lt l)

pub column-of : (n p b : ℕ) → b < n → (p * n + b) % n ≡ b
column-of n p b l = mul-add-mod_self_right p n b ∙ mod-eq_of_lt l

-- two places are the same where row and column are
module _ (n q i p b : ℕ) (in_row : i < n) (in-row' : b < n) where
  meets : q * n + i ≡ p * n + b → (q ≡ p) × (i ≡ b)
  meets e =
      (sym (row-of n q i in_row) ∙ ap (λ (k : ℕ). k / n) e ∙ row-of n p b in-row', sym (column-of n q i in_row) ∙ ap (λ (k : ℕ). k % n) e ∙ column-of n p b in-row')

  pub same_place : eqb (q * n + i) (p * n + b) ≡ (eqb q p && eqb i b)
  same_place =
      same (eqb (q * n + i) (p * n + b)) (eqb q p && eqb i b)
      (λ t. let m = meets (eqb-true (q * n + i) (p * n + b) t) in ap₂ ◌&&◌ (eq-eqb q p m.0) (eq-eqb i b m.1))
      (λ t. let m = and-true (eqb q p) (eqb i b) t in eq-eqb (q * n + i) (p * n + b) (omega (arith, ap (λ (x : ℕ). x * n) (eqb-true q p m.0), eqb-true i b m.1)))

-- of a sum of chosen terms the one at `place` is left, where no other can be chosen
one_left : (test : ℕ → Bool) (f : ℕ → ℤ) (t : Bool) (place n : ℕ) → place < n → ((i : ℕ) → i < n → test i ≡ (t && eqb i place)) → sum_to (λ i. only (test i) (f i)) n ≡ only t (f place)
one_left test f t place n l h =
    sum_to-only (λ i. only (test i) (f i)) n place l (λ i u ne. ap (λ (b : Bool). only b (f i)) (h i u ∙ ap (λ (b : Bool). t && b) (ne_eqb i place ne) ∙ and-false t))
    ∙ ap (λ (b : Bool). only b (f place)) (h place l ∙ ap (λ (b : Bool). t && b) (eq-eqb place place refl) ∙ and-unit t)

-- a sum of terms that are chosen by a further test, too
chosen : (test : ℕ → Bool) (f : ℕ → ℤ) (t : Bool) (n : ℕ) → sum_to (λ i. only (test i && t) (f i)) n ≡ only t (sum_to (λ i. only (test i) (f i)) n)
chosen test f true n = sum_to-ext _ _ n (λ i _. ap (λ (b : Bool). only b (f i)) (and-unit (test i)))
chosen test f false n = sum_to-none _ n (λ i _. ap (λ (b : Bool). only b (f i)) (and-false (test i)))

module _ {before parts after : List ℤ} (n : ℕ) where
  -- parts added along row q
  pub row-added : (q : ℕ) → q < 64 → Spread before (λ i. q * n + i) parts n after → AddedCells n (λ p b. only (eqb q p) (parts at b)) before after
  row-added q h s = record {
    same = s.same;
    each = λ p b _ l. s.each (p * n + b) ∙ ap (λ (z : ℤ). cell n before p b +ℤ z) (one_left (λ i. eqb (q * n + i) (p * n + b)) (λ i. parts at i) (eqb q p) b n l (λ i u. same_place n q i p b u l));
    past = λ k m. spread-past s k (λ i u. omega (arith, room q 64 n h));
  }

  -- parts added in column c, part j in row `row j`
  pub column-added : (c : ℕ) → c < n → (row : ℕ → ℕ) (m : ℕ) → ((j : ℕ) → j < m → row j < 64) → Spread before (λ j. row j * n + c) parts m after
      → AddedCells n (λ p b. only (eqb c b) (sum_to (λ j. only (eqb (row j) p) (parts at j)) m)) before after
  column-added c h row m named s = record {
    same = s.same;
    each = λ p b _ l. s.each (p * n + b) ∙ ap (λ (z : ℤ). cell n before p b +ℤ z) (sum_to-ext _ _ m (λ j _. ap (λ (t : Bool). only t (parts at j)) (same_place n (row j) c p b h l)) ∙ chosen (λ j. eqb (row j) p) (λ j. parts at j) (eqb c b) m);
    past = λ k m. spread-past s k (λ j u. omega (arith, room (row j) 64 n (named j u)));
  }

-- a number added in row q at column c
pub cell-added : {before : List ℤ} (n q c : ℕ) (z : ℤ) → q < 64 → c < n → q * n + c < length before
    → AddedCells n (λ p b. only (eqb c b) (only (eqb q p) z)) before (set before (q * n + c) (before at (q * n + c) +ℤ z))
cell-added {before} n q c z g h r = record {
  same = length-set before (q * n + c) _;
  each = λ p b _ l. added before (q * n + c) z (p * n + b) r ∙ ap (λ (y : ℤ). cell n before p b +ℤ y) (ap (λ (t : Bool). only t z) (same_place n q c p b h l) ∙ both (eqb q p) (eqb c b));
  past = λ k m. get_or-set_other before (q * n + c) k _ (pos 0) (λ e. omega (arith, room q 64 n g));
}
  where
    both : (s t : Bool) → only (s && t) z ≡ only t (only s z)
    both true true = refl
    both true false = refl
    both false true = refl
    both false false = refl

-- ---- one addition after the other

module _ {n : ℕ} where
  pub added_none : {table : List ℤ} (f : ℕ → ℕ → ℤ) → ((p b : ℕ) → f p b ≡ pos 0) → AddedCells n f table table
  added_none {table} f h = record { same = refl; each = λ p b _ _. sym (ap (λ (z : ℤ). cell n table p b +ℤ z) (h p b) ∙ +ℤ_idr (cell n table p b)); past = λ k m. refl }

  pub added_then : {f g : ℕ → ℕ → ℤ} {before table after : List ℤ} (h : ℕ → ℕ → ℤ) → AddedCells n f before table → AddedCells n g table after
      → ((p b : ℕ) → p < 64 → b < n → f p b +ℤ g p b ≡ h p b) → AddedCells n h before after
  added_then {f} {g} {before} h x y e = record {
    same = y.same ∙ x.same;
    each = λ p b u l.
        y.each p b u l ∙ ap (λ (z : ℤ). z +ℤ g p b) (x.each p b u l) ∙ +ℤ_assoc (cell n before p b) (f p b) (g p b)
        ∙ ap (λ (z : ℤ). cell n before p b +ℤ z) (e p b u l);
    past = λ k m. y.past k m ∙ x.past k m;
  }

  pub added-same : {f : ℕ → ℕ → ℤ} {before after : List ℤ} (h : ℕ → ℕ → ℤ) → AddedCells n f before after → ((p b : ℕ) → p < 64 → b < n → f p b ≡ h p b) → AddedCells n h before after
  added-same {f} {before} h x e = record { same = x.same; each = λ p b u l. x.each p b u l ∙ ap (λ (z : ℤ). cell n before p b +ℤ z) (e p b u l); past = x.past }

  -- it leaves one list
  pub added-unique : {f : ℕ → ℕ → ℤ} {before after other : List ℤ} → AddedCells n f before after → AddedCells n f before other → after ≡ other
  added-unique {f} {before} {after} {other} x y = ext_get_or (pos 0) after other (x.same ∙ sym y.same) (λ k _. by k (dec_lt k (64 * n)))
    where
      by : (k : ℕ) → Dec (k < 64 * n) → after at k ≡ other at k
      by k (yes l) =
          let some : 1 ≤ n = omega arith in
          let place = div-add-mod' k n in
          let row = (div-lt_iff_lt-mul some).1 l in
          ap (λ (i : ℕ). after at i) (sym place) ∙ x.each (k / n) (k % n) row (mod-lt k some) ∙ sym (y.each (k / n) (k % n) row (mod-lt k some)) ∙ ap (λ (i : ℕ). other at i) place
      by k (no l) = x.past k (omega arith) ∙ sym (y.past k (omega arith))

  -- a bound on what was there and on what is added
  pub added-cells : {f : ℕ → ℕ → ℤ} {before after : List ℤ} {k m : ℕ} (most : ℕ) → AddedCells n f before after → Cells n before k → ((p b : ℕ) → p < 64 → b < n → Within (f p b) m) → k + m ≤ most → Cells n after most
  added-cells most x c w h = record { each = λ p b u l. subst (λ (z : ℤ). Within z most) (sym (x.each p b u l)) (w-up (w-add (c.each p b u l) (w p b u l)) h) }

-- ---- there is room along a row and in a column

-- each of 64 rows lies within the table
pub rows_fit : (n q c : ℕ) → q < 64 → c < n → q * n + c < 64 * n
rows_fit n q c h l = omega (arith, room q 64 n h)

module _ {table parts : List ℤ} (n : ℕ) (few : n ≤ 64) (cells : Cells n table 1000000000000) where
  pub row_room : (q : ℕ) → q < 64 → q * n + n ≤ length table → n ≤ length parts → FrontWithin parts n 1000000000000 → Room table (λ i. q * n + i) parts n
  row_room q h fits there small = record {
    few = few;
    given = there;
    within = λ i l. omega arith;
    before = λ i l. cells.each q i h l;
    small = small;
  }

  pub column-room : (c : ℕ) → c < n → length table ≡ 64 * n → (row : ℕ → ℕ) (m : ℕ) → m ≤ 64 → ((j : ℕ) → j < m → row j < 64) → m ≤ length parts → FrontWithin parts m 1000000000000 → Room table (λ j. row j * n + c) parts m
  column-room c h long row m most named there small = record {
    few = most;
    given = there;
    within = λ j l. omega (arith, rows_fit n (row j) c (named j l) h);
    before = λ j l. cells.each (row j) c (named j l) h;
    small = small;
  }

-- ---- zeros

module _ {table : List ℤ} (m : ℕ) (zeros : table ≡ replicate m (pos 0)) where
  none-at : (i : ℕ) → table at i ≡ pos 0
  none-at i = ap (λ (list : List ℤ). list at i) zeros ∙ zero-at m i

  pub zero-cells : (n : ℕ) → Cells n table 0
  zero-cells n = record { each = λ p b _ _. subst (λ (z : ℤ). Within z 0) (sym (none-at (p * n + b))) (w-lit tt) }

  -- what was added to them
  pub added-zeros : {n : ℕ} {f : ℕ → ℕ → ℤ} {after : List ℤ} → AddedCells n f table after → (p b : ℕ) → p < 64 → b < n → cell n after p b ≡ f p b
  added-zeros {n} {f} x p b u l = x.each p b u l ∙ ap (λ (z : ℤ). z +ℤ f p b) (none-at (p * n + b)) ∙ +ℤ_idl (f p b)

-- a list that was cleared
pub cleared : (n : ℕ) → tab (λ _. pos 0) n ≡ replicate n (pos 0)
cleared n =
    ext_get_or (pos 0) (tab (λ _. pos 0) n) (replicate n (pos 0)) (length-tab (λ _. pos 0) n ∙ sym (length-replicate n (pos 0)))
    (λ i l. get_or-tab (λ _. pos 0) (pos 0) n i (omega (arith, length-tab (λ (_ : ℕ). pos 0) n)) ∙ sym (zero-at n i))
