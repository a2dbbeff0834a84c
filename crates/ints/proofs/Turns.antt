-- Laws of orders of refusals one after the other, of tests in turn, and of answers. Assumes nothing.
use mathlib.Core.Path.{◌≡◌, refl, sym, ap, ap₂, ◌∙◌}
use mathlib.Core.Logic.{⊎_elim}
use mathlib.Core.Bool.{Bool, true, false}
use mathlib.Core.List.{List, [], ◌∷◌, ◌++◌}
use Prim.Native.Nat.{ℕ, zero, suc, ◌+◌, ◌≤◌, ◌<◌}
use native.Mathlib.Nat.{eq-or-lt_of_le, le_of_suc-le-suc, not-suc-le-zero}
use native.Mathlib.Numerals.{add-one, unary_clauses}
use native.Mathlib.Omega.{arith}
use lib.Dec.{eqb}
use lib.ListN.{length}
use borrow.Author.Tests.{eq-eqb, ne_eqb, eqb-true, eqb-false}
use Rattle.ints.specs.Each.{Every}
use Rattle.ints.specs.Refusal.{pick}
use Rattle.ints.specs.Table.{tab}
use Rattle.ints.specs.Turn.{◌then◌, in_turn, in_order}
use Rattle.ints.proofs.Tables.{length-tab}

-- ---- two orders

module _ (earlier later : ℕ) where
  pub then-later : earlier ≡ 0 → (earlier then later) ≡ later
  then-later e = ap (λ (b : Bool). pick b later earlier) (eq-eqb earlier 0 e)

  pub then-earlier : (earlier ≡ 0 → ⊥) → (earlier then later) ≡ earlier
  then-earlier some = ap (λ (b : Bool). pick b later earlier) (ne_eqb earlier 0 some)

  -- the answer r of a call that goes by the earlier order: it ends there, or the later order follows
  pub then-ends : (r : ℕ) → (r ≡ 0 → ⊥) → r ≡ earlier → r ≡ (earlier then later)
  then-ends r some e = e ∙ sym (then-earlier (λ z. some (e ∙ z)))

  pub then-follows : (r : ℕ) → r ≡ 0 → r ≡ earlier → later ≡ (earlier then later)
  then-follows r z e = sym (then-later (sym e ∙ z))

  -- no refusal of the two together: none of either
  pub then-none : (earlier then later) ≡ 0 → (earlier ≡ 0) × (later ≡ 0)
  then-none e = by (eqb earlier 0) refl
    where
      by : (b : Bool) → eqb earlier 0 ≡ b → (earlier ≡ 0) × (later ≡ 0)
      by true t = (eqb-true earlier 0 t, sym (ap (λ (b : Bool). pick b later earlier) t) ∙ e)
      by false t = absurd (eqb-false earlier 0 t (sym (ap (λ (b : Bool). pick b later earlier) t) ∙ e))

-- what follows an order counts only where that gives no refusal
pub then-under : (a x y : ℕ) → (a ≡ 0 → x ≡ y) → (a then x) ≡ (a then y)
then-under a x y h = by (eqb a 0) refl
  where
    by : (t : Bool) → eqb a 0 ≡ t → pick t x a ≡ pick t y a
    by true e = h (eqb-true a 0 e)
    by false e = refl

-- ---- in turn

module _ (f : ℕ → ℕ) where
  pub turn-start : in_turn f 0 ≡ 0
  unfolding in_turn
  turn-start = refl

  pub turn-next : (i : ℕ) → in_turn f i ≡ 0 → f i ≡ 0 → in_turn f (i + 1) ≡ 0
  unfolding in_turn
  turn-next i e g = ap (in_turn f) (add-one i) ∙ then-later (in_turn f i) (f i) e ∙ g

  -- the first refusal is that of all
  pub turn-first : (i n : ℕ) → i < n → in_turn f i ≡ 0 → (f i ≡ 0 → ⊥) → in_turn f n ≡ f i
  unfolding in_turn
  turn-first i zero h e some = absurd (not-suc-le-zero h)
  turn-first i (suc n) h e some =
      ⊎_elim
      (λ q. ap (λ (k : ℕ). in_turn f k then f k) (sym q) ∙ then-later (in_turn f i) (f i) e)
      (λ l. let g : in_turn f n ≡ f i = turn-first i n l e some in then-earlier (in_turn f n) (f n) (λ z. some (sym g ∙ z)) ∙ g)
      (eq-or-lt_of_le (le_of_suc-le-suc h))

  -- no refusal in turn: none of any
  pub turn-none : (n : ℕ) → in_turn f n ≡ 0 → (i : ℕ) → i < n → f i ≡ 0
  unfolding in_turn
  turn-none zero e i h = absurd (not-suc-le-zero h)
  turn-none (suc n) e i h =
      let both = then-none (in_turn f n) (f n) e in
      ⊎_elim (λ q. ap f q ∙ both.1) (λ l. turn-none n both.0 i l) (eq-or-lt_of_le (le_of_suc-le-suc h))

-- equal refusals
pub turn-ext : (f g : ℕ → ℕ) (n : ℕ) → ((i : ℕ) → i < n → f i ≡ g i) → in_turn f n ≡ in_turn g n
unfolding in_turn
turn-ext f g zero h = refl
turn-ext f g (suc n) h = ap₂ (λ (a b : ℕ). a then b) (turn-ext f g n (λ i l. h i (omega arith))) (h n (omega arith))

-- ---- in order, over a list

pub then-nothing : (a : ℕ) → (a then 0) ≡ a
then-nothing a = by (eqb a 0) refl
  where
    by : (b : Bool) → eqb a 0 ≡ b → pick b 0 a ≡ a
    by true e = sym (eqb-true a 0 e)
    by false e = refl

pub then-assoc : (a b c : ℕ) → (a then b then c) ≡ ((a then b) then c)
then-assoc a b c = by (eqb a 0) refl
  where
    by : (t : Bool) → eqb a 0 ≡ t → pick t (b then c) a ≡ (pick t b a then c)
    by true e = refl
    by false e = sym (then-earlier a c (eqb-false a 0 e))

-- two runs, one behind the other
pub turn-parts : (f : ℕ → ℕ) (m n : ℕ) → in_turn f (m + n) ≡ (in_turn f m then in_turn (λ i. f (m + i)) n)
unfolding in_turn
turn-parts f m zero = simp unary_clauses (sym (then-nothing (in_turn f m)))
turn-parts f m (suc n) = simp unary_clauses (ap (λ (r : ℕ). r then f (m + n)) (turn-parts f m n) ∙ sym (then-assoc (in_turn f m) (in_turn (λ i. f (m + i)) n) (f (m + n))))

module _ {A : Type 0} (f : ℕ → A → ℕ) where
  order-last : (i : ℕ) (xs : List A) (x : A) → in_order f i (xs ++ (x ∷ [])) ≡ (in_order f i xs then f (i + length xs) x)
  unfolding in_order
  order-last i [] x = let here : i ≡ i + 0 = omega arith in then-nothing (f i x) ∙ ap (λ (k : ℕ). f k x) here
  order-last i (y ∷ ys) x =
      let here : suc i + length ys ≡ i + suc (length ys) = omega arith in
      ap (λ (z : ℕ). f i y then z) (order-last (suc i) ys x ∙ ap (λ (k : ℕ). in_order f (suc i) ys then f k x) here)
      ∙ then-assoc (f i y) (in_order f (suc i) ys) (f (i + suc (length ys)) x)

  -- equal refusals of each
  pub order-ext : (g : ℕ → A → ℕ) (i : ℕ) (xs : List A) → ((k : ℕ) (x : A) → i ≤ k → k < i + length xs → f k x ≡ g k x) → in_order f i xs ≡ in_order g i xs
  unfolding in_order
  order-ext g i [] h = refl
  order-ext g i (x ∷ xs) h = ap₂ (λ (a b : ℕ). a then b) (h i x (omega arith) (omega arith)) (order-ext g (suc i) xs (λ k y l m. h k y (omega arith) (omega arith)))

  -- no refusal: none of any
  pub order-none : (P : A → Type 0) → ((k : ℕ) (x : A) → f k x ≡ 0 → P x) → (i : ℕ) (xs : List A) → in_order f i xs ≡ 0 → Every P xs
  unfolding in_order
  order-none P g i [] e = tt
  order-none P g i (x ∷ xs) e = let both = then-none (f i x) (in_order f (suc i) xs) e in (g i x both.0, order-none P g (suc i) xs both.1)

  -- a list by a rule, in order, is the rule in turn
  pub order-tab : (g : ℕ → A) (n : ℕ) → in_order f 0 (tab g n) ≡ in_turn (λ k. f k (g k)) n
  unfolding in_order in_turn tab
  order-tab g zero = refl
  order-tab g (suc n) =
      let here : 0 + length (tab g n) ≡ n = omega (arith, length-tab g n) in
      order-last 0 (tab g n) (g n) ∙ ap₂ (λ (a k : ℕ). a then f k (g n)) (order-tab g n) here

-- ---- answers: a thing that was read, or its refusal, in a type that has a case for either

abbrev pub answer : {X D : Type 0} → (X → D) → (ℕ → D) → ℕ → X → D
answer accepted refused refusal x = pick (eqb refusal 0) (accepted x) (refused refusal)

module _ {X D : Type 0} (accepted : X → D) (refused : ℕ → D) (refusal : ℕ) (x : X) where
  pub answer-refused : (r : ℕ) → (r ≡ 0 → ⊥) → r ≡ refusal → refused r ≡ answer accepted refused refusal x
  answer-refused r some e = ap refused e ∙ sym (ap (λ (b : Bool). pick b (accepted x) (refused refusal)) (ne_eqb refusal 0 (λ z. some (e ∙ z))))

  pub answer-accepted : (y : X) → refusal ≡ 0 → y ≡ x → accepted y ≡ answer accepted refused refusal x
  answer-accepted y e q = ap accepted q ∙ sym (ap (λ (b : Bool). pick b (accepted x) (refused refusal)) (eq-eqb refusal 0 e))

-- answers in turn: of a type with a number for each case, 0 for what is accepted
module _ {X D : Type 0} (accepted : X → D) (refused : ℕ → D) (number : D → ℕ) where
  module _ (no : (x : X) → number (accepted x) ≡ 0) (own : (r : ℕ) → number (refused r) ≡ r) where
    pub answer-number : (refusal : ℕ) (x : X) → number (answer accepted refused refusal x) ≡ refusal
    answer-number refusal x = by (eqb refusal 0) refl
      where
        by : (t : Bool) → eqb refusal 0 ≡ t → number (pick t (accepted x) (refused refusal)) ≡ refusal
        by true t = no x ∙ sym (eqb-true refusal 0 t)
        by false t = own refusal

    module _ (f : ℕ → ℕ) (things : ℕ → X) (i : ℕ) (before : in_turn f i ≡ 0) (d : D) (e : d ≡ answer accepted refused (f i) (things i)) where
      -- an accepted thing
      pub answer-next : (x : X) → d ≡ accepted x → in_turn f (i + 1) ≡ 0
      answer-next x q = turn-next f i before (sym (answer-number (f i) (things i)) ∙ ap number (sym e ∙ q) ∙ no x)

      -- a refused thing: its number is not 0, and the first one's is that of all
      module _ (apart : (x : X) (r : ℕ) → accepted x ≡ refused r → ⊥) (r : ℕ) (q : d ≡ refused r) where
        own-number : number d ≡ f i
        own-number = ap number e ∙ answer-number (f i) (things i)

        some : f i ≡ 0 → ⊥
        some z = apart (things i) r (answer-accepted accepted refused (f i) (things i) (things i) z refl ∙ sym e ∙ q)

        pub answer-some : number d ≡ 0 → ⊥
        answer-some z = some (sym own-number ∙ z)

        pub answer-first : (n : ℕ) → i < n → number d ≡ in_turn f n
        answer-first n h = own-number ∙ sym (turn-first f i n h before some)

-- what an answer is, where it is accepted: the thing, which has no refusal
pub answer-taken : {X D : Type 0} (accepted : X → D) (refused : ℕ → D) → ((x y : X) → accepted x ≡ accepted y → x ≡ y) → ((x : X) (r : ℕ) → accepted x ≡ refused r → ⊥)
    → (refusal : ℕ) (x y : X) → answer accepted refused refusal x ≡ accepted y → (refusal ≡ 0) × (x ≡ y)
answer-taken {X} accepted refused inside apart refusal x y = by (eqb refusal 0) refl
  where
    by : (t : Bool) → eqb refusal 0 ≡ t → pick t (accepted x) (refused refusal) ≡ accepted y → (refusal ≡ 0) × (x ≡ y)
    by true t e = (eqb-true refusal 0 t, inside x y e)
    by false t e = absurd (apart y refusal (sym e))
