-- The order of refusals of an hour, as the code goes through it. Assumes nothing.
use mathlib.Core.Path.{◌≡◌, refl, sym, ap, ◌∙◌}
use mathlib.Core.Bool.{Bool, true, false, ◌&&◌}
use mathlib.Core.List.{List, [], ◌∷◌}
use Prim.Native.Nat.{ℕ}
use native.Mathlib.Omega.{arith}
use lib.Dec.{eqb}
use borrow.Author.Tests.{eq-eqb, eqb-true}
use Rattle.ints.specs.Refusal.{unless}
use Rattle.ints.specs.Table.{all}
use Rattle.ints.proofs.Turns.{then-ends, then-later}
use Rattle.hour.specs.Order.{outputs_refusal}
use Rattle.exercise.specs.File.{hour_of}
use Rattle.exercise.specs.Order.{frame_refusal, settled_refusal, hour_refusal}

-- ---- the output lists

module _ (n : ℕ) where
  -- a list that is long enough, where the others aren't all; and one that isn't
  lists-wrong : (x : ℕ) (xs : List ℕ) → (x ≡ n → outputs_refusal n xs ≡ 1) → outputs_refusal n (x ∷ xs) ≡ 1
  unfolding all
  lists-wrong x xs h = by (eqb x n) refl
    where
      by : (b : Bool) → eqb x n ≡ b → unless (b && all (λ x. eqb x n) xs) 1 0 ≡ 1
      by true e = h (eqb-true x n e)
      by false e = refl

  lists-right : (x : ℕ) (xs : List ℕ) → x ≡ n → outputs_refusal n xs ≡ 0 → outputs_refusal n (x ∷ xs) ≡ 0
  unfolding all
  lists-right x xs e h = ap (λ (b : Bool). unless (b && all (λ x. eqb x n) xs) 1 0) (eq-eqb x n e) ∙ h

  list-each : (x : ℕ) (xs : List ℕ) → outputs_refusal n (x ∷ xs) ≡ 0 → (x ≡ n) × (outputs_refusal n xs ≡ 0)
  unfolding all
  list-each x xs = by (eqb x n) refl
    where
      by : (b : Bool) → eqb x n ≡ b → unless (b && all (λ x. eqb x n) xs) 1 0 ≡ 0 → (x ≡ n) × (outputs_refusal n xs ≡ 0)
      by true e h = (eqb-true x n e, h)
      by false e h = absurd (omega (arith, h))

  none_right : outputs_refusal n [] ≡ 0
  unfolding all
  none_right = refl

-- of an hour's four
abbrev pub four : ℕ → ℕ → ℕ → ℕ → List ℕ
four congestion loss credit net = congestion ∷ loss ∷ credit ∷ net ∷ []

module _ (n congestion loss credit net : ℕ) where
  pub outputs-wrong : ((congestion ≡ n) × (loss ≡ n) × (credit ≡ n) × (net ≡ n) → ⊥) → outputs_refusal n (four congestion loss credit net) ≡ 1
  outputs-wrong some =
      lists-wrong n congestion _ (λ a. lists-wrong n loss _ (λ b. lists-wrong n credit _ (λ c. lists-wrong n net _ (λ d. absurd (some (a, b, c, d))))))

  pub outputs-right : congestion ≡ n → loss ≡ n → credit ≡ n → net ≡ n → outputs_refusal n (four congestion loss credit net) ≡ 0
  outputs-right a b c d = lists-right n congestion _ a (lists-right n loss _ b (lists-right n credit _ c (lists-right n net _ d (none_right n))))

  pub outputs-each : outputs_refusal n (four congestion loss credit net) ≡ 0 → (congestion ≡ n) × (loss ≡ n) × (credit ≡ n) × (net ≡ n)
  outputs-each e =
      let a = list-each n congestion _ e in
      let b = list-each n loss _ a.1 in
      let c = list-each n credit _ b.1 in
      (a.0, b.0, c.0, (list-each n net [] c.1).0)

-- ---- the order

module _ (counted : ℕ → ℕ) (file : List ℕ) (congestion loss credit net : ℕ) where
  -- it ends before the output lists
  pub ends-early : (r : ℕ) → (r ≡ 0 → ⊥) → r ≡ frame_refusal file → r ≡ hour_refusal counted file (four congestion loss credit net)
  unfolding hour_refusal
  ends-early r some e = then-ends _ _ r some e

  module _ (passes : frame_refusal file ≡ 0) where
    -- how long each list has to be
    abbrev n : ℕ
    n = counted (hour_of file).participants

    -- it ends at them
    pub ends_there : ((congestion ≡ n) × (loss ≡ n) × (credit ≡ n) × (net ≡ n) → ⊥) → 1 ≡ hour_refusal counted file (four congestion loss credit net)
    unfolding hour_refusal
    ends_there some = then-ends _ _ 1 one (sym (outputs-wrong n congestion loss credit net some)) ∙ sym (then-later _ _ passes)
      where
        one : ◌≡◌ {A = ℕ} 1 0 → ⊥
        one e = omega arith

    -- or goes on
    pub goes_on : congestion ≡ n → loss ≡ n → credit ≡ n → net ≡ n → settled_refusal file ≡ hour_refusal counted file (four congestion loss credit net)
    unfolding hour_refusal
    goes_on a b c d = sym (then-later _ _ passes ∙ then-later _ _ (outputs-right n congestion loss credit net a b c d))
