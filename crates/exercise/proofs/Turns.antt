-- Things as numbers, so many each, one thing after the other. Assumes nothing.
use mathlib.Core.Path.{◌≡◌, refl, sym, ap, ap₂, ◌∙◌}
use mathlib.Core.Logic.{⊎_elim}
use mathlib.Core.List.{List, [], ◌∷◌, ◌++◌, append_assoc, append-nil}
use Prim.Native.Nat.{ℕ, zero, suc, ◌+◌, ◌*◌, ◌<◌}
use native.Mathlib.Nat.{mul-suc, eq-or-lt_of_le, le_of_suc-le-suc, not-suc-le-zero}
use native.Mathlib.Omega.{arith}
use lib.IntN.{ℤ, pos}
use lib.ListN.{length, length-append, get_or-append}
use lib.Seq.{get_or-append-add}
use Rattle.ints.specs.Each.{Every}
use Rattle.ints.specs.Table.{◌at◌, tab}
use Rattle.ints.proofs.Gather.{every_append}
use Rattle.ints.proofs.Tables.{length-tab, tab-parts, tab-none}
use Rattle.exercise.specs.Lists.{in_turns}
use Rattle.exercise.proofs.Runs.{in-turn}

module _ {A : Type 0} (f : A → List ℤ) where
  turns-append : (xs ys : List A) → in_turns f (xs ++ ys) ≡ in_turns f xs ++ in_turns f ys
  unfolding in_turns
  turns-append [] ys = refl
  turns-append (x ∷ xs) ys = ap (λ (t : List ℤ). f x ++ t) (turns-append xs ys) ∙ sym (append_assoc (f x) (in_turns f xs) (in_turns f ys))

  turns-one : (x : A) → in_turns f (x ∷ []) ≡ f x
  unfolding in_turns
  turns-one x = append-nil (f x)

  pub turns-last : (g : ℕ → A) (n : ℕ) → in_turns f (tab g (suc n)) ≡ in_turns f (tab g n) ++ f (g n)
  unfolding tab
  turns-last g n = turns-append (tab g n) (g n ∷ []) ∙ ap (λ (t : List ℤ). in_turns f (tab g n) ++ t) (turns-one (g n))

  pub turns-none : (g : ℕ → A) → in_turns f (tab g 0) ≡ []
  unfolding tab in_turns
  turns-none g = refl

  -- numbers that are told place by place
  pub turns-tab : (size : ℕ) (g : ℕ → A) (h : ℕ → ℤ) (n : ℕ) → ((i : ℕ) → i < n → f (g i) ≡ tab (λ j. h (size * i + j)) size) → in_turns f (tab g n) ≡ tab h (size * n)
  turns-tab size g h zero e = let k : 0 ≡ size * 0 = omega arith in turns-none g ∙ tab-none h ∙ ap (tab h) k
  turns-tab size g h (suc n) e =
      turns-last g n ∙ ap₂ ◌++◌ (turns-tab size g h n (λ i l. e i (omega arith))) (e n (omega arith)) ∙ sym (tab-parts h (size * n) size) ∙ ap (tab h) (omega (arith, mul-suc size n))

  -- what holds of each number of each thing holds of all numbers
  pub turns-every : (P : ℤ → Type 0) (xs : List A) → Every (λ x. Every P (f x)) xs → Every P (in_turns f xs)
  unfolding in_turns
  turns-every P [] e = tt
  turns-every P (x ∷ xs) e = every_append P (f x) (in_turns f xs) e.0 (turns-every P xs e.1)

  module _ (size : ℕ) (each : (x : A) → length (f x) ≡ size) where
    pub turns-length : (xs : List A) → length (in_turns f xs) ≡ size * length xs
    unfolding in_turns
    turns-length [] = omega arith
    turns-length (x ∷ xs) = omega (arith, length-append (f x) (in_turns f xs), each x, turns-length xs, mul-suc size (length xs))

    -- number j of thing i
    pub turns_at : (g : ℕ → A) (n i j : ℕ) → i < n → j < size → in_turns f (tab g n) at (size * i + j) ≡ f (g i) at j
    turns_at g zero i j l m = absurd (not-suc-le-zero l)
    turns_at g (suc n) i j l m =
        ap (λ (t : List ℤ). t at (size * i + j)) (turns-last g n)
        ∙ ⊎_elim
        (λ e. let k : size * i + j ≡ length (in_turns f (tab g n)) + j = omega (arith, long, ap (λ (k : ℕ). size * k) e) in
        ap (λ (p : ℕ). (in_turns f (tab g n) ++ f (g n)) at p) k ∙ get_or-append-add (in_turns f (tab g n)) (f (g n)) j (pos 0) ∙ ap (λ (p : ℕ). f (g p) at j) (sym e))
        (λ u. get_or-append (in_turns f (tab g n)) (f (g n)) (pos 0) (size * i + j) (omega (arith, long, in-turn size i n u)) ∙ turns_at g n i j u m)
        (eq-or-lt_of_le (le_of_suc-le-suc l))
      where
        long : length (in_turns f (tab g n)) ≡ size * n
        long = turns-length (tab g n) ∙ ap (λ (k : ℕ). size * k) (length-tab g n)
