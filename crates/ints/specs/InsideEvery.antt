-- Lists of things: the chosen ones, and what those of one owner come to, as proofs hand them on. Assumes nothing.
use Rattle.std.specs.Prelude.{◌≡◌, Bool, List, [], ◌∷◌, ℕ, eqb, ℤ, ◌+ℤ◌}
use Rattle.ints.specs.Refusal.{pick}
use Rattle.ints.specs.Sum.{Σℤ, only}
use Rattle.ints.specs.Table.{◌at◌}

-- the elements that pass the test
unfoldable pub keep : {A : Type 0} → (A → Bool) → List A → List A
keep t [] = []
keep t (x ∷ xs) = pick (t x) (x ∷ keep t xs) (keep t xs)

-- what a thing that has one owner adds to p's total
abbrev pub to_owner : {A : Type 0} → (A → ℕ) → (A → ℤ) → A → ℕ → ℤ
to_owner owner f x p = only (eqb (owner x) p) (f x)

-- what the things of owner p come to
unfoldable pub owed : {A : Type 0} → (A → ℕ) → (A → ℤ) → List A → ℕ → ℤ
owed owner f xs p = Σℤ (λ x. to_owner owner f x p) xs

-- every total with what things add to it: x adds `adds x p` to p's
pub record Added {A : Type 0} (adds : A → ℕ → ℤ) (xs : List A) (before after : List ℤ) : Type 0 where
  pub each : (p : ℕ) → after at p ≡ before at p +ℤ Σℤ (λ x. adds x p) xs
