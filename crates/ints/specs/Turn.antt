-- Orders of refusals one after the other, and tests in turn. A refusal is a number, and 0 is none. Assumes nothing.
use Rattle.std.specs.Prelude.{List, [], ◌∷◌, ℕ, zero, suc, eqb}
use Rattle.ints.specs.Refusal.{pick}

-- the earlier order's refusal, and where it gives none the later one's
infixr 50 ◌then◌
abbrev pub ◌then◌ : ℕ → ℕ → ℕ
earlier then later = pick (eqb earlier 0) later earlier

-- the refusals f 0 .. f (n - 1) in turn: the first that is one
unfoldable pub in_turn : (ℕ → ℕ) → ℕ → ℕ
in_turn f zero = 0
in_turn f (suc n) = in_turn f n then f n

-- those of a list's elements in turn: the first that is one. f is given an element's place, counted from i, and the element
unfoldable pub in_order : {A : Type 0} → (ℕ → A → ℕ) → ℕ → List A → ℕ
in_order f i [] = 0
in_order f i (x ∷ xs) = f i x then in_order f (suc i) xs
