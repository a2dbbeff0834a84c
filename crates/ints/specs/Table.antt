-- Lists of numbers: read at a place, made by a rule, tested one by one. Assumes nothing.
use Rattle.std.specs.Prelude.{Bool, true, ◌&&◌, List, [], ◌∷◌, ◌++◌, ℕ, zero, suc, ℤ, pos, get_or}

-- the number at i, 0 past the end
infixl 70 ◌at◌
abbrev pub ◌at◌ : List ℤ → ℕ → ℤ
xs at i = get_or xs i (pos 0)

-- the list f 0, .., f (n - 1)
unfoldable pub tab : {A : Type 0} → (ℕ → A) → ℕ → List A
tab f zero = []
tab f (suc n) = tab f n ++ (f n ∷ [])

-- every element passes the test
unfoldable pub all : {A : Type 0} → (A → Bool) → List A → Bool
all t [] = true
all t (x ∷ xs) = t x && all t xs
