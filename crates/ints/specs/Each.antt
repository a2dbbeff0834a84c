-- A test of each of 0 .. n - 1, and what holds of each element of a list. Assumes nothing.
use Rattle.std.specs.Prelude.{Bool, true, ◌&&◌, List, [], ◌∷◌, ℕ, zero, suc}

-- every one of 0 .. n - 1 passes the test
unfoldable pub all_to : (ℕ → Bool) → ℕ → Bool
all_to t zero = true
all_to t (suc n) = all_to t n && t n

-- P holds of each element
abbrev pub Every : {A : Type 0} → (A → Type 0) → List A → Type 0
Every P [] = Unit {0}
Every P (x ∷ xs) = P x × Every P xs
