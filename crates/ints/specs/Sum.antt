-- Sums and counts, over 0 .. n - 1 and over a list. Assumes nothing.
use Rattle.std.specs.Prelude.{Bool, true, false, List, [], ◌∷◌, ℕ, zero, suc, ◌+◌, ℤ, pos, ◌+ℤ◌, length}
use Rattle.ints.specs.Table.{◌at◌}

-- f 0 + .. + f (n - 1)
unfoldable pub sum_to : (ℕ → ℤ) → ℕ → ℤ
sum_to f zero = pos 0
sum_to f (suc n) = sum_to f n +ℤ f n

-- the sum of a list's numbers
abbrev pub sum : List ℤ → ℤ
sum list = sum_to (λ i. list at i) (length list)

-- f 0 + .. + f (n - 1) of naturals
unfoldable pub sum_nat : (ℕ → ℕ) → ℕ → ℕ
sum_nat f zero = 0
sum_nat f (suc n) = sum_nat f n + f n

-- the sum of f x over the x of a list
unfoldable pub Σℤ : {A : Type 0} → (A → ℤ) → List A → ℤ
Σℤ f [] = pos 0
Σℤ f (x ∷ xs) = f x +ℤ Σℤ f xs

-- z where the test holds, else 0
abbrev pub only : Bool → ℤ → ℤ
only true z = z
only false z = pos 0

-- 1 where the test holds, else 0
abbrev pub one : Bool → ℕ
one true = 1
one false = 0

-- how many of 0 .. n - 1 pass the test
abbrev pub count : (ℕ → Bool) → ℕ → ℕ
count t n = sum_nat (λ i. one (t i)) n
