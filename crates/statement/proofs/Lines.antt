-- Lines and their fields. Assumes nothing.
use mathlib.Core.Path.{◌≡◌, refl, sym, ap, ap₂, ◌∙◌}
use mathlib.Core.List.{List, [], ◌++◌}
use Prim.Native.Nat.{ℕ, ◌+◌}
use native.Mathlib.Numerals.{add-one}
use lib.IntN.{ℤ}
use Rattle.statement.specs.Statement.{joined, amount_fields}

pub same-amounts : {a b c d x y z t : ℤ} → a ≡ x → b ≡ y → c ≡ z → d ≡ t → amount_fields a b c d ≡ amount_fields x y z t
same-amounts {c = c} {d = d} {x = x} {y = y} e f g h = ap₂ (λ (p q : ℤ). amount_fields p q c d) e f ∙ ap₂ (amount_fields x y) g h

-- one line more
module _ (f : ℕ → List ℕ) where
  pub joined-none : [] ≡ joined f 0
  unfolding joined
  joined-none = refl

  pub joined-next : (n : ℕ) → joined f n ++ f n ≡ joined f (n + 1)
  unfolding joined
  joined-next n = ap (joined f) (sym (add-one n))
