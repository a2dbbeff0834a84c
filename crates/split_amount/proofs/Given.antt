-- An amount and shares that the order accepts, as the parts are filled from them. Assumes nothing.
use mathlib.Core.Path.{◌≡◌, ◌∙◌}
use mathlib.Core.Logic.{inl, inr, ⊎_elim}
use mathlib.Core.List.{List}
use Prim.Native.Nat.{ℕ}
use native.Mathlib.Omega.{arith}
use lib.IntN.{ℤ, nat_abs}
use Rattle.split.specs.Split.{total, split_refusal}
use Rattle.split.proofs.Accepted.{accepted}
use Rattle.split_parts.specs.Inside.{SizeGiven}

pub size-given : (amount : ℤ) (shares : List ℤ) (n t size : ℕ) → split_refusal amount shares n ≡ 0 → t ≡ total shares → size ≡ nat_abs amount → SizeGiven size shares t
size-given amount shares n t size e is f =
    let a = accepted amount shares n e in
    record {
      tested = a.tested;
      small = omega (arith, a.size);
      is = is;
      some = ⊎_elim (λ l. inl (omega (arith, is))) (λ z. inr (f ∙ z)) a.some;
    }
