-- Even kinds withdraw, odd kinds inject. Assumes nothing.
use mathlib.Core.Path.{◌≡◌, refl, sym, ap, ◌∙◌}
use mathlib.Core.Bool.{Bool, true, false}
use Prim.Native.Nat.{ℕ, zero, suc, ◌%◌, ◌<◌}
use native.Mathlib.Nat.{one-mul}
use native.Mathlib.Omega.{arith}
use lib.IntN.{pos, neg_ℤ, ◌*ℤ◌}
use Rattle.ints.specs.InsideRange.{Within}
use Rattle.ints.proofs.Sizes.{w-lit}
use Rattle.hour.specs.Hour.{withdraws}
use Rattle.hour.specs.InsideParts.{sign}

even : (kind : ℕ) → kind < 6 → kind % 2 ≡ 0 → withdraws kind ≡ true
even zero h e = refl
even (suc zero) h e = absurd (omega arith)
even (suc (suc zero)) h e = refl
even (suc (suc (suc zero))) h e = absurd (omega arith)
even (suc (suc (suc (suc zero)))) h e = refl
even (suc (suc (suc (suc (suc zero))))) h e = absurd (omega arith)
even (suc (suc (suc (suc (suc (suc n)))))) h e = absurd (omega arith)

odd : (kind : ℕ) → kind < 6 → (kind % 2 ≡ 0 → ⊥) → withdraws kind ≡ false
odd zero h e = absurd (e refl)
odd (suc zero) h e = refl
odd (suc (suc zero)) h e = absurd (e refl)
odd (suc (suc (suc zero))) h e = refl
odd (suc (suc (suc (suc zero)))) h e = absurd (e refl)
odd (suc (suc (suc (suc (suc zero))))) h e = refl
odd (suc (suc (suc (suc (suc (suc n)))))) h e = absurd (omega arith)

-- kW with the sign of what is withdrawn less what is injected
module _ (kind n : ℕ) (h : kind < 6) where
  pub withdrawn : kind % 2 ≡ 0 → pos n ≡ sign (withdraws kind) *ℤ pos n
  withdrawn e = ap pos (sym (one-mul n)) ∙ ap (λ (b : Bool). sign b *ℤ pos n) (sym (even kind h e))

  pub injected : (kind % 2 ≡ 0 → ⊥) → neg_ℤ (pos n) ≡ sign (withdraws kind) *ℤ pos n
  injected e = ap (λ (m : ℕ). neg_ℤ (pos m)) (sym (one-mul n)) ∙ ap (λ (b : Bool). sign b *ℤ pos n) (sym (odd kind h e))

pub sign-within : (b : Bool) → Within (sign b) 1
sign-within true = w-lit tt
sign-within false = w-lit tt
