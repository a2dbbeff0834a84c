-- Laws of packed bytes. Assumes nothing.
use mathlib.Core.Path.{◌≡◌, ap}
use mathlib.Core.List.{List}
use Prim.Native.Nat.{ℕ, zero, suc, ◌+◌, ◌*◌, ◌^◌}
use native.Mathlib.Nat.{pow-suc}
use native.Mathlib.Omega.{arith}
use lib.ListN.{get_or}
use Rattle.exercise.specs.Packed.{bytes_at}

module _ (s : List ℕ) (k : ℕ) where
  pub one_byte : bytes_at s k 1 ≡ get_or s k 0
  unfolding bytes_at
  one_byte = let here : k + 0 ≡ k = omega arith in omega (arith, ap (λ (i : ℕ). get_or s i 0) here)

  -- bytes in two groups, the first one highest
  pub grouped : (m n : ℕ) → bytes_at s k (m + n) ≡ 256 ^ n * bytes_at s k m + bytes_at s (k + m) n
  unfolding bytes_at
  grouped m zero = let none : m + 0 ≡ m = omega arith in omega (arith, ap (bytes_at s k) none)
  grouped m (suc n) =
      let next : m + suc n ≡ suc (m + n) = omega arith in
      let here : k + (m + n) ≡ k + m + n = omega arith in
      omega (arith, ap (bytes_at s k) next, grouped m n, ap (λ (w : ℕ). w * bytes_at s k m) (pow-suc 256 n), ap (λ (i : ℕ). get_or s i 0) here)
