-- The bytes that std reads and writes as a word are those of the definition. Assumes nothing.
use mathlib.Core.Path.{◌≡◌, sym, ap, ◌∙◌}
use mathlib.Core.List.{List, [], ◌∷◌}
use Prim.Native.Nat.{ℕ, suc, ◌+◌, ◌*◌, ◌≤◌, ◌<◌}
use native.Mathlib.Nat.{div-div-eq-div-mul}
use native.Mathlib.Omega.{arith}
use lib.ListN.{length, get_or, take, drop}
use lib.Seq.{drop-cons}
use mir.Syntax.{w64}
use Rattle.std.specs.Int.{from_le_bytes, to_le_bytes}
use Rattle.numbers.specs.Bytes.{lowest_first, bytes_of}

-- the lowest of the bytes from i on, and the others
next : (s : List ℕ) (i j n : ℕ) → j ≡ suc i → i < length s → lowest_first (take (suc n) (drop i s)) ≡ get_or s i 0 + 256 * lowest_first (take n (drop j s))
unfolding lowest_first
next s i j n e h = ap (λ (l : List ℕ). lowest_first (take (suc n) l)) (drop-cons s i 0 h) ∙ ap (λ (k : ℕ). get_or s i 0 + 256 * lowest_first (take n (drop k s))) (sym e)

pub le-word : (s : List ℕ) (k : ℕ) → k + 8 ≤ length s
    → from_le_bytes w64 (get_or s k 0 ∷ get_or s (k + 1) 0 ∷ get_or s (k + 2) 0 ∷ get_or s (k + 3) 0 ∷ get_or s (k + 4) 0 ∷ get_or s (k + 5) 0 ∷ get_or s (k + 6) 0 ∷ get_or s (k + 7) 0 ∷ [])
    ≡ lowest_first (take 8 (drop k s))
unfolding lowest_first
le-word s k h =
    omega (
      arith,
      next s k (k + 1) 7 (omega arith) (omega arith),
      next s (k + 1) (k + 2) 6 (omega arith) (omega arith),
      next s (k + 2) (k + 3) 5 (omega arith) (omega arith),
      next s (k + 3) (k + 4) 4 (omega arith) (omega arith),
      next s (k + 4) (k + 5) 3 (omega arith) (omega arith),
      next s (k + 5) (k + 6) 2 (omega arith) (omega arith),
      next s (k + 6) (k + 7) 1 (omega arith) (omega arith),
      next s (k + 7) (k + 8) 0 (omega arith) (omega arith),
    )

pub le-bytes : (u : ℕ) → to_le_bytes w64 u ≡ bytes_of 8 u
unfolding bytes_of
le-bytes u = simp div-div-eq-div-mul
