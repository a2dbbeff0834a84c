-- The fronts of lists as they are made. Assumes nothing.
use mathlib.Core.Path.{◌≡◌}
use mathlib.Core.List.{List}
use Prim.Native.Nat.{ℕ, ◌≤◌}
use native.Mathlib.Omega.{arith}
use lib.IntN.{ℤ, pos}
use lib.ListN.{length, take, replicate, length-replicate}
use lib.Seq.{length-take-le}
use Rattle.ints.proofs.Ranges.{cut_range, zeros-range}
use Rattle.hour_settle.specs.Inside.{Cleared}

-- they are as long as they are asked to be, and hold zeros
module _ (size : ℕ) where
  abbrev zeros : List ℤ
  zeros = replicate size (pos 0)

  pub front : {n : ℕ} → n ≤ size → length (take n zeros) ≡ n
  front {n} h = length-take-le n zeros (omega (arith, h, length-replicate size (pos 0)))

  pub cleared : (c l k : ℕ) → Cleared (take c zeros) (take l zeros) (take k zeros)
  cleared c l k = record { congestion-empty = cut_range 0 c (zeros-range size 0); loss-empty = cut_range 0 l (zeros-range size 0); credit-empty = cut_range 0 k (zeros-range size 0) }
