-- Step 1, metered and not. Assumes nothing.
use mathlib.Core.Path.{◌≡◌, ap, ap₂}
use mathlib.Core.List.{List}
use mathlib.Core.Bool.{Bool, true, false, not, ◌||◌}
use Prim.Native.Nat.{ℕ, ◌*◌}
use native.Mathlib.Omega.{arith}
use lib.Dec.{ltb, eqb}
use lib.IntN.{ℤ, pos, nat_abs}
use lib.ListN.{length}
use Rattle.ints.specs.Number.{between}
use Rattle.ints.specs.InsideRange.{Within, Short}
use Rattle.ints.specs.Refusal.{pick, unless}
use Rattle.ints.specs.Sum.{sum}
use Rattle.ints.specs.Table.{◌at◌}
use Rattle.ints.proofs.Sizes.{w-up}
use Rattle.ints.proofs.Sums.{sum_to-abs}
use Rattle.split.specs.Split.{total, parts}
use Rattle.split.proofs.Accepted.{from_total_refusal}
use Rattle.load.specs.Load.{is_metered, metered_load, bus_loads}
use Rattle.load.specs.Order.{meters_refusal}

module _ (metered : ℤ) (loads imports generation : List ℤ) where
  abbrev load : ℤ
  load = metered_load imports generation

  -- the order and the loads, by the two tests
  abbrev order : Bool → Bool → ℕ
  order metered ranged = unless (not metered || ranged) 6 (unless (not metered || ltb 0 (total loads) || eqb (nat_abs load) 0) 7 0)

  -- not metered
  module _ (e : is_metered metered ≡ false) where
    pub unmetered-answer : meters_refusal metered loads imports generation ≡ 0
    unfolding meters_refusal
    unmetered-answer = ap (λ (t : Bool). order t (between (pos 0) (pos 20000000) load)) e

    pub unmetered-loads : bus_loads metered loads imports generation ≡ loads
    unmetered-loads = ap (λ (t : Bool). pick t (parts load loads) loads) e

  -- metered
  module _ (e : is_metered metered ≡ true) where
    pub metered-loads : bus_loads metered loads imports generation ≡ parts load loads
    metered-loads = ap (λ (t : Bool). pick t (parts load loads) loads) e

    pub metered-outside : between (pos 0) (pos 20000000) load ≡ false → meters_refusal metered loads imports generation ≡ 6
    unfolding meters_refusal
    metered-outside f = ap₂ order e f

    pub metered-inside : between (pos 0) (pos 20000000) load ≡ true → meters_refusal metered loads imports generation ≡ from_total_refusal load loads
    unfolding meters_refusal
    metered-inside f = ap₂ order e f

-- a short list's sum is not large
pub sum-within : {list : List ℤ} → Short list → Within (sum list) 14757395258967552
sum-within {list} s = w-up {h = length list * 230584300921368} (record { within = sum_to-abs (λ i. list at i) 230584300921368 (length list) (λ i _. (s.each.each i).within) }) (omega (arith, s.few))
