-- Laws of lists of numbers within a bound. Assumes nothing.
use mathlib.Core.Path.{◌≡◌, refl, sym, subst}
use mathlib.Core.Bool.{Bool, true, false}
use mathlib.Core.List.{List}
use Prim.Native.Nat.{ℕ, zero, suc, ◌+◌, ◌*◌, ◌≤◌, ◌<◌}
use native.Mathlib.Nat.{mul-le-mul_right, suc-mul}
use native.Mathlib.Omega.{arith}
use lib.Dec.{ltb}
use lib.IntN.{ℤ, pos}
use lib.ListN.{length, take, drop, replicate, length-take, get_or-eq_default}
use lib.Seq.{get_or-take, get_or-drop}
use borrow.Author.Tests.{ltb-true, ltb-false}
use Rattle.ints.specs.InsideRange.{Within, InRange}
use Rattle.ints.specs.Table.{◌at◌, tab}
use Rattle.ints.proofs.Sizes.{w-up, w-lit}
use Rattle.ints.proofs.Tables.{length-tab, get_or-tab}

pub range-up : {xs : List ℤ} {h k : ℕ} → InRange xs h → h ≤ k → InRange xs k
range-up r l = record { each = λ i. w-up (r.each i) l }

pub drop-range : {xs : List ℤ} {k : ℕ} (a : ℕ) → InRange xs k → InRange (drop a xs) k
drop-range {xs} {k} a r = record { each = λ i. subst (λ (z : ℤ). Within z k) (sym (get_or-drop a xs i (pos 0))) (r.each (a + i)) }

-- by the numbers that the list has
pub range_at : (xs : List ℤ) (k : ℕ) → ((i : ℕ) → i < length xs → Within (xs at i) k) → InRange xs k
range_at xs k h = record { each = λ i. by i (ltb i (length xs)) refl }
  where
    by : (i : ℕ) (b : Bool) → ltb i (length xs) ≡ b → Within (xs at i) k
    by i true e = h i (ltb-true i (length xs) e)
    by i false e = subst (λ (z : ℤ). Within z k) (sym (get_or-eq_default xs (pos 0) (ltb-false i (length xs) e))) (w-up (w-lit {x = pos 0} {k = 0} tt) (omega arith))

-- a part of a list
pub cut_range : {xs : List ℤ} {k : ℕ} (j m : ℕ) → InRange xs k → InRange (take m (drop j xs)) k
cut_range {xs} {k} j m r =
    range_at (take m (drop j xs)) k
    (λ i l. subst (λ (z : ℤ). Within z k) (sym (get_or-take m (drop j xs) i (pos 0) (omega (arith, length-take m (drop j xs))))) ((drop-range j r).each i))

pub tab-range : (f : ℕ → ℤ) (n k : ℕ) → ((i : ℕ) → i < n → Within (f i) k) → InRange (tab f n) k
tab-range f n k h =
    range_at (tab f n) k (λ i l. let m : i < n = omega (arith, length-tab f n) in subst (λ (z : ℤ). Within z k) (sym (get_or-tab f (pos 0) n i m)) (h i m))

-- a table of zeros
pub zero-at : (n i : ℕ) → replicate n (pos 0) at i ≡ pos 0
zero-at zero i = refl
zero-at (suc n) zero = refl
zero-at (suc n) (suc i) = zero-at n i

pub zeros-range : (n k : ℕ) → InRange (replicate n (pos 0)) k
zeros-range n k = record { each = λ i. subst (λ (z : ℤ). Within z k) (sym (zero-at n i)) (w-up (w-lit {x = pos 0} {k = 0} tt) (omega arith)) }

-- a row of a table of so many columns lies within its rows
pub room : (k n columns : ℕ) → k < n → k * columns + columns ≤ n * columns
room k n columns h = rw suc-mul at (mul-le-mul_right columns h)
