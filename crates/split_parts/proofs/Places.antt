-- Keys are in the order of remainders, the earlier party first where these are equal. Assumes nothing.
use mathlib.Core.Path.{◌≡◌, ap, ap₂, ◌∙◌}
use mathlib.Core.Logic.{inl, inr, ⊎_elim}
use mathlib.Core.List.{List}
use Prim.Native.Nat.{ℕ, ◌≤◌, ◌<◌}
use native.Mathlib.Omega.{arith}
use lib.Dec.{ltb}
use lib.ListN.{get_or}
use borrow.Author.Tests.{lt-ltb, ltb-true, ltb-false}
use Rattle.ints.specs.Sum.{one}
use Rattle.ints.proofs.Bools.{either, same}
use Rattle.ints.proofs.Counts.{sum_nat-ext}
use Rattle.split_parts.specs.Inside.{key_of}
use Rattle.split.specs.Split.{before, place}
use Rattle.split.proofs.Order.{Before, before-says, says-before}
use Rattle.split_units.specs.Inside.{keys_above}

-- of two parties of 64 the one with the larger key comes before
key-before : (r : ℕ → ℕ) (i j : ℕ) → i < 64 → j < 64 → ltb (key_of r i) (key_of r j) ≡ before r j i
key-before r i j l m = same (ltb (key_of r i) (key_of r j)) (before r j i) (λ e. says-before r j i (from (ltb-true (key_of r i) (key_of r j) e))) (λ e. lt-ltb (key_of r i) (key_of r j) (to (before-says r j i e)))
  where
    from : key_of r i < key_of r j → Before r j i
    from h = ⊎_elim (λ e. inl (ltb-true (r i) (r j) e)) (λ e. inr (omega (arith, ltb-false (r i) (r j) e), omega (arith, ltb-false (r i) (r j) e))) (either (ltb (r i) (r j)))

    to : Before r j i → key_of r i < key_of r j
    to (inl h) = omega arith
    to (inr h) = omega arith

-- the keys above a party's are those of the parties before it
pub above_place : (keys : List ℕ) (r : ℕ → ℕ) (n : ℕ) → n ≤ 64 → ((j : ℕ) → j < n → get_or keys j 0 ≡ key_of r j) → (i : ℕ) → i < n → keys_above keys n (get_or keys i 0) ≡ place r n i
unfolding place
above_place keys r n few e i l =
    sum_nat-ext (λ j. one (ltb (get_or keys i 0) (get_or keys j 0))) (λ j. one (before r j i)) n
    (λ j m. ap one (ap₂ ltb (e i l) (e j m) ∙ key-before r i j (omega arith) (omega arith)))
