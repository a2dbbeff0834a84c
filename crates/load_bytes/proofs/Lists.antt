-- Slices read into one list, one behind the other, and a list for the result. Assumes nothing.
use mathlib.Core.Path.{◌≡◌, refl, sym, ap, ◌∙◌}
use mathlib.Core.List.{List, ◌∷◌, ◌++◌}
use Prim.Native.Nat.{ℕ, zero, suc, ◌+◌, ◌-◌, ◌/◌, ◌%◌, ◌≤◌}
use native.Mathlib.Omega.{arith}
use lib.IntN.{ℤ, pos}
use lib.ListN.{length, take, drop, replicate, length-append, length-replicate}
use lib.Seq.{length-take-le, take-take, take-add, take-append-add, take_at, drop_at}
use Rattle.numbers.specs.Bytes.{numbers}
use Rattle.numbers.proofs.Laws.{length-numbers}
use Rattle.load_bytes.specs.Inside.{numbers_in, all_numbers, numbers_in_all, Ready}
use Rattle.load_bytes.specs.declared.GivenBytes.{GivenBytes}

-- ---- one slice behind what was read

-- a list in which a part was put behind its front
pub put-behind : (front part rest : List ℤ) (a n : ℕ) → length front ≡ a → length part ≡ n → take (a + n) (front ++ (part ++ rest)) ≡ front ++ part
put-behind front part rest a n e f =
    ap (λ (k : ℕ). take (k + n) (front ++ (part ++ rest))) (sym e) ∙ take-append-add front (part ++ rest) n ∙ ap (λ (list : List ℤ). front ++ list) (take_at part rest n f)

length_more : (before : List ℤ) (s : List ℕ) (a : ℕ) → length before ≡ a → length (before ++ numbers s) ≡ a + numbers_in s
length_more before s a long = omega (arith, length-append before (numbers s), length-numbers s, long)

-- the numbers before place a, and those of the slice
module _ (list before : List ℤ) (s : List ℕ) (a : ℕ) (held : take (a + numbers_in s) list ≡ before ++ numbers s) (long : length before ≡ a) where
  held-before : take a list ≡ before
  held-before = sym (take-take a (a + numbers_in s) list (omega arith)) ∙ ap (take a) held ∙ take_at before (numbers s) a long

  held-last : a + numbers_in s ≤ length list → take (a + numbers_in s - a) (drop a list) ≡ numbers s
  held-last l =
      let behind : a + numbers_in s - a ≡ numbers_in s = omega arith in
      ap (λ (k : ℕ). take k (drop a list)) behind ∙ sym (drop_at (take a list) (take (numbers_in s) (drop a list)) a (length-take-le a list (omega arith)))
      ∙ ap (drop a) (sym (take-add a (numbers_in s) list) ∙ held) ∙ drop_at before (numbers s) a long

-- ---- all of them

module _ (given : GivenBytes) (list : List ℤ) (fit : numbers_in_all given ≤ length list) (held : take (numbers_in_all given) list ≡ all_numbers given) where
  -- where each but the first starts, and what was read before it
  abbrev b : ℕ
  b = numbers_in given.loads.now

  abbrev i : ℕ
  i = b + numbers_in given.imports.now

  abbrev g : ℕ
  g = i + numbers_in given.generation.now

  abbrev p : ℕ
  p = g + numbers_in given.area_parts.now

  abbrev c : ℕ
  c = p + numbers_in given.contracts.now

  abbrev to-i : List ℤ
  to-i = numbers given.loads.now ++ numbers given.imports.now

  abbrev to-g : List ℤ
  to-g = to-i ++ numbers given.generation.now

  abbrev to-p : List ℤ
  to-p = to-g ++ numbers given.area_parts.now

  abbrev to-c : List ℤ
  to-c = to-p ++ numbers given.contracts.now

  long-b : length (numbers given.loads.now) ≡ b
  long-b = length-numbers given.loads.now

  long-i : length to-i ≡ i
  long-i = length_more (numbers given.loads.now) given.imports.now b long-b

  long-g : length to-g ≡ g
  long-g = length_more to-i given.generation.now i long-i

  long-p : length to-p ≡ p
  long-p = length_more to-g given.area_parts.now g long-g

  long-c : length to-c ≡ c
  long-c = length_more to-p given.contracts.now p long-p

  held-c : take c list ≡ to-c
  held-c = held-before list to-c given.tranches.now c held long-c

  held-p : take p list ≡ to-p
  held-p = held-before list to-p given.contracts.now p held-c long-p

  held-g : take g list ≡ to-g
  held-g = held-before list to-g given.area_parts.now g held-p long-g

  held-i : take i list ≡ to-i
  held-i = held-before list to-i given.generation.now i held-g long-i

  pub loads-read : take b list ≡ numbers given.loads.now
  loads-read = held-before list (numbers given.loads.now) given.imports.now b held-i long-b

  pub imports-read : take (i - b) (drop b list) ≡ numbers given.imports.now
  imports-read = held-last list (numbers given.loads.now) given.imports.now b held-i long-b (omega (arith, fit))

  pub generation-read : take (g - i) (drop i list) ≡ numbers given.generation.now
  generation-read = held-last list to-i given.generation.now i held-g long-i (omega (arith, fit))

  pub parts-read : take (p - g) (drop g list) ≡ numbers given.area_parts.now
  parts-read = held-last list to-g given.area_parts.now g held-p long-g (omega (arith, fit))

  pub contracts-read : take (c - p) (drop p list) ≡ numbers given.contracts.now
  contracts-read = held-last list to-p given.contracts.now p held-c long-p (omega (arith, fit))

  pub tranches-read : take (c + numbers_in given.tranches.now - c) (drop c list) ≡ numbers given.tranches.now
  tranches-read = held-last list to-c given.tranches.now c held long-c (omega (arith, fit))

-- the front of a list of zeros, for the result
pub ready : (bytes room : ℕ) → bytes % 8 ≡ 0 → bytes / 8 ≤ room → Ready bytes (take (bytes / 8) (replicate room (pos 0)))
ready bytes room whole l = record {
  long = omega (arith, length-take-le (bytes / 8) (replicate room (pos 0)) (omega (arith, length-replicate room (pos 0))));
  empty = zeros (bytes / 8) room;
}
  where
    zeros : (n m : ℕ) → take n (replicate m (pos 0)) ≡ replicate (length (take n (replicate m (pos 0)))) (pos 0)
    zeros zero m = refl
    zeros (suc n) zero = refl
    zeros (suc n) (suc m) = ap (λ (list : List ℤ). pos 0 ∷ list) (zeros n m)
