-- The split as the assignment uses it: totals, sizes, and a list whose front holds the parts. Assumes nothing.
use mathlib.Core.Path.{◌≡◌, refl, sym, ap, ap₂, ◌∙◌}
use mathlib.Core.List.{List}
use mathlib.Core.Bool.{Bool, true, false, ◌&&◌}
use Prim.Native.Nat.{ℕ, ◌+◌, ◌*◌, ◌≤◌, ◌<◌}
use native.Mathlib.Omega.{arith}
use lib.IntN.{ℤ, pos, neg_ℤ, nat_abs}
use lib.ListN.{length, drop, length-drop}
use lib.Seq.{length-take-le}
use borrow.Author.Tests.{le-leb, le-ltb, eq-eqb}
use Rattle.ints.specs.Number.{below0, signed, between}
use Rattle.ints.specs.InsideRange.{Within, Short}
use Rattle.ints.specs.Sum.{sum}
use Rattle.ints.specs.Table.{◌at◌}
use Rattle.ints.proofs.Eachs.{all-each}
use Rattle.ints.proofs.Signs.{signed-sum, size-signed}
use Rattle.ints.proofs.Sizes.{w-up}
use Rattle.ints.proofs.Sums.{sum_to-ext}
use Rattle.ints.proofs.Tables.{get_or-tab}
use Rattle.split.specs.Split.{share, total, part, parts, split_refusal}
use Rattle.split.specs.Inside.{Shares}
use Rattle.split.proofs.Accepted.{from_total_refusal, with-total}
use Rattle.split.proofs.Sizes.{part-size}
use Rattle.load.specs.Load.{parts_of}
use Rattle.load.specs.InsideTable.{FrontWithin}
use Rattle.load.specs.Inside.{Splittable, Ranged}

-- the sum of shares is their total
pub short-of : {shares : List ℤ} → Shares shares → Short shares
short-of s = record { few = s.few; each = record { each = λ i. record { within = omega (arith, s.most i) } } }

pub sum-total : {shares : List ℤ} → Shares shares → sum shares ≡ pos (total shares)
unfolding total
sum-total {shares} s = sum_to-ext (λ i. shares at i) (λ i. pos (share shares i)) (length shares) (λ i _. s.natural i) ∙ signed-sum false (share shares) (length shares)

-- a part by its size
pub part_at : (amount : ℤ) (shares : List ℤ) (i : ℕ) → i < length shares → parts amount shares at i ≡ signed (below0 amount) (part (nat_abs amount) shares i)
unfolding parts
part_at amount shares i l = get_or-tab (λ i. signed (below0 amount) (part (nat_abs amount) shares i)) (pos 0) (length shares) i l

pub part-within : {amount : ℤ} {shares : List ℤ} → Splittable amount shares → (i : ℕ) → i < length shares → Within (parts amount shares at i) 20000000
part-within {amount} {shares} s i l = record { within = omega (arith, ap nat_abs (part_at amount shares i l) ∙ size-signed (below0 amount) (part (nat_abs amount) shares i), part-size amount shares (length shares) s.accepted i l, s.ranged.small) }

-- kW are not below 0
pub not-below : {amount : ℤ} {shares : List ℤ} → Splittable amount shares → below0 amount ≡ false
not-below {amount} s = ap below0 s.ranged.natural ∙ le-ltb (nat_abs amount) 0 (omega arith)

-- a part of kW is kW
pub part-natural : {amount : ℤ} {shares : List ℤ} → Splittable amount shares → (i : ℕ) → i < length shares → parts amount shares at i ≡ pos (part (nat_abs amount) shares i)
part-natural {amount} {shares} s i l =
    part_at amount shares i l ∙ ap (λ (t : Bool). signed t (part (nat_abs amount) shares i)) (not-below s)

pub part-ranged : {amount : ℤ} {shares : List ℤ} → Splittable amount shares → (i : ℕ) → i < length shares → Ranged (parts amount shares at i)
part-ranged s i l = record { natural = part-natural s i l ∙ ap (λ (z : ℤ). pos (nat_abs z)) (sym (part-natural s i l)); small = (part-within s i l).within }

pub parts-range : {amount : ℤ} {shares : List ℤ} → Splittable amount shares → FrontWithin (parts amount shares) (length shares) 1000000000000
parts-range s = record { each = λ i l. w-up (part-within s i l) (omega arith) }

-- an area's stretch of the list is as long as there are buses
pub length-stretch : (n : ℕ) (area_parts : List ℤ) (a : ℕ) → a * n + n ≤ length area_parts → length (parts_of n area_parts a) ≡ n
length-stretch n area_parts a h = length-take-le n (drop (a * n) area_parts) (omega (arith, length-drop (a * n) area_parts))

-- ---- what passed the tests can be split

natural-between : (n k : ℕ) → n ≤ k → between (pos 0) (pos k) (pos n) ≡ true
natural-between n k h = ap₂ ◌&&◌ (le-leb 0 n (omega arith)) (le-leb n k h)

module _ (amount : ℤ) (shares : List ℤ) (a : Ranged amount) (s : Shares shares) (some : 1 ≤ length shares) where
  -- of the order of refusals the last line is left
  pub last_line : split_refusal amount shares (length shares) ≡ from_total_refusal amount shares
  unfolding split_refusal
  last_line =
      simp (
        le-leb 1 (length shares) some,
        le-leb (length shares) 64 s.few,
        eq-eqb (length shares) (length shares) refl,
        in-range,
        all-each (between (pos 0) (pos 4000000000)) (pos 0) shares (λ i _. ap (between (pos 0) (pos 4000000000)) (s.natural i) ∙ natural-between (share shares i) 4000000000 (s.most i)),
      )
    where
      in-range : between (neg_ℤ (pos 1000000000)) (pos 1000000000) amount ≡ true
      in-range = ap (between (neg_ℤ (pos 1000000000)) (pos 1000000000)) a.natural ∙ le-leb (nat_abs amount) 1000000000 (omega (arith, a.small))

  pub splits_of : 0 < total shares → Splittable amount shares
  splits_of t = record { accepted = last_line ∙ with-total amount shares t; ranged = a }
