-- The surplus and its credits: the order from the split's, demand 3, and sums and sizes. Assumes nothing.
use mathlib.Core.Path.{◌≡◌, refl, sym, ap, ap₂, ◌∙◌}
use mathlib.Core.Bool.{Bool, true, false, ◌||◌, ◌&&◌}
use mathlib.Core.List.{List, [], ◌∷◌}
use Prim.Native.Nat.{ℕ, ◌≤◌, ◌<◌}
use native.Mathlib.Omega.{arith}
use lib.Dec.{ltb, eqb}
use lib.IntN.{ℤ, pos, neg_ℤ, nat_abs, ◌+ℤ◌, +ℤ_assoc, +ℤ_idr, +ℤ_invr}
use lib.ListN.{length}
use lib.Signed.{le_z, nat_abs-le}
use mir.Syntax.{w64}
use mir.Val.{SFits}
use borrow.Author.Tests.{le-leb, eq-eqb}
use Rattle.ints.specs.Number.{below0, between}
use Rattle.ints.specs.InsideRange.{InRange}
use Rattle.ints.specs.Refusal.{pick, unless}
use Rattle.ints.specs.Sum.{sum_to, sum}
use Rattle.ints.specs.Table.{◌at◌, all}
use Rattle.ints.proofs.Ranges.{range-up, tab-range}
use Rattle.ints.proofs.Signs.{size-signed}
use Rattle.ints.proofs.Sizes.{w-add, w-sub}
use Rattle.ints.proofs.Sums.{sum_to-ext, sum_to-plus, sum_to-neg}
use Rattle.ints.proofs.Tables.{length-tab, get_or-tab}
use Rattle.units.specs.Units.{whole_cents, cents_of}
use Rattle.split.specs.Fair.{Fair}
use Rattle.split.specs.Split.{total, parts, split_refusal}
use Rattle.split.proofs.Demand3.{fair}
use Rattle.split.proofs.Laws.{length-parts}
use Rattle.split.proofs.Sizes.{parts_within}
use Rattle.hour.specs.InsideTotals.{rounded, net_at, netted, Natural, most_cents, most_net}
use Rattle.hour.specs.Order.{not_above, surplus_refusal}

-- ---- rounding

pub length-rounded : (exact : List ℤ) → length (rounded exact) ≡ length exact
unfolding rounded
length-rounded exact = length-tab (λ p. cents_of (exact at p)) (length exact)

pub rounded-at : (exact : List ℤ) (p : ℕ) → p < length exact → rounded exact at p ≡ cents_of (exact at p)
unfolding rounded
rounded-at exact p l = get_or-tab (λ p. cents_of (exact at p)) (pos 0) (length exact) p l

-- what 64 bits hold comes to so many cents
pub cents-most : (x : ℤ) → SFits w64 x → nat_abs (cents_of x) ≤ most_cents
unfolding cents_of
cents-most x f = omega (arith, size-signed (below0 x) (whole_cents (nat_abs x)), nat_abs-le x f.sfits)

-- ---- the order, from the split's

-- where no share is below 0, the split's range says no more than its upper end
pub in-range : (k : ℕ) (list : List ℤ) → Natural list → all (between (pos 0) (pos k)) list ≡ all (not_above k) list
unfolding all
in-range k [] none = refl
in-range k (x ∷ xs) (e, more) = ap₂ (λ (low rest : Bool). (low && le_z x (pos k)) && rest) e (in-range k xs more)

module _ (surplus : ℤ) (shares : List ℤ) (n : ℕ) (some : 1 ≤ length shares) (few : length shares ≤ 64) (natural : Natural shares) (same : n ≡ length shares) where
  -- the split's 2 is a 10 here, and else the numbers are the same
  pub renumbered : surplus_refusal surplus shares ≡ pick (eqb (split_refusal surplus shares n) 2) 10 (split_refusal surplus shares n)
  unfolding surplus_refusal split_refusal
  renumbered = simp (le-leb 1 (length shares) some, le-leb (length shares) 64 few, eq-eqb n (length shares) same, in-range 4000000000 shares natural) (by (between (neg_ℤ (pos 1000000000)) (pos 1000000000) surplus) (all (not_above 4000000000) shares) (ltb 0 (total shares) || eqb (nat_abs surplus) 0))
    where
      by : (a b c : Bool) → unless a 10 (unless b 10 (unless c 7 0)) ≡ pick (eqb (unless a 2 (unless b 2 (unless c 7 0))) 2) 10 (unless a 2 (unless b 2 (unless c 7 0)))
      by false b c = refl
      by true false c = refl
      by true true false = refl
      by true true true = refl

  -- accepted here, accepted there
  pub split-accepts : surplus_refusal surplus shares ≡ 0 → split_refusal surplus shares n ≡ 0
  split-accepts e = by (eqb (split_refusal surplus shares n) 2) (sym renumbered ∙ e)
    where
      not-ten : ◌≡◌ {A = ℕ} 10 0 → ⊥
      not-ten q = omega arith

      by : (two : Bool) → pick two 10 (split_refusal surplus shares n) ≡ 0 → split_refusal surplus shares n ≡ 0
      by true q = absurd (not-ten q)
      by false q = q

-- ---- the credits

pub credits-cents : (surplus : ℤ) (shares : List ℤ) (n : ℕ) → split_refusal surplus shares n ≡ 0 → InRange (parts surplus shares) most_cents
credits-cents surplus shares n e = range-up (parts_within surplus shares n e) (omega arith)

module _ (surplus : ℤ) (shares : List ℤ) (some : 1 ≤ length shares) (few : length shares ≤ 64) (natural : Natural shares) (accepts : surplus_refusal surplus shares ≡ 0) where
  -- demand 3 of the credits: document 01's trap "Rounding each credit alone, or giving the odd cents to the last party"
  pub fair-credits : Fair surplus shares (parts surplus shares)
  fair-credits = fair surplus shares (length shares) (split-accepts surplus shares (length shares) some few natural refl accepts)

  pub credits-sum : sum (parts surplus shares) ≡ surplus
  credits-sum = ap (sum_to (λ p. parts surplus shares at p)) (length-parts surplus shares) ∙ fair-credits.adds-up

-- where loss charges and credits total the same cents, the nets total the congestion charges
pub nets-sum : (congestion loss credit : List ℤ) → length loss ≡ length congestion → length credit ≡ length congestion → sum loss ≡ sum credit → sum (netted congestion loss credit) ≡ sum congestion
unfolding netted
nets-sum congestion loss credit l k same =
    ap (sum_to (λ p. netted congestion loss credit at p)) (length-tab (net_at congestion loss credit) n)
    ∙ sum_to-ext (λ p. netted congestion loss credit at p) (net_at congestion loss credit) n (λ p h. get_or-tab (net_at congestion loss credit) (pos 0) n p h)
    ∙ sum_to-plus (λ p. congestion at p +ℤ loss at p) (λ p. neg_ℤ (credit at p)) n
    ∙ ap₂ ◌+ℤ◌ (sum_to-plus (λ p. congestion at p) (λ p. loss at p) n) (sum_to-neg (λ p. credit at p) n)
    ∙ ap₂ (λ (x y : ℤ). (sum congestion +ℤ x) +ℤ neg_ℤ y) (ap (sum_to (λ p. loss at p)) (sym l) ∙ same) (ap (sum_to (λ p. credit at p)) (sym k))
    ∙ cancelled (sum congestion) (sum credit)
  where
    n : ℕ
    n = length congestion

    cancelled : (x y : ℤ) → (x +ℤ y) +ℤ neg_ℤ y ≡ x
    cancelled x y = +ℤ_assoc x y (neg_ℤ y) ∙ ap (λ (z : ℤ). x +ℤ z) (+ℤ_invr y) ∙ +ℤ_idr x

-- a net is two charges less a credit
pub nets-within : (congestion loss credit : List ℤ) → InRange congestion most_cents → InRange loss most_cents → InRange credit most_cents → InRange (netted congestion loss credit) most_net
unfolding netted
nets-within congestion loss credit c l k = tab-range (net_at congestion loss credit) (length congestion) most_net (λ p _. w-sub (w-add (c.each p) (l.each p)) (k.each p))
