-- A transaction with its legs (document 02, ticket 2): path, purchase and sale, added up, are what buyer and seller are charged at the source; the class is charged nothing.
-- Assumes nothing.
use mathlib.Core.Path.{◌≡◌, refl, sym, ap, ap₂, ◌∙◌}
use mathlib.Core.Bool.{Bool, true, false}
use mathlib.Core.List.{List, map}
use Prim.Native.Nat.{ℕ, ◌≤◌, ◌<◌}
use native.Mathlib.Nat.{one-mul}
use native.Mathlib.Omega.{arith}
use lib.Dec.{eqb, lit≤}
use lib.IntN.{ℤ, pos, neg_ℤ, ◌+ℤ◌, ◌-ℤ◌, ◌*ℤ◌, +ℤ_idl, +ℤ_idr, +ℤ_assoc, +ℤ_comm, +ℤ_invl}
use Rattle.ints.specs.Each.{Every}
use Rattle.ints.specs.InsideEvery.{to_owner, owed}
use Rattle.ints.specs.InsideRange.{Within}
use Rattle.ints.specs.Sum.{Σℤ, sum_to, only}
use Rattle.ints.proofs.Adding.{owed_none, only-within}
use Rattle.ints.proofs.Diff.{⊖-laws, ⊖-eq, ind3, *ℤ-negl}
use Rattle.ints.proofs.Gather.{every_map, every_of, every_append, Σ-ext-on, Σ-map, swap, one_place}
use Rattle.ints.proofs.Sizes.{w-add, w-sub, w-mul, w-neg, w-lit, w-up}
use Rattle.ints.proofs.Sums.{Σ-append, Σ-plus, Σ-ext, Σ-zero, sum_to-plus}
use Rattle.hour.specs.Hour.{Prices, Position, purchase_of, sale_of, legs}
use Rattle.hour.specs.InsideParts.{sign, weight, position_part, transaction_part, position_parts, transaction_parts, PositionPlaced, buyer_part, seller_part, adds_to}
use Rattle.hour.specs.InsideTested.{TransactionTested}
use Rattle.hour.specs.declared.Edition.{Edition}
use Rattle.hour.specs.declared.Transaction.{Transaction}

-- ---- one transaction

-- a purchase counts the other way round, a sale as it is
purchased : (n : ℕ) (w : ℤ) → sign false *ℤ pos n *ℤ w ≡ neg_ℤ (pos n *ℤ w)
purchased n w = ap (λ (z : ℤ). z *ℤ w) (ap (λ (n : ℕ). neg_ℤ (pos n)) (one-mul n)) ∙ *ℤ-negl (pos n) w

sold : (n : ℕ) (w : ℤ) → sign true *ℤ pos n *ℤ w ≡ pos n *ℤ w
sold n w = ap (λ (n : ℕ). pos n *ℤ w) (one-mul n)

-- path and purchase: what is paid at the sink comes back
at_source : (n sink source : ℤ) → neg_ℤ (n *ℤ sink) +ℤ n *ℤ (sink -ℤ source) ≡ neg_ℤ (n *ℤ source)
at_source = ind3 (λ n sink source. neg_ℤ (n *ℤ sink) +ℤ n *ℤ (sink -ℤ source) ≡ neg_ℤ (n *ℤ source)) (λ a b c d e f. simp ⊖-laws (⊖-eq _ _ _ _ (omega arith)))

-- two amounts of one owner
only-plus : (b : Bool) (x y : ℤ) → only b x +ℤ only b y ≡ only b (x +ℤ y)
only-plus true x y = refl
only-plus false x y = refl

pub only-nothing : (b : Bool) → only b (pos 0) ≡ pos 0
only-nothing true = refl
only-nothing false = refl

-- (x + y) + z, x beside z
beside : (x y z : ℤ) → (x +ℤ y) +ℤ z ≡ (x +ℤ z) +ℤ y
beside x y z = +ℤ_assoc x y z ∙ ap (λ (w : ℤ). x +ℤ w) (+ℤ_comm y z) ∙ sym (+ℤ_assoc x z y)

-- ---- an edition's transactions

module _ (prices : Prices) (p : ℕ) where
  abbrev buys : Transaction → Bool
  buys t = eqb t.participant p

  abbrev sells : Transaction → Bool
  sells t = eqb t.seller p

  -- purchase, sale and path of one
  whole-one : (t : Transaction)
      → (only (buys t) (position_part prices (purchase_of t)) +ℤ only (sells t) (position_part prices (sale_of t))) +ℤ only (buys t) (transaction_part prices t)
      ≡ adds_to Edition.WithSeller (weight prices) t p
  unfolding position_part transaction_part buyer_part seller_part
  whole-one t =
      let n = pos t.kw.0 in
      let sink = weight prices t.market t.interval t.sink in
      let source = weight prices t.market t.interval t.source in
      let bought = sign false *ℤ n *ℤ sink in
      let path = n *ℤ (sink -ℤ source) in
      beside (only (buys t) bought) (only (sells t) (sign true *ℤ n *ℤ source)) (only (buys t) path)
      ∙ ap₂ ◌+ℤ◌
      (only-plus (buys t) bought path ∙ ap (only (buys t)) (ap (λ (z : ℤ). z +ℤ n *ℤ (sink -ℤ source)) (purchased t.kw.0 sink) ∙ at_source n sink source))
      (ap (only (sells t)) (sold t.kw.0 source))

  path-one : (t : Transaction) → only (buys t) (transaction_part prices t) ≡ adds_to Edition.PathOnly (weight prices) t p
  unfolding transaction_part buyer_part seller_part
  path-one t = sym (ap (λ (z : ℤ). only (buys t) (transaction_part prices t) +ℤ z) (only-nothing (sells t)) ∙ +ℤ_idr (only (buys t) (transaction_part prices t)))

  -- legs and paths, transaction by transaction
  pub legs-parts : (edition : Edition) (ts : List Transaction) → position_parts prices (legs edition ts) p +ℤ transaction_parts prices ts p ≡ Σℤ (λ t. adds_to edition (weight prices) t p) ts
  unfolding owed
  legs-parts Edition.PathOnly ts = ap (λ (z : ℤ). z +ℤ transaction_parts prices ts p) (owed_none (λ x. x.participant) (position_part prices) p) ∙ +ℤ_idl (transaction_parts prices ts p) ∙ Σ-ext _ _ ts path-one
  legs-parts Edition.WithSeller ts =
      ap (λ (z : ℤ). z +ℤ transaction_parts prices ts p)
      (Σ-append (to_owner_of) (map purchase_of ts) (map sale_of ts) ∙ ap₂ ◌+ℤ◌ (Σ-map purchase_of to_owner_of ts) (Σ-map sale_of to_owner_of ts) ∙ sym (Σ-plus (λ t. to_owner_of (purchase_of t)) (λ t. to_owner_of (sale_of t)) ts))
      ∙ sym (Σ-plus (λ t. to_owner_of (purchase_of t) +ℤ to_owner_of (sale_of t)) (λ t. only (buys t) (transaction_part prices t)) ts)
      ∙ Σ-ext _ _ ts whole-one
    where
      to_owner_of : Position → ℤ
      to_owner_of x = to_owner (λ x. x.participant) (position_part prices) x p

-- what the theorem asks of a position holds of the legs
pub legs-placed : (participants locations : ℕ) (edition : Edition) (ts : List Transaction) → Every (TransactionTested participants locations) ts → Every (PositionPlaced locations) (legs edition ts)
legs-placed participants locations Edition.PathOnly ts e = tt
legs-placed participants locations Edition.WithSeller ts e =
    every_append (PositionPlaced locations) (map purchase_of ts) (map sale_of ts)
    (every_of purchase_of (PositionPlaced locations) ts (every_map (λ t q. record { timed = q.timed; location = q.sink }) ts e))
    (every_of sale_of (PositionPlaced locations) ts (every_map (λ t q. record { timed = q.timed; location = q.source }) ts e))

-- ---- "such a transaction adds exactly nothing to the class's exact total"

module _ (participants : ℕ) (counts : ℕ → ℕ → ℕ → ℤ) where
  -- what buyer and seller are charged, of one and of many
  one-nothing : (t : Transaction) → t.participant < participants → t.seller < participants → sum_to (adds_to Edition.WithSeller counts t) participants ≡ pos 0
  unfolding buyer_part seller_part
  one-nothing t b s =
      sum_to-plus _ _ participants
      ∙ ap₂ ◌+ℤ◌ (one_place true t.participant participants (λ _. buyer_part Edition.WithSeller counts t) b) (one_place true t.seller participants (λ _. seller_part Edition.WithSeller counts t) s)
      ∙ +ℤ_invl (pos t.kw.0 *ℤ counts t.market t.interval t.source)

  pub class-nothing : (locations : ℕ) (ts : List Transaction) → Every (TransactionTested participants locations) ts
      → sum_to (λ p. Σℤ (λ t. adds_to Edition.WithSeller counts t p) ts) participants ≡ pos 0
  class-nothing locations ts e =
      swap (λ p t. adds_to Edition.WithSeller counts t p) participants ts
      ∙ Σ-ext-on _ (λ _. pos 0) (λ t q. one-nothing t q.participant q.seller) ts e
      ∙ Σ-zero ts

-- ---- how much a transaction adds, by weights of at most 120,000,000

module _ (counts : ℕ → ℕ → ℕ → ℤ) (most : (m k l : ℕ) → Within (counts m k l) 120000000) (edition : Edition) (t : Transaction) (few : t.kw.0 ≤ 20000000) where
  kw : Within (pos t.kw.0) 20000000
  kw = record { within = few }

  at_place : (l : ℕ) → Within (counts t.market t.interval l) 120000000
  at_place l = most t.market t.interval l

  -- to the buyer, and to the seller
  pub buyer-range : Within (buyer_part edition counts t) 4800000000000000
  unfolding buyer_part
  buyer-range = by edition
    where
      by : (edition : Edition) → Within (buyer_part edition counts t) 4800000000000000
      by Edition.PathOnly = w-mul kw (w-sub (at_place t.sink) (at_place t.source))
      by Edition.WithSeller = w-up (w-neg (w-mul kw (at_place t.source))) (lit≤ tt)

  -- to p, who may be both
  pub adds-within : (p : ℕ) → Within (adds_to edition counts t p) 4800000000000000
  unfolding buyer_part seller_part
  adds-within p = by edition
    where
      by : (edition : Edition) → Within (adds_to edition counts t p) 4800000000000000
      by Edition.PathOnly = w-up (w-add (only-within (eqb t.participant p) (w-mul kw (w-sub (at_place t.sink) (at_place t.source)))) (only-within (eqb t.seller p) (w-lit {x = pos 0} {k = 0} tt))) (lit≤ tt)
      by Edition.WithSeller = w-up (w-add (only-within (eqb t.participant p) (w-neg (w-mul kw (at_place t.source)))) (only-within (eqb t.seller p) (w-mul kw (at_place t.source)))) (lit≤ tt)

-- by other counts that are the same at sink and source
pub adds-ext : (counts others : ℕ → ℕ → ℕ → ℤ) (edition : Edition) (t : Transaction)
    → counts t.market t.interval t.sink ≡ others t.market t.interval t.sink → counts t.market t.interval t.source ≡ others t.market t.interval t.source
    → (p : ℕ) → adds_to edition counts t p ≡ adds_to edition others t p
unfolding buyer_part seller_part
adds-ext counts others edition t e f p = by edition
  where
    by : (edition : Edition) → adds_to edition counts t p ≡ adds_to edition others t p
    by Edition.PathOnly =
        ap₂ (λ (sink source : ℤ). only (eqb t.participant p) (pos t.kw.0 *ℤ (sink -ℤ source)) +ℤ only (eqb t.seller p) (pos 0)) e f
    by Edition.WithSeller =
        ap (λ (source : ℤ). only (eqb t.participant p) (neg_ℤ (pos t.kw.0 *ℤ source)) +ℤ only (eqb t.seller p) (pos t.kw.0 *ℤ source)) f
