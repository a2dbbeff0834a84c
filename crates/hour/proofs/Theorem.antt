-- THE THEOREM: the parts of p's positions and transactions, added up, are the tariff's charge. Assumes nothing.
use mathlib.Core.Path.{◌≡◌, refl, sym, ap, ap₂, ◌∙◌}
use mathlib.Core.Bool.{Bool, true, false, not, ◌&&◌}
use mathlib.Core.List.{List}
use Prim.Native.Nat.{ℕ, ◌<◌}
use native.Mathlib.Nat.{one-mul}
use native.Mathlib.Omega.{arith}
use lib.Dec.{eqb}
use lib.IntN.{ℤ, pos, neg_ℤ, ◌+ℤ◌, ◌-ℤ◌, ◌*ℤ◌, +ℤ_idl}
use Rattle.ints.specs.Each.{Every}
use Rattle.ints.specs.InsideEvery.{owed}
use Rattle.ints.specs.Refusal.{pick}
use Rattle.ints.specs.Sum.{Σℤ, sum_to, only}
use Rattle.ints.proofs.Gather.{every_map, Σ-minus, Σ-only-mul, Σ-only-scale, sum_to-minus, gather, gather_pairs}
use Rattle.ints.proofs.Sums.{Σ-ext, sum_to-ext}
use Rattle.hour.specs.declared.Transaction.{Transaction}
use Rattle.hour.specs.InsideParts.{sign, ahead_weight, position_part, transaction_part, position_parts, transaction_parts, PositionPlaced, TransactionPlaced}
use Rattle.hour.specs.Charges.{P, C, A, B, D, E, own_position, own_transaction, withdrawn, injected, carried, ahead_at, real_at, ahead_path, real_path, position_charge, path_charge, charge}
use Rattle.hour.specs.Hour.{Prices, Position}
use Rattle.hour.proofs.Forms.{ahead-form, real-form, path-form}
use Rattle.hour.proofs.Terms.{factor, by-market, apart, hours}

-- ---- positions: withdrawn less injected is the sum of signed kW

signed-one : (w t : Bool) (n : ℕ) → only (w && t) (pos n) -ℤ only (not w && t) (pos n) ≡ only t (sign w *ℤ pos n)
signed-one true true n = ap pos (omega arith)
signed-one false true n = +ℤ_idl (neg_ℤ (pos n)) ∙ ap (λ (n : ℕ). neg_ℤ (pos n)) (sym (one-mul n))
signed-one true false n = refl
signed-one false false n = refl

-- a position's signed kW
abbrev signed : Position → ℤ
signed x = sign x.withdrawal *ℤ pos x.kw

module _ (xs : List Position) (p : ℕ) where
  -- which positions stand at a location
  abbrev stands : ℕ → ℕ → ℕ → Position → Bool
  stands m k l x = own_position m k p x && eqb x.location l

  -- their signed kW
  abbrev net : ℕ → ℕ → ℕ → ℤ
  net m k l = Σℤ (λ x. only (stands m k l x) (signed x)) xs

  net-is : (m k l : ℕ) → withdrawn xs m k p l -ℤ injected xs m k p l ≡ net m k l
  net-is m k l =
      sym (Σ-minus (λ x. only (x.withdrawal && stands m k l x) (pos x.kw)) (λ x. only (not x.withdrawal && stands m k l x) (pos x.kw)) xs)
      ∙ Σ-ext _ _ xs (λ x. signed-one x.withdrawal (stands m k l x) x.kw)

  -- a price goes into the sum
  priced : (m k l : ℕ) (c : ℤ) → net m k l *ℤ c ≡ Σℤ (λ x. only (stands m k l x) (signed x *ℤ c)) xs
  priced m k l c = Σ-only-mul (stands m k l) signed c xs

module _ (prices : Prices) (xs : List Position) (p : ℕ) where
  -- day-ahead at a location
  ahead-at : (l : ℕ) → pos 12 *ℤ ahead_at prices xs p l ≡ Σℤ (λ x. only (stands xs p 0 0 l x) (pos 12 *ℤ (signed x *ℤ P prices l))) xs
  ahead-at l =
      ap (λ (z : ℤ). pos 12 *ℤ z) (ahead-form prices xs p l ∙ ap (λ (z : ℤ). z *ℤ P prices l) (net-is xs p 0 0 l) ∙ priced xs p 0 0 l (P prices l))
      ∙ Σ-only-scale (pos 12) (stands xs p 0 0 l) (λ x. signed x *ℤ P prices l) xs

  -- the bracket: real time less day-ahead
  real-at : (k l : ℕ) → real_at prices xs p k l
      ≡ Σℤ (λ x. only (stands xs p 1 k l x) (signed x *ℤ C prices k l)) xs -ℤ Σℤ (λ x. only (stands xs p 0 0 l x) (signed x *ℤ C prices k l)) xs
  real-at k l =
      real-form prices xs p k l
      ∙ ap (λ (z : ℤ). z *ℤ C prices k l) (by-market (A xs p k l) (B xs p l) (D xs p k l) (E xs p l) ∙ ap₂ ◌-ℤ◌ (net-is xs p 1 k l) (net-is xs p 0 0 l))
      ∙ sym (factor (net xs p 1 k l) (net xs p 0 0 l) (C prices k l))
      ∙ ap₂ ◌-ℤ◌ (priced xs p 1 k l (C prices k l)) (priced xs p 0 0 l (C prices k l))

  -- over all locations: each at its own
  module _ (within : Every (λ x. x.location < prices.locations) xs) where
    ahead-positions : sum_to (λ l. pos 12 *ℤ ahead_at prices xs p l) prices.locations ≡ Σℤ (λ x. only (own_position 0 0 p x) (pos 12 *ℤ (signed x *ℤ P prices x.location))) xs
    ahead-positions =
        sum_to-ext _ _ prices.locations (λ l _. ahead-at l)
        ∙ gather (own_position 0 0 p) (λ x. x.location) prices.locations (λ x l. pos 12 *ℤ (signed x *ℤ P prices l)) xs within

    real-positions : (k : ℕ) → sum_to (λ l. real_at prices xs p k l) prices.locations
        ≡ Σℤ (λ x. only (own_position 1 k p x) (signed x *ℤ C prices k x.location)) xs -ℤ Σℤ (λ x. only (own_position 0 0 p x) (signed x *ℤ C prices k x.location)) xs
    real-positions k =
        sum_to-ext _ _ prices.locations (λ l _. real-at k l) ∙ sum_to-minus _ _ prices.locations
        ∙ ap₂ ◌-ℤ◌
        (gather (own_position 1 k p) (λ x. x.location) prices.locations (λ x l. signed x *ℤ C prices k l) xs within)
        (gather (own_position 0 0 p) (λ x. x.location) prices.locations (λ x l. signed x *ℤ C prices k l) xs within)

  -- over the hour: each in its own market and interval
  pub positions-are : Every (PositionPlaced prices.locations) xs → position_parts prices xs p ≡ position_charge prices xs p
  unfolding position_charge owed position_part ahead_weight
  positions-are e =
      sym
      (ap₂ ◌+ℤ◌ (ahead-positions (every_map (λ x h. h.location) xs e)) (sum_to-ext _ _ 12 (λ k _. real-positions (every_map (λ x h. h.location) xs e) k))
      ∙ hours (λ x. eqb x.participant p) (λ x. x.market) (λ x. x.interval) signed
      (λ x. P prices x.location) (λ k x. C prices k x.location) (λ x h. h.timed) xs e)

-- ---- transactions

module _ (prices : Prices) (transactions : List Transaction) (p : ℕ) where
  -- which transactions are of a path, and their kW
  abbrev on : ℕ → ℕ → ℕ → ℕ → Transaction → Bool
  on m k i j t = own_transaction m k p t && eqb t.source i && eqb t.sink j

  abbrev kw : Transaction → ℤ
  kw t = pos t.kw.0

  -- price at the sink less price at the source
  abbrev ahead_rise : ℕ → ℕ → ℤ
  ahead_rise i j = P prices j -ℤ P prices i

  abbrev rise : ℕ → ℕ → ℕ → ℤ
  rise k i j = C prices k j -ℤ C prices k i

  ahead-on : (i j : ℕ) → pos 12 *ℤ ahead_path prices transactions p i j ≡ Σℤ (λ t. only (on 0 0 i j t) (pos 12 *ℤ (kw t *ℤ ahead_rise i j))) transactions
  unfolding ahead_path
  ahead-on i j =
      ap (λ (z : ℤ). pos 12 *ℤ z) (Σ-only-mul (on 0 0 i j) kw (ahead_rise i j) transactions)
      ∙ Σ-only-scale (pos 12) (on 0 0 i j) (λ t. kw t *ℤ ahead_rise i j) transactions

  -- real time less day-ahead
  real-on : (k i j : ℕ) → real_path prices transactions p k i j
      ≡ Σℤ (λ t. only (on 1 k i j t) (kw t *ℤ rise k i j)) transactions -ℤ Σℤ (λ t. only (on 0 0 i j t) (kw t *ℤ rise k i j)) transactions
  real-on k i j =
      path-form prices transactions p k i j
      ∙ sym (factor (carried transactions 1 k p i j) (carried transactions 0 0 p i j) (rise k i j))
      ∙ ap₂ ◌-ℤ◌ (Σ-only-mul (on 1 k i j) kw (rise k i j) transactions) (Σ-only-mul (on 0 0 i j) kw (rise k i j) transactions)

  -- the weight of a difference of prices is the difference of the weights
  weight-rise : (ahead : Bool) (k i j : ℕ)
      → pick ahead (pos 12 *ℤ ahead_rise i j -ℤ sum_to (λ k. rise k i j) 12) (rise k i j)
      ≡ pick ahead (ahead_weight prices j) (C prices k j) -ℤ pick ahead (ahead_weight prices i) (C prices k i)
  unfolding ahead_weight
  weight-rise true k i j =
      ap (λ (z : ℤ). pos 12 *ℤ ahead_rise i j -ℤ z) (sum_to-minus (λ k. C prices k j) (λ k. C prices k i) 12)
      ∙ apart (pos 12) (P prices j) (P prices i) (sum_to (λ k. C prices k j) 12) (sum_to (λ k. C prices k i) 12)
  weight-rise false k i j = refl

  -- over all paths: each transaction on its own
  module _ (from : Every (λ t. t.source < prices.locations) transactions) (to : Every (λ t. t.sink < prices.locations) transactions) where
    ahead-paths : sum_to (λ i. sum_to (λ j. pos 12 *ℤ ahead_path prices transactions p i j) prices.locations) prices.locations
        ≡ Σℤ (λ t. only (own_transaction 0 0 p t) (pos 12 *ℤ (kw t *ℤ ahead_rise t.source t.sink))) transactions
    ahead-paths =
        sum_to-ext _ _ prices.locations (λ i _. sum_to-ext _ _ prices.locations (λ j _. ahead-on i j))
        ∙ gather_pairs (own_transaction 0 0 p) (λ t. t.source) (λ t. t.sink) prices.locations (λ t i j. pos 12 *ℤ (kw t *ℤ ahead_rise i j)) transactions from to

    real-paths : (k : ℕ) → sum_to (λ i. sum_to (λ j. real_path prices transactions p k i j) prices.locations) prices.locations
        ≡ Σℤ (λ t. only (own_transaction 1 k p t) (kw t *ℤ rise k t.source t.sink)) transactions -ℤ Σℤ (λ t. only (own_transaction 0 0 p t) (kw t *ℤ rise k t.source t.sink)) transactions
    real-paths k =
        sum_to-ext _ _ prices.locations (λ i _. sum_to-ext _ _ prices.locations (λ j _. real-on k i j) ∙ sum_to-minus _ _ prices.locations)
        ∙ sum_to-minus _ _ prices.locations
        ∙ ap₂ ◌-ℤ◌
        (gather_pairs (own_transaction 1 k p) (λ t. t.source) (λ t. t.sink) prices.locations (λ t i j. kw t *ℤ rise k i j) transactions from to)
        (gather_pairs (own_transaction 0 0 p) (λ t. t.source) (λ t. t.sink) prices.locations (λ t i j. kw t *ℤ rise k i j) transactions from to)

  -- over the hour: each transaction in its own market and interval
  pub paths-are : Every (TransactionPlaced prices.locations) transactions → transaction_parts prices transactions p ≡ path_charge prices transactions p
  unfolding path_charge owed transaction_part
  paths-are e =
      sym
      (ap₂ ◌+ℤ◌
      (ahead-paths (every_map (λ t h. h.source) transactions e) (every_map (λ t h. h.sink) transactions e))
      (sum_to-ext _ _ 12 (λ k _. real-paths (every_map (λ t h. h.source) transactions e) (every_map (λ t h. h.sink) transactions e) k))
      ∙ hours (λ t. eqb t.participant p) (λ t. t.market) (λ t. t.interval) kw
      (λ t. ahead_rise t.source t.sink) (λ k t. rise k t.source t.sink) (λ t h. h.timed) transactions e
      ∙ Σ-ext _ _ transactions (λ t. ap (λ (z : ℤ). only (eqb t.participant p) (kw t *ℤ z)) (weight-rise (eqb t.market 0) t.interval t.source t.sink)))

-- ---- THE THEOREM

pub same : (prices : Prices) (xs : List Position) (transactions : List Transaction) (p : ℕ)
    → Every (PositionPlaced prices.locations) xs → Every (TransactionPlaced prices.locations) transactions
    → position_parts prices xs p +ℤ transaction_parts prices transactions p ≡ charge prices xs transactions p
unfolding charge
same prices xs transactions p d e = ap₂ ◌+ℤ◌ (positions-are prices xs p d) (paths-are prices transactions p e)
