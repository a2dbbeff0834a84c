-- What holds of every hour, and of every accepted one. Assumes nothing.
use mathlib.Core.Path.{◌≡◌, refl, sym, ap, ap₂, ◌∙◌, subst}
use mathlib.Core.Bool.{Bool, true, false}
use mathlib.Core.List.{List, [], ◌∷◌, map, ◌++◌, append-nil}
use Prim.Native.Nat.{ℕ, ◌*◌, ◌≤◌}
use native.Mathlib.Omega.{arith}
use lib.Dec.{eqb, lit≤}
use lib.IntN.{ℤ, pos, ◌+ℤ◌, +ℤ_idr, +ℤ_assoc}
use lib.ListN.{length}
use Rattle.ints.specs.Each.{Every}
use Rattle.ints.specs.InsideEvery.{keep, to_owner, owed}
use Rattle.ints.specs.InsideRange.{Within, InRange}
use Rattle.ints.specs.Refusal.{pick}
use Rattle.ints.specs.Sum.{Σℤ, sum_to, only, sum}
use Rattle.ints.specs.Table.{◌at◌}
use Rattle.ints.proofs.Adding.{Σ-within, owed-within, only-within}
use Rattle.ints.proofs.Bools.{or-false}
use Rattle.ints.proofs.Gather.{every_map, every_of, every_append, Σ-map, map_last, keep-map, keep_append, keep-keep}
use Rattle.ints.proofs.Ranges.{cut_range, tab-range}
use Rattle.ints.proofs.Sizes.{w-add, w-sub, w-mul, w-lit, w_fits, w-up}
use Rattle.ints.proofs.Sums.{Σ-append, sum_to-ext, sum_to-plus, sum_to-abs, shuffle}
use Rattle.ints.proofs.Tables.{length-tab, get_or-tab}
use Rattle.units.specs.Units.{cents_of}
use Rattle.split.specs.Fair.{Fair}
use Rattle.hour.specs.Charges.{C, position_charge, path_charge, charge, class_total, rows_total, exact_congestion_of, exact_loss_of, congestion_charge, loss_charge, congestion_charges_of, loss_charges_of}
use Rattle.hour.specs.Hour.{Hour, Prices, congestion_prices, loss_prices, Position, position_of, purchase_of, sale_of, legs, positions, with_transaction}
use Rattle.hour.specs.InsideParts.{ahead_weight, weight, position_part, position_parts, transaction_parts, adds_to, PositionPlaced, TransactionPlaced, own_positions, own_rows, own_transactions, is_party, party_transactions}
use Rattle.hour.specs.InsideTested.{RowTested, TransactionTested, Sound}
use Rattle.hour.specs.InsideTotals.{most_cents, most_net, shares_most, hour_most}
use Rattle.hour.specs.Order.{surplus_refusal}
use Rattle.hour.specs.Surplus.{surplus, is_share, share_kw, share_of, shares, credits, nets}
use Rattle.hour.specs.declared.Edition.{Edition}
use Rattle.hour.specs.declared.Row.{Row}
use Rattle.hour.specs.declared.Transaction.{Transaction}
use Rattle.hour.proofs.Additive.{positions-both, paths-both, charge-both}
use Rattle.hour.proofs.Billed.{shares-natural, the-nets}
use Rattle.hour.proofs.Credits.{cents-most, split-accepts, credits-cents, fair-credits, credits-sum, nets-sum, nets-within}
use Rattle.hour.proofs.Legs.{legs-parts, legs-placed, class-nothing, adds-within}
use Rattle.hour.proofs.Own.{own-only}
use Rattle.hour.proofs.Sign.{sign-within}
use Rattle.hour.proofs.Theorem.{same}

-- ---- rows as positions

-- what p's rows add is what its positions add
pub row-parts : (prices : Prices) (rows : List Row) (p : ℕ) → owed (λ r. r.participant) (λ r. position_part prices (position_of r)) rows p ≡ position_parts prices (map position_of rows) p
unfolding owed
row-parts prices rows p = sym (Σ-map position_of (λ x. only (eqb x.participant p) (position_part prices x)) rows)

pub rows-placed : (participants locations : ℕ) (rows : List Row) → Every (RowTested participants locations) rows → Every (PositionPlaced locations) (map position_of rows)
rows-placed participants locations rows e = every_of position_of (PositionPlaced locations) rows (every_map (λ r q. record { timed = q.timed; location = q.location }) rows e)

pub transactions-placed : (participants locations : ℕ) (transactions : List Transaction) → Every (TransactionTested participants locations) transactions → Every (TransactionPlaced locations) transactions
transactions-placed participants locations transactions e = every_map (λ t q. record { timed = q.timed; source = q.source; sink = q.sink }) transactions e

-- row by row and transaction by transaction, path and legs together, to the tariff's charge
both-parts : (prices : Prices) (xs ys : List Position) (p : ℕ) → position_parts prices (xs ++ ys) p ≡ position_parts prices xs p +ℤ position_parts prices ys p
unfolding owed
both-parts prices xs ys p = Σ-append (λ x. to_owner (λ x. x.participant) (position_part prices) x p) xs ys

pub parts-charge : (participants : ℕ) (edition : Edition) (prices : Prices) (rows : List Row) (transactions : List Transaction) (p : ℕ)
    → Every (RowTested participants prices.locations) rows → Every (TransactionTested participants prices.locations) transactions
    → owed (λ r. r.participant) (λ r. position_part prices (position_of r)) rows p +ℤ Σℤ (λ t. adds_to edition (weight prices) t p) transactions
    ≡ charge prices (map position_of rows ++ legs edition transactions) transactions p
parts-charge participants edition prices rows transactions p d e =
    ap₂ ◌+ℤ◌ (row-parts prices rows p) (sym (legs-parts prices p edition transactions))
    ∙ sym (+ℤ_assoc (position_parts prices (map position_of rows) p) (position_parts prices (legs edition transactions) p) (transaction_parts prices transactions p))
    ∙ ap (λ (z : ℤ). z +ℤ transaction_parts prices transactions p) (sym (both-parts prices (map position_of rows) (legs edition transactions) p))
    ∙ same prices (map position_of rows ++ legs edition transactions) transactions p
    (every_append (PositionPlaced prices.locations) (map position_of rows) (legs edition transactions) (rows-placed participants prices.locations rows d) (legs-placed participants prices.locations edition transactions e))
    (transactions-placed participants prices.locations transactions e)

-- ---- document 02, ticket 2: "Show that such a transaction adds exactly nothing to the class's exact total."

-- legs and paths alone, whoever is charged
module _ (prices : Prices) (participants : ℕ) (ts : List Transaction) (e : Every (TransactionTested participants prices.locations) ts) where
  legs-charge : (p : ℕ) → charge prices (legs Edition.WithSeller ts) ts p ≡ Σℤ (λ t. adds_to Edition.WithSeller (weight prices) t p) ts
  legs-charge p =
      sym (same prices (legs Edition.WithSeller ts) ts p (legs-placed participants prices.locations Edition.WithSeller ts e) (transactions-placed participants prices.locations ts e))
      ∙ legs-parts prices p Edition.WithSeller ts

  legs-nothing : sum_to (charge prices (legs Edition.WithSeller ts) ts) participants ≡ pos 0
  legs-nothing = sum_to-ext _ _ participants (λ p _. legs-charge p) ∙ class-nothing participants (weight prices) prices.locations ts e

  -- beside anything else they add nothing
  beside_nothing : (f : ℕ → ℤ) → sum_to (λ p. f p +ℤ charge prices (legs Edition.WithSeller ts) ts p) participants ≡ sum_to f participants
  beside_nothing f =
      sum_to-plus f (charge prices (legs Edition.WithSeller ts) ts) participants
      ∙ ap (λ (z : ℤ). sum_to f participants +ℤ z) legs-nothing ∙ +ℤ_idr (sum_to f participants)

-- of a whole hour with sellers, whatever its rows: the class's exact total is that of its rows alone
pub class-rows : (prices : Prices) (hour : Hour) → hour.edition ≡ Edition.WithSeller → Every (TransactionTested hour.participants prices.locations) hour.transactions
    → class_total prices hour ≡ rows_total prices hour
class-rows prices hour s e =
    let rows = map position_of hour.rows in
    ap (λ (edition : Edition). sum_to (charge prices (rows ++ legs edition hour.transactions) hour.transactions) hour.participants) s
    ∙ sum_to-ext _ _ hour.participants (λ p _. charge-both prices rows (legs Edition.WithSeller hour.transactions) [] hour.transactions p)
    ∙ beside_nothing prices hour.participants hour.transactions e (charge prices rows [])

-- the legs of one transaction more stand among those of the others
module _ (prices : Prices) (ts : List Transaction) (t : Transaction) (p : ℕ) where
  abbrev bought : List Position
  bought = map purchase_of ts

  abbrev sold : List Position
  sold = map sale_of ts

  legs-more : position_charge prices (legs Edition.WithSeller (ts ++ (t ∷ []))) p ≡ position_charge prices (legs Edition.WithSeller ts) p +ℤ position_charge prices (legs Edition.WithSeller (t ∷ [])) p
  legs-more =
      ap₂ (λ (xs ys : List Position). position_charge prices (xs ++ ys) p) (map_last purchase_of ts t) (map_last sale_of ts t)
      ∙ positions-both prices (bought ++ (purchase_of t ∷ [])) (sold ++ (sale_of t ∷ [])) p
      ∙ ap₂ ◌+ℤ◌ (positions-both prices bought (purchase_of t ∷ []) p) (positions-both prices sold (sale_of t ∷ []) p)
      ∙ shuffle (position_charge prices bought p) (position_charge prices (purchase_of t ∷ []) p) (position_charge prices sold p) (position_charge prices (sale_of t ∷ []) p)
      ∙ ap₂ ◌+ℤ◌ (sym (positions-both prices bought sold p)) (sym (positions-both prices (purchase_of t ∷ []) (sale_of t ∷ []) p))

  one_more : (xs : List Position) → charge prices (xs ++ legs Edition.WithSeller (ts ++ (t ∷ []))) (ts ++ (t ∷ [])) p
      ≡ charge prices (xs ++ legs Edition.WithSeller ts) ts p +ℤ charge prices (legs Edition.WithSeller (t ∷ [])) (t ∷ []) p
  unfolding charge
  one_more xs =
      let own = position_charge prices xs p in
      let all = position_charge prices (legs Edition.WithSeller ts) p in
      let one = position_charge prices (legs Edition.WithSeller (t ∷ [])) p in
      ap₂ ◌+ℤ◌
      (positions-both prices xs (legs Edition.WithSeller (ts ++ (t ∷ []))) p ∙ ap (λ (z : ℤ). own +ℤ z) legs-more ∙ sym (+ℤ_assoc own all one) ∙ ap (λ (z : ℤ). z +ℤ one) (sym (positions-both prices xs (legs Edition.WithSeller ts) p)))
      (paths-both prices ts (t ∷ []) p)
      ∙ shuffle (position_charge prices (xs ++ legs Edition.WithSeller ts) p) one (path_charge prices ts p) (path_charge prices (t ∷ []) p)

-- of one transaction more, day-ahead or in real time, in any hour with sellers: it adds nothing
pub adds-nothing : (prices : Prices) (hour : Hour) (t : Transaction) → hour.edition ≡ Edition.WithSeller → TransactionTested hour.participants prices.locations t
    → class_total prices (with_transaction hour t) ≡ class_total prices hour
adds-nothing prices hour t s q =
    let rows = map position_of hour.rows in
    let ts = hour.transactions in
    ap (λ (edition : Edition). sum_to (charge prices (rows ++ legs edition (ts ++ (t ∷ []))) (ts ++ (t ∷ []))) hour.participants) s
    ∙ sum_to-ext _ _ hour.participants (λ p _. one_more prices ts t p rows)
    ∙ beside_nothing prices hour.participants (t ∷ []) (q, tt) (charge prices (rows ++ legs Edition.WithSeller ts) ts)
    ∙ ap (λ (edition : Edition). sum_to (charge prices (rows ++ legs edition ts) ts) hour.participants) (sym s)

-- ---- an hour of edition 0 comes to what it came to: its rows, and its transactions' paths

pub path-only : (prices : Prices) (hour : Hour) → hour.edition ≡ Edition.PathOnly → (p : ℕ) → charge prices (map position_of hour.rows) hour.transactions p ≡ charge prices (positions hour) hour.transactions p
path-only prices hour s p =
    ap (λ (xs : List Position). charge prices xs hour.transactions p)
    (sym (append-nil (map position_of hour.rows)) ∙ ap (λ (edition : Edition). map position_of hour.rows ++ legs edition hour.transactions) (sym s))

-- ---- a participant's charge depends only on the prices, the edition, and the rows and transactions that it has a part in

-- of any two hours, accepted or not
module _ (p : ℕ) where
  -- with a seller: who has no part in a transaction neither bought nor sold
  not-buyer : (t : Transaction) → is_party Edition.WithSeller p t ≡ false → eqb t.participant p ≡ false
  not-buyer t e = (or-false (eqb t.participant p) (eqb t.seller p) e).0

  not-seller : (t : Transaction) → is_party Edition.WithSeller p t ≡ false → eqb t.seller p ≡ false
  not-seller t e = (or-false (eqb t.participant p) (eqb t.seller p) e).1

  -- p's own of the transactions that it has a part in
  pub own-party : (edition : Edition) (ts : List Transaction) → own_transactions p (party_transactions edition p ts) ≡ own_transactions p ts
  own-party Edition.PathOnly ts = keep-keep (λ t. eqb t.participant p) (is_party Edition.PathOnly p) (λ t e. e) ts
  own-party Edition.WithSeller ts = keep-keep (λ t. eqb t.participant p) (is_party Edition.WithSeller p) not-buyer ts

  own-legs : (edition : Edition) (ts : List Transaction) → own_positions p (legs edition (party_transactions edition p ts)) ≡ own_positions p (legs edition ts)
  own-legs Edition.PathOnly ts = refl
  own-legs Edition.WithSeller ts = of-party (party_transactions Edition.WithSeller p ts) ∙ ap₂ (λ (xs ys : List Transaction). map purchase_of xs ++ map sale_of ys) (own-party Edition.WithSeller ts) (keep-keep (λ t. eqb t.seller p) (is_party Edition.WithSeller p) not-seller ts) ∙ sym (of-party ts)
    where
      of-party : (ts : List Transaction) → own_positions p (legs Edition.WithSeller ts) ≡ map purchase_of (keep (λ t. eqb t.participant p) ts) ++ map sale_of (keep (λ t. eqb t.seller p) ts)
      of-party ts = keep_append (λ x. eqb x.participant p) (map purchase_of ts) (map sale_of ts) ∙ ap₂ ◌++◌ (keep-map purchase_of (λ x. eqb x.participant p) ts) (keep-map sale_of (λ x. eqb x.participant p) ts)

module _ (hour other : Hour) (p : ℕ) (same-edition : hour.edition ≡ other.edition) (same_rows : own_rows p hour.rows ≡ own_rows p other.rows) (same-transactions : party_transactions hour.edition p hour.transactions ≡ party_transactions other.edition p other.transactions) where
  -- p's own positions, by what it has a part in
  by-party : (hour : Hour) → own_positions p (positions hour) ≡ map position_of (own_rows p hour.rows) ++ own_positions p (legs hour.edition (party_transactions hour.edition p hour.transactions))
  by-party hour =
      keep_append (λ x. eqb x.participant p) (map position_of hour.rows) (legs hour.edition hour.transactions)
      ∙ ap₂ ◌++◌ (keep-map position_of (λ x. eqb x.participant p) hour.rows) (sym (own-legs p hour.edition hour.transactions))

  own-positions : own_positions p (positions hour) ≡ own_positions p (positions other)
  own-positions =
      by-party hour
      ∙ ap₂ (λ (rows : List Row) (xs : List Position). map position_of rows ++ xs) same_rows (ap₂ (λ (edition : Edition) (ts : List Transaction). own_positions p (legs edition ts)) same-edition same-transactions)
      ∙ sym (by-party other)

  own-paths : own_transactions p hour.transactions ≡ own_transactions p other.transactions
  own-paths = sym (own-party p hour.edition hour.transactions) ∙ ap (own_transactions p) same-transactions ∙ own-party p other.edition other.transactions

  own-charge : (prices : Prices) → charge prices (positions hour) hour.transactions p ≡ charge prices (positions other) other.transactions p
  own-charge prices =
      sym (own-only p prices (positions hour) hour.transactions)
      ∙ ap₂ (λ (x : List Position) (t : List Transaction). charge prices x t p) own-positions own-paths
      ∙ own-only p prices (positions other) other.transactions

  pub own-congestion : congestion_prices hour ≡ congestion_prices other → congestion_charge hour p ≡ congestion_charge other p
  own-congestion e = ap cents_of (own-charge (congestion_prices hour) ∙ ap (λ (prices : Prices). charge prices (positions other) other.transactions p) e)

  pub own-loss : loss_prices hour ≡ loss_prices other → loss_charge hour p ≡ loss_charge other p
  own-loss e = ap cents_of (own-charge (loss_prices hour) ∙ ap (λ (prices : Prices). charge prices (positions other) other.transactions p) e)

-- ---- how large weights, parts and charges are

module _ (prices : Prices) (in-ahead : InRange prices.ahead 5000000) (in-real : InRange prices.real 5000000) where
  C-within : (k l : ℕ) → Within (C prices k l) 5000000
  C-within k l = (cut_range (k * prices.locations) prices.locations in-real).each l

  -- twelve prices, and twelve taken back, 5,000,000 mills each at most
  ahead_within : (l : ℕ) → Within (ahead_weight prices l) 120000000
  unfolding ahead_weight
  ahead_within l = w-sub (w-mul (w-lit {x = pos 12} {k = 12} tt) (in-ahead.each l)) back
    where
      back : Within (sum_to (λ k. C prices k l) 12) 60000000
      back = record { within = omega (arith, sum_to-abs (λ k. C prices k l) 5000000 12 (λ k _. (C-within k l).within)) }

  weight-within : (market interval l : ℕ) → Within (weight prices market interval l) 120000000
  weight-within market interval l = by (eqb market 0)
    where
      by : (t : Bool) → Within (pick t (ahead_weight prices l) (C prices interval l)) 120000000
      by true = ahead_within l
      by false = w-up (C-within interval l) (lit≤ tt)

  row_within : {participants : ℕ} (r : Row) → RowTested participants prices.locations r → Within (position_part prices (position_of r)) 2400000000000000
  unfolding position_part
  row_within r t =
      let kw : Within (pos r.kw.0) 20000000 = record { within = t.kw } in
      w-up (w-mul (w-mul (sign-within (position_of r).withdrawal) kw) (weight-within r.market r.interval r.location)) (lit≤ tt)

  charge-within : (participants : ℕ) (edition : Edition) (rows : List Row) (transactions : List Transaction) (p : ℕ) → length rows ≤ 2048 → length transactions ≤ 256
      → Every (RowTested participants prices.locations) rows → Every (TransactionTested participants prices.locations) transactions
      → Within (charge prices (map position_of rows ++ legs edition transactions) transactions p) hour_most
  charge-within participants edition rows transactions p few few-transactions d e =
      let of-rows = owed-within (λ r. r.participant) (λ r. position_part prices (position_of r)) 2400000000000000 row_within rows d p in
      let of-transactions = Σ-within (λ t. adds_to edition (weight prices) t p) 4800000000000000 (λ t q. adds-within (weight prices) weight-within edition t q.kw p) transactions e in
      subst (λ (z : ℤ). Within z hour_most) (parts-charge participants edition prices rows transactions p d e) (w-up (w-add of-rows of-transactions) (omega arith))

-- a share grows by at most 20,000,000 kW
pub share-range : (r : Row) → r.kw.0 ≤ 20000000 → Within (share_kw r) 20000000
share-range r h = only-within (is_share r.market r.kind) (record { within = h })

-- ---- an hour within its limits

module _ (hour : Hour) (s : Sound hour) where
  -- a participant's exact total: at most 6,144,000,000,000,000,000 in size, below 2 ^ 63
  pub congestion-within : (p : ℕ) → Within (exact_congestion_of hour p) hour_most
  congestion-within p = charge-within (congestion_prices hour) s.congestion-ahead s.congestion-real hour.participants hour.edition hour.rows hour.transactions p s.few-rows s.few-transactions s.each_row s.each-transaction

  pub loss-within : (p : ℕ) → Within (exact_loss_of hour p) hour_most
  loss-within p = charge-within (loss_prices hour) s.loss-ahead s.loss-real hour.participants hour.edition hour.rows hour.transactions p s.few-rows s.few-transactions s.each_row s.each-transaction

  -- a participant's share: at most 40,960,000,000 kW
  pub share-within : (p : ℕ) → Within (share_of hour p) shares_most
  unfolding owed
  share-within p = w-up (owed-within (λ r. r.participant) share_kw 20000000 (λ r t. share-range r t.kw) hour.rows s.each_row p) (omega (arith, s.few-rows))

  -- each of the four lists has a number for each participant
  pub congestions-length : length (congestion_charges_of hour) ≡ hour.participants
  unfolding congestion_charges_of
  congestions-length = length-tab (congestion_charge hour) hour.participants

  pub losses-length : length (loss_charges_of hour) ≡ hour.participants
  unfolding loss_charges_of
  losses-length = length-tab (loss_charge hour) hour.participants

  pub nets-length : length (nets hour) ≡ hour.participants
  unfolding nets
  nets-length = length-tab _ hour.participants

  shares-length : length (shares hour) ≡ hour.participants
  unfolding shares
  shares-length = length-tab (share_of hour) hour.participants

  some : 1 ≤ length (shares hour)
  some = omega (arith, shares-length, s.some)

  few : length (shares hour) ≤ 64
  few = omega (arith, shares-length, s.few)

  -- in cents: no charge is above 76,861,433,640,456 in size
  pub congestion-cents : InRange (congestion_charges_of hour) most_cents
  unfolding congestion_charges_of
  congestion-cents = tab-range (congestion_charge hour) hour.participants most_cents (λ p _. record { within = cents-most (exact_congestion_of hour p) (w_fits (congestion-within p) tt) })

  pub loss-cents : InRange (loss_charges_of hour) most_cents
  unfolding loss_charges_of
  loss-cents = tab-range (loss_charge hour) hour.participants most_cents (λ p _. record { within = cents-most (exact_loss_of hour p) (w_fits (loss-within p) tt) })

  -- ---- .. whose surplus is accepted, too

  module _ (accepts : surplus_refusal (surplus hour) (shares hour) ≡ 0) where
    -- demand 3, of the credits
    pub fair : Fair (surplus hour) (shares hour) (credits hour)
    unfolding credits
    fair = fair-credits (surplus hour) (shares hour) some few (shares-natural hour) accepts

    pub credits-length : length (credits hour) ≡ hour.participants
    credits-length = fair.one_each ∙ shares-length

    credits-total : sum (credits hour) ≡ surplus hour
    unfolding credits
    credits-total = credits-sum (surplus hour) (shares hour) some few (shares-natural hour) accepts

    pub losses-total : sum (loss_charges_of hour) ≡ surplus hour
    unfolding loss_charges_of surplus
    losses-total = ap (sum_to (λ p. loss_charges_of hour at p)) losses-length ∙ sum_to-ext _ _ hour.participants (λ p l. get_or-tab (loss_charge hour) (pos 0) hour.participants p l)

    -- "Then loss charges and credits total the same cents."
    pub same-cents : sum (loss_charges_of hour) ≡ sum (credits hour)
    same-cents = losses-total ∙ sym credits-total

    -- so the nets total the congestion charges
    pub net-total : sum (nets hour) ≡ sum (congestion_charges_of hour)
    net-total =
        ap sum (sym (the-nets hour))
        ∙ nets-sum (congestion_charges_of hour) (loss_charges_of hour) (credits hour) (losses-length ∙ sym congestions-length) (credits-length ∙ sym congestions-length) same-cents

    -- no credit is above 76,861,433,640,456 in size, and no net above 230,584,300,921,368
    pub credit-cents : InRange (credits hour) most_cents
    unfolding credits
    credit-cents = credits-cents (surplus hour) (shares hour) (length (shares hour)) (split-accepts (surplus hour) (shares hour) (length (shares hour)) some few (shares-natural hour) refl accepts)

    pub net-cents : InRange (nets hour) most_net
    net-cents =
        subst (λ (l : List ℤ). InRange l most_net) (the-nets hour)
        (nets-within (congestion_charges_of hour) (loss_charges_of hour) (credits hour) congestion-cents loss-cents credit-cents)
