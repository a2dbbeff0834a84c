-- What one position, and one transaction, adds to its participant's charge: kW times a weight that is computed once a location. The fast form of the charges, which
-- proofs/Theorem.antt joins to the tariff's. Assumes nothing.
use Rattle.std.specs.Prelude.{Bool, ◌||◌, List, ◌++◌, ℕ, ◌+◌, ◌*◌, ◌<◌, eqb, take, drop, ℤ, pos, negsuc, neg_ℤ, ◌+ℤ◌, ◌-ℤ◌, ◌*ℤ◌}
use Rattle.ints.specs.InsideEvery.{keep, to_owner, owed}
use Rattle.ints.specs.Refusal.{pick}
use Rattle.ints.specs.Sum.{sum_to}
use Rattle.ints.specs.Table.{◌at◌, tab}
use Rattle.hour.specs.Charges.{P, C}
use Rattle.hour.specs.Hour.{day_ahead, Prices, price_list, Position}
use Rattle.hour.specs.InsideTested.{Timed}
use Rattle.hour.specs.declared.Edition.{Edition}
use Rattle.hour.specs.declared.Row.{Row}
use Rattle.hour.specs.declared.Transaction.{Transaction}

-- 1 for what is withdrawn, -1 for what is injected
abbrev pub sign : Bool → ℤ
sign withdrawal = pick withdrawal (pos 1) (negsuc 0)

-- a day-ahead kW at l is priced for the whole hour and taken back in each of the 12 intervals
unfoldable pub ahead_weight : Prices → ℕ → ℤ
ahead_weight prices l = pos 12 *ℤ P prices l -ℤ sum_to (λ k. C prices k l) 12

-- what a kW counts at l, by its market and interval
abbrev pub weight : Prices → ℕ → ℕ → ℕ → ℤ
weight prices market interval l = pick (eqb market day_ahead) (ahead_weight prices l) (C prices interval l)

-- ---- the table that rows and transactions are weighed by, one for congestion and one for losses

-- a price list as it stands in a file: for each location its day-ahead price, then the real-time prices, interval by interval
abbrev pub listed_prices : ℕ → List ℤ → Prices
listed_prices locations list = price_list locations (take locations list) (drop locations list)

-- its table: what a day-ahead kW counts at each location, in the place of its day-ahead price
abbrev pub weighed : ℕ → List ℤ → List ℤ
weighed locations list = tab (ahead_weight (listed_prices locations list)) locations ++ drop locations list

-- what a kW counts by the table. Day-ahead is market 0 and has interval 0, real time is market 1: so one place serves both
abbrev pub weight_in : List ℤ → ℕ → ℕ → ℕ → ℕ → ℤ
weight_in table locations market interval l = table at ((market + interval) * locations + l)

-- ---- what is added

unfoldable pub position_part : Prices → Position → ℤ
position_part prices x = sign x.withdrawal *ℤ pos x.kw *ℤ weight prices x.market x.interval x.location

-- of a transaction, its path
unfoldable pub transaction_part : Prices → Transaction → ℤ
transaction_part prices t =
    pos t.kw.0 *ℤ (weight prices t.market t.interval t.sink -ℤ weight prices t.market t.interval t.source)

-- ---- a transaction whole, path and legs, by what a kW counts in a market and interval at a location

-- to its participant. With a seller, what the participant pays for the path at the sink it is paid for what it injects there, so that the source is left
unfoldable pub buyer_part : Edition → (ℕ → ℕ → ℕ → ℤ) → Transaction → ℤ
buyer_part Edition.PathOnly counts t = pos t.kw.0 *ℤ (counts t.market t.interval t.sink -ℤ counts t.market t.interval t.source)
buyer_part Edition.WithSeller counts t = neg_ℤ (pos t.kw.0 *ℤ counts t.market t.interval t.source)

-- to its seller
unfoldable pub seller_part : Edition → (ℕ → ℕ → ℕ → ℤ) → Transaction → ℤ
seller_part Edition.PathOnly counts t = pos 0
seller_part Edition.WithSeller counts t = pos t.kw.0 *ℤ counts t.market t.interval t.source

-- to participant p, who may be both
abbrev pub adds_to : Edition → (ℕ → ℕ → ℕ → ℤ) → Transaction → ℕ → ℤ
adds_to edition counts t p = to_owner (λ t. t.participant) (buyer_part edition counts) t p +ℤ to_owner (λ t. t.seller) (seller_part edition counts) t p

-- the parts of p's own positions, and transactions
abbrev pub position_parts : Prices → List Position → ℕ → ℤ
position_parts prices xs p = owed (λ x. x.participant) (position_part prices) xs p

abbrev pub transaction_parts : Prices → List Transaction → ℕ → ℤ
transaction_parts prices transactions p = owed (λ t. t.participant) (transaction_part prices) transactions p

-- what the theorem asks of a position, and of a transaction; an hour's have been tested
pub record PositionPlaced (locations : ℕ) (x : Position) : Type 0 where
  pub timed : Timed x.market x.interval
  pub location : x.location < locations

pub record TransactionPlaced (locations : ℕ) (t : Transaction) : Type 0 where
  pub timed : Timed t.market t.interval
  pub source : t.source < locations
  pub sink : t.sink < locations

-- p's own
abbrev pub own_positions : ℕ → List Position → List Position
own_positions p xs = keep (λ x. eqb x.participant p) xs

abbrev pub own_rows : ℕ → List Row → List Row
own_rows p rows = keep (λ r. eqb r.participant p) rows

abbrev pub own_transactions : ℕ → List Transaction → List Transaction
own_transactions p transactions = keep (λ t. eqb t.participant p) transactions

-- those that p has a part in: as its participant, and with a seller also as that
abbrev pub is_party : Edition → ℕ → Transaction → Bool
is_party Edition.PathOnly p t = eqb t.participant p
is_party Edition.WithSeller p t = eqb t.participant p || eqb t.seller p

abbrev pub party_transactions : Edition → ℕ → List Transaction → List Transaction
party_transactions edition p transactions = keep (is_party edition p) transactions
