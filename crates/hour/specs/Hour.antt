-- An hour (document 01, "Charges"; document 02, ticket 2): its prices, rows and transactions as numbers, whatever they were read from, and the positions that the tariff
-- adds up. Assumes nothing.
use Rattle.std.specs.Prelude.{Bool, true, false, ◌||◌, List, [], ◌∷◌, map, ◌++◌, ℕ, ◌*◌, eqb, ℤ, take, drop}
use Rattle.hour.specs.declared.Edition.{Edition}
use Rattle.hour.specs.declared.Row.{Row}
use Rattle.hour.specs.declared.Transaction.{Transaction}

-- ---- markets and kinds

-- "a market (day-ahead 0, real time 1)"
abbrev pub day_ahead : ℕ
day_ahead = 0

abbrev pub real_time : ℕ
real_time = 1

-- "Kinds: 0 load, 1 generation, 2 export, 3 import, 4 decrement bid, 5 increment offer; 6 and 7 don't exist."
abbrev pub load : ℕ
load = 0

abbrev pub generation : ℕ
generation = 1

abbrev pub export : ℕ
export = 2

abbrev pub import : ℕ
import = 3

abbrev pub decrement_bid : ℕ
decrement_bid = 4

abbrev pub increment_offer : ℕ
increment_offer = 5

-- "0, 2, 4 withdraw; 1, 3, 5 inject." A row of another kind is refused (Order.antt)
abbrev pub withdraws : ℕ → Bool
withdraws kind = eqb kind load || eqb kind export || eqb kind decrement_bid

-- ---- the hour

pub record Hour : Type 0 where
  pub participants : ℕ
  pub locations : ℕ
  -- in mills per MWh: a day-ahead price for each location, and the real-time prices interval by interval
  pub congestion_ahead : List ℤ
  pub congestion_real : List ℤ
  pub loss_ahead : List ℤ
  pub loss_real : List ℤ
  -- "A row is a market (day-ahead 0, real time 1), a kind, an interval, a participant, a location and kW."
  pub rows : List Row
  -- "A transaction (market, interval, participant, source, sink, kW)"; document 02, ticket 2: "Transactions get a seller", in edition 1
  pub edition : Edition
  pub transactions : List Transaction

-- all its prices: "congestion day-ahead for each location, congestion real time interval by interval, then loss the same way"
abbrev pub all_prices : Hour → List ℤ
all_prices hour = hour.congestion_ahead ++ (hour.congestion_real ++ (hour.loss_ahead ++ hour.loss_real))

-- ---- "Congestion and loss use the same rule with different price lists."

-- a price list: for so many locations, day-ahead and real time
pub record Prices : Type 0 where
  pub locations : ℕ
  pub ahead : List ℤ
  pub real : List ℤ

abbrev pub price_list : ℕ → List ℤ → List ℤ → Prices
price_list locations ahead real = record { locations = locations; ahead = ahead; real = real }

abbrev pub congestion_prices : Hour → Prices
congestion_prices hour = price_list hour.locations hour.congestion_ahead hour.congestion_real

abbrev pub loss_prices : Hour → Prices
loss_prices hour = price_list hour.locations hour.loss_ahead hour.loss_real

-- "Each interval's prices are read from their own stretch of the list": interval k's, of a list that goes interval by interval
abbrev pub interval_of : List ℤ → ℕ → ℕ → List ℤ
interval_of prices locations k = take locations (drop (k * locations) prices)

-- ---- positions

-- what the tariff adds up: kW that a participant withdraws, or else injects, at a location, in a market and interval
pub record Position : Type 0 where
  pub market : ℕ
  pub interval : ℕ
  pub participant : ℕ
  pub location : ℕ
  pub withdrawal : Bool
  pub kw : ℕ

-- a row is one
abbrev pub position_of : Row → Position
position_of r =
    record {
      market = r.market;
      interval = r.interval;
      participant = r.participant;
      location = r.location;
      withdrawal = withdraws r.kind;
      kw = r.kw.0;
    }

-- document 02, ticket 2: "a purchase as the buyer's injection at the sink; the sale is the seller's withdrawal at the source". "both legs post in both markets": each in the
-- transaction's own market and interval. The participant is the buyer
abbrev pub purchase_of : Transaction → Position
purchase_of t = record { market = t.market; interval = t.interval; participant = t.participant; location = t.sink; withdrawal = false; kw = t.kw.0 }

abbrev pub sale_of : Transaction → Position
sale_of t = record { market = t.market; interval = t.interval; participant = t.seller; location = t.source; withdrawal = true; kw = t.kw.0 }

-- "an edition: 0 as before, path only": there a transaction costs by its path, and "does nothing else"; "1 has the seller"
abbrev pub legs : Edition → List Transaction → List Position
legs Edition.PathOnly transactions = []
legs Edition.WithSeller transactions = map purchase_of transactions ++ map sale_of transactions

-- those of an hour are its rows and the legs of its transactions
abbrev pub positions : Hour → List Position
positions hour = map position_of hour.rows ++ legs hour.edition hour.transactions

-- ---- an hour with one transaction more

abbrev pub with_transaction : Hour → Transaction → Hour
with_transaction hour t =
    record {
      participants = hour.participants;
      locations = hour.locations;
      congestion_ahead = hour.congestion_ahead;
      congestion_real = hour.congestion_real;
      loss_ahead = hour.loss_ahead;
      loss_real = hour.loss_real;
      rows = hour.rows;
      edition = hour.edition;
      transactions = hour.transactions ++ (t ∷ []);
    }
