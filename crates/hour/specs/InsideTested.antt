-- What the tests leave of a row, of a transaction, and of an hour as a whole. Assumes nothing.
use Rattle.std.specs.Prelude.{◌≡◌, ◌⊎◌, ℕ, ◌*◌, ◌≤◌, ◌<◌, length}
use Rattle.ints.specs.Each.{Every}
use Rattle.ints.specs.InsideRange.{InRange}
use Rattle.hour.specs.Hour.{Hour}
use Rattle.hour.specs.declared.Row.{Row}
use Rattle.hour.specs.declared.Transaction.{Transaction}

-- market and interval fit together: day-ahead carries interval 0, real time one of the 12
abbrev pub Timed : ℕ → ℕ → Type 0
Timed market interval = ((market ≡ 0) × (interval ≡ 0)) ⊎ ((market ≡ 1) × (interval < 12))

pub record RowTested (participants locations : ℕ) (r : Row) : Type 0 where
  pub timed : Timed r.market r.interval
  pub kind : r.kind < 6
  -- decrement bids and increment offers are day-ahead only
  pub real : r.market ≡ 1 → r.kind < 4
  pub participant : r.participant < participants
  pub location : r.location < locations
  pub kw : r.kw.0 ≤ 20000000

pub record TransactionTested (participants locations : ℕ) (t : Transaction) : Type 0 where
  pub timed : Timed t.market t.interval
  pub participant : t.participant < participants
  pub seller : t.seller < participants
  pub source : t.source < locations
  pub sink : t.sink < locations
  pub kw : t.kw.0 ≤ 20000000

-- an hour within all its limits
pub record Sound (hour : Hour) : Type 0 where
  pub some : 1 ≤ hour.participants
  pub few : hour.participants ≤ 64
  pub few-locations : hour.locations ≤ 64
  pub congestion-ahead-long : length hour.congestion_ahead ≡ hour.locations
  pub congestion-real-long : length hour.congestion_real ≡ 12 * hour.locations
  pub loss-ahead-long : length hour.loss_ahead ≡ hour.locations
  pub loss-real-long : length hour.loss_real ≡ 12 * hour.locations
  pub congestion-ahead : InRange hour.congestion_ahead 5000000
  pub congestion-real : InRange hour.congestion_real 5000000
  pub loss-ahead : InRange hour.loss_ahead 5000000
  pub loss-real : InRange hour.loss_real 5000000
  pub few-rows : length hour.rows ≤ 2048
  pub few-transactions : length hour.transactions ≤ 256
  pub each_row : Every (RowTested hour.participants hour.locations) hour.rows
  pub each-transaction : Every (TransactionTested hour.participants hour.locations) hour.transactions
