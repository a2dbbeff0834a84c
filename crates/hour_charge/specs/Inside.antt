-- What the functions that charge an hour hand to one another. Assumes nothing.
use Rattle.std.specs.Prelude.{◌≡◌, List, ℕ, ◌*◌, ◌≤◌, ℤ, ◌+ℤ◌, length}
use Rattle.ints.specs.InsideEvery.{to_owner, owed, Added}
use Rattle.ints.specs.InsideRange.{InRange}
use Rattle.ints.specs.Sum.{Σℤ}
use Rattle.ints.specs.Table.{◌at◌}
use Rattle.exercise.specs.Layout.{transaction_size, edition_of}
use Rattle.exercise.specs.File.{rows_in, transactions_in, price_count, prices_from}
use Rattle.hour.specs.declared.Edition.{Edition}
use Rattle.hour.specs.declared.Row.{Row}
use Rattle.hour.specs.declared.Transaction.{Transaction}
use Rattle.exercise.specs.declared.Header.{Header}
use Rattle.hour.specs.Hour.{Prices, price_list}
use Rattle.hour.specs.InsideParts.{weight_in, adds_to}
use Rattle.hour.specs.InsideTotals.{Charged}
use Rattle.hour_totals.specs.Inside.{part_in}
use Rattle.hour.specs.Surplus.{share_kw}

-- ---- a total for each participant, within a bound

pub record Totals (participants : ℕ) (totals : List ℤ) (k : ℕ) : Type 0 where
  pub long : participants ≤ length totals
  pub range : InRange totals k

-- ---- every participant's total with what its rows, or transactions, add

abbrev pub RowsAdded : List Row → ℕ → List ℤ → List ℤ → List ℤ → Type 0
RowsAdded rows locations table before after = Added (to_owner (λ r. r.participant) (part_in table locations)) rows before after

abbrev pub SharesAdded : List Row → List ℤ → List ℤ → Type 0
SharesAdded rows before after = Added (to_owner (λ r. r.participant) share_kw) rows before after

abbrev pub TransactionsAdded : Edition → List Transaction → ℕ → List ℤ → List ℤ → List ℤ → Type 0
TransactionsAdded edition transactions locations table before after = Added (adds_to edition (weight_in table locations)) transactions before after

-- rows, then transactions: what they add to totals that were 0
pub record BothAdded (h : Header) (rows transactions : List ℕ) (table totals : List ℤ) : Type 0 where
  pub each : (p : ℕ) → totals at p
      ≡ owed (λ r. r.participant) (part_in table h.locations) (rows_in rows h.rows) p
      +ℤ Σℤ (λ t. adds_to (edition_of h.edition) (weight_in table h.locations) t p) (transactions_in (edition_of h.edition) transactions h.transactions)

-- the rows and transactions of two stretches, charged
abbrev pub ChargedIn : Header → Prices → List ℕ → List ℕ → List ℤ → Type 0
ChargedIn h prices rows transactions totals =
    Charged (edition_of h.edition) prices (rows_in rows h.rows) (transactions_in (edition_of h.edition) transactions h.transactions) totals

-- ---- the parts of a file

pub record Stretches (h : Header) (prices rows transactions : List ℕ) : Type 0 where
  pub locations : h.locations ≤ 64
  pub few-rows : h.rows ≤ 2048
  pub few-transactions : h.transactions ≤ 256
  pub prices-whole : 3 * price_count h ≤ length prices
  pub rows_whole : 6 * h.rows ≤ length rows
  pub transactions-whole : transaction_size (edition_of h.edition) * h.transactions ≤ length transactions

-- the congestion and the loss prices
abbrev pub congestion_in : Header → List ℕ → Prices
congestion_in h prices = price_list h.locations (prices_from prices 0 h.locations) (prices_from prices h.locations (12 * h.locations))

abbrev pub loss_in : Header → List ℕ → Prices
loss_in h prices = price_list h.locations (prices_from prices (13 * h.locations) h.locations) (prices_from prices (14 * h.locations) (12 * h.locations))
