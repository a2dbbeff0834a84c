-- What is refused of an hour, and in which order (document 01, "Refusal numbers", and the lines of "Order for an hour" that speak of numbers). What a file adds to it is
-- in crate `exercise`, specs/Order. Assumes nothing.
use Rattle.std.specs.Prelude.{Bool, ◌||◌, ◌&&◌, List, ℕ, ltb, leb, eqb, ℤ, pos, neg_ℤ, nat_abs}
use Rattle.std.specs.Int.Signed.{le_z}
use Rattle.ints.specs.Number.{between}
use Rattle.ints.specs.Refusal.{pick, unless}
use Rattle.ints.specs.Table.{all}
use Rattle.ints.specs.Turn.{◌then◌, in_order}
use Rattle.split.specs.Split.{total}
use Rattle.hour.specs.Hour.{day_ahead, real_time, import, increment_offer, Hour, all_prices}
use Rattle.hour.specs.Surplus.{surplus, shares}
use Rattle.hour.specs.declared.Row.{Row}
use Rattle.hour.specs.declared.Transaction.{Transaction}

-- ---- "1 output lists not as long as the participants"

-- n is how long each has to be
abbrev pub outputs_refusal : ℕ → List ℕ → ℕ
outputs_refusal n lengths = unless (all (λ x. eqb x n) lengths) 1 0

-- ---- "2 prices"

-- "A price is in mills (0.001 dollar) per MWh, -5,000,000 to 5,000,000"
abbrev pub is_price : ℤ → Bool
is_price price = between (neg_ℤ (pos 5000000)) (pos 5000000) price

unfoldable pub prices_refusal : Hour → ℕ
prices_refusal hour = unless (all is_price (all_prices hour)) 2 0

-- ---- "rows in turn (4; 3 participant, location; 2; 9)"

-- a market's kinds: day-ahead up to the increment offer, in real time up to the import ("6 and 7 don't exist"; "4 and 5 are day-ahead only")
abbrev pub has_kind : ℕ → ℕ → Bool
has_kind market kind = pick (eqb market day_ahead) (leb kind increment_offer) (eqb market real_time && leb kind import)

-- a market's intervals: "Day-ahead rows and transactions carry interval 0"; "Real time has 12 intervals, 0 to 11"
abbrev pub has_interval : ℕ → ℕ → Bool
has_interval market interval = pick (eqb market day_ahead) (eqb interval 0) (eqb market real_time && leb interval 11)

-- "(4; 3 participant, location; 2", with so many participants and locations
unfoldable pub row_refusal : ℕ → ℕ → Row → ℕ
row_refusal participants locations row =
    unless (has_kind row.market row.kind) 4
    (unless (has_interval row.market row.interval) 4
    (unless (ltb row.participant participants) 3
    (unless (ltb row.location locations) 3
    (unless (leb row.kw.0 20000000) 2
    0))))

-- "; 9)": "All spare bits are 0", those that a file has beside the row
unfoldable pub packed_row_refusal : ℕ → ℕ → Row → ℕ → ℕ
packed_row_refusal participants locations row spare = row_refusal participants locations row then unless (eqb spare 0) 9 0

-- the spare bits beside row i, and beside transaction i. An hour that no file holds has none: there they are 0
pub record Spare : Type 0 where
  pub row : ℕ → ℕ
  pub transaction : ℕ → ℕ

unfoldable pub rows_refusal : Hour → Spare → ℕ
rows_refusal hour spare = in_order (λ i row. packed_row_refusal hour.participants hour.locations row (spare.row i)) 0 hour.rows

-- ---- "transactions in turn (4; 3 participant, source, sink; 2)"; document 02, ticket 2: "seller 3, after the participant; spare bits 9, after the kW"

-- in edition 0 the seller is 0, and the test of the participant before it has shown that there is such a one
unfoldable pub transaction_refusal : ℕ → ℕ → Transaction → ℕ
transaction_refusal participants locations transaction =
    unless (has_interval transaction.market transaction.interval) 4
    (unless (ltb transaction.participant participants) 3
    (unless (ltb transaction.seller participants) 3
    (unless (ltb transaction.source locations) 3
    (unless (ltb transaction.sink locations) 3
    (unless (leb transaction.kw.0 20000000) 2
    0)))))

unfoldable pub packed_transaction_refusal : ℕ → ℕ → Transaction → ℕ → ℕ
packed_transaction_refusal participants locations transaction spare = transaction_refusal participants locations transaction then unless (eqb spare 0) 9 0

unfoldable pub transactions_refusal : Hour → Spare → ℕ
transactions_refusal hour spare =
    in_order (λ i transaction. packed_transaction_refusal hour.participants hour.locations transaction (spare.transaction i)) 0 hour.transactions

-- ---- "2 prices; rows in turn (..); transactions in turn (..)"

unfoldable pub content_refusal : Hour → Spare → ℕ
content_refusal hour spare = prices_refusal hour then rows_refusal hour spare then transactions_refusal hour spare

-- ---- "10; 7"

-- a share that isn't above the most that there may be
abbrev pub not_above : ℕ → ℤ → Bool
not_above most share = le_z share (pos most)

-- 10: "surplus beyond 1,000,000,000 cents in size, or a participant's share above 4,000,000,000"; 7: "shares total 0 and the amount isn't 0"
unfoldable pub surplus_refusal : ℤ → List ℤ → ℕ
surplus_refusal surplus shares =
    unless (between (neg_ℤ (pos 1000000000)) (pos 1000000000) surplus) 10
    (unless (all (not_above 4000000000) shares) 10
    (unless (ltb 0 (total shares) || eqb (nat_abs surplus) 0) 7
    0))

abbrev pub credits_refusal : Hour → ℕ
credits_refusal hour = surplus_refusal (surplus hour) (shares hour)
