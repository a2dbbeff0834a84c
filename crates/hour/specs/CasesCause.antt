-- Why a price, a row, a transaction, a surplus or a share is refused, worked: at each field, and where several numbers are outside their ranges. Assumes nothing.
use Rattle.std.specs.Prelude.{◌≡◌, refl, [], ◌∷◌, ℕ, ◌*◌, pos, negsuc, neg_ℤ}
use Rattle.ints.specs.Sum.{sum_nat}
use Rattle.split.specs.Split.{total}
use Rattle.hour.specs.Cause.{Cause, of_price, of_row, of_transaction, of_surplus, of_share, cause, no_cause, tested, first_cause, price_cause, row_cause, rows_cause, transaction_cause, unshared_cause, surplus_cause}
use Rattle.hour.specs.Hour.{day_ahead, real_time, load, decrement_bid, increment_offer}
use Rattle.hour.specs.declared.Row.{Row}
use Rattle.hour.specs.declared.Edition.TheVariants as Edition

-- ---- row 7 of 2 participants and 3 locations

abbrev why : ℕ → ℕ → ℕ → ℕ → ℕ → ℕ → ℕ → Cause
why market kind interval participant location kw spare =
    row_cause 2 3 7 (record { market = market; kind = kind; interval = interval; participant = participant; location = location; kw = record { 0 = kw } }) spare

pub record RowCases : Type 0 where
  pub taken : why real_time load 11 1 2 20000000 0 ≡ no_cause
  -- field by field, in the file's order
  pub market : why 2 load 0 1 2 600 0 ≡ cause 4 of_row 7 0 (pos 2) (pos 0) (pos 1)
  pub kind : why day_ahead 6 0 1 2 600 0 ≡ cause 4 of_row 7 1 (pos 6) (pos 0) (pos 5)
  pub bid-in-real-time : why real_time decrement_bid 0 1 2 600 0 ≡ cause 4 of_row 7 1 (pos 4) (pos 0) (pos 3)
  pub interval-day-ahead : why day_ahead increment_offer 1 1 2 600 0 ≡ cause 4 of_row 7 2 (pos 1) (pos 0) (pos 0)
  pub interval-12 : why real_time load 12 1 2 600 0 ≡ cause 4 of_row 7 2 (pos 12) (pos 0) (pos 11)
  pub participant : why real_time load 0 2 2 600 0 ≡ cause 3 of_row 7 3 (pos 2) (pos 0) (pos 1)
  pub location : why real_time load 0 1 3 600 0 ≡ cause 3 of_row 7 4 (pos 3) (pos 0) (pos 2)
  pub kw : why real_time load 0 1 2 20000001 0 ≡ cause 2 of_row 7 5 (pos 20000001) (pos 0) (pos 20000000)
  pub spare : why real_time load 0 1 2 600 4 ≡ cause 9 of_row 7 6 (pos 4) (pos 0) (pos 0)
  -- a number below 0, which a list of numbers may have: its 64 bits stand for it
  pub below-0 : why real_time load 0 18446744073709551615 2 600 0 ≡ cause 3 of_row 7 3 (negsuc 0) (pos 0) (pos 1)
  -- the first of several
  pub all-wrong : why 2 7 15 63 63 33554431 7 ≡ cause 4 of_row 7 0 (pos 2) (pos 0) (pos 1)
  pub from-the-kind : why real_time 7 15 63 63 33554431 7 ≡ cause 4 of_row 7 1 (pos 7) (pos 0) (pos 3)
  pub from-the-interval : why real_time load 15 63 63 33554431 7 ≡ cause 4 of_row 7 2 (pos 15) (pos 0) (pos 11)
  pub from-the-participant : why real_time load 0 63 63 33554431 7 ≡ cause 3 of_row 7 3 (pos 63) (pos 0) (pos 1)
  pub from-the-location : why real_time load 0 0 63 33554431 7 ≡ cause 3 of_row 7 4 (pos 63) (pos 0) (pos 2)
  pub from-the-kw : why real_time load 0 0 0 33554431 7 ≡ cause 2 of_row 7 5 (pos 33554431) (pos 0) (pos 20000000)

pub row-cases : RowCases
unfolding row_cause tested
row-cases = record {
  taken = refl;
  market = refl;
  kind = refl;
  bid-in-real-time = refl;
  interval-day-ahead = refl;
  interval-12 = refl;
  participant = refl;
  location = refl;
  kw = refl;
  spare = refl;
  below-0 = refl;
  all-wrong = refl;
  from-the-kind = refl;
  from-the-interval = refl;
  from-the-participant = refl;
  from-the-location = refl;
  from-the-kw = refl;
}

-- ---- which row is told, and with which spare bits: of two rows the first is right, and the second has a spare bit, or a location too many

abbrev two_rows : ℕ → (ℕ → ℕ) → Cause
two_rows location spare =
    rows_cause
    (record {
      participants = 1;
      locations = 1;
      congestion_ahead = [];
      congestion_real = [];
      loss_ahead = [];
      loss_real = [];
      rows = a_row 0 ∷ a_row location ∷ [];
      edition = Edition.PathOnly;
      transactions = [];
    })
    record { row = spare; transaction = λ _. 0 }
  where
    a_row : ℕ → Row
    a_row l = record { market = 0; kind = 0; interval = 0; participant = 0; location = l; kw = record { 0 = 7 } }

pub record SecondCases : Type 0 where
  pub taken : two_rows 0 (λ _. 0) ≡ no_cause
  pub location : two_rows 1 (λ _. 0) ≡ cause 3 of_row 1 4 (pos 1) (pos 0) (pos 0)
  pub spare : two_rows 0 (λ i. 4 * i) ≡ cause 9 of_row 1 6 (pos 4) (pos 0) (pos 0)

pub second-cases : SecondCases
unfolding rows_cause row_cause first_cause tested
second-cases = record { taken = refl; location = refl; spare = refl }

-- ---- transaction 0 of 2 participants and 3 locations, with its spare bits

abbrev why_path : ℕ → ℕ → ℕ → ℕ → ℕ → ℕ → ℕ → ℕ → Cause
why_path market interval participant seller source sink kw spare =
    transaction_cause 2 3 0 (record { market = market; interval = interval; participant = participant; seller = seller; source = source; sink = sink; kw = record { 0 = kw } }) spare

pub record TransactionCases : Type 0 where
  pub taken : why_path real_time 11 1 1 2 2 20000000 0 ≡ no_cause
  pub all-wrong : why_path 2 15 63 62 63 63 33554431 3 ≡ cause 4 of_transaction 0 0 (pos 2) (pos 0) (pos 1)
  pub from-the-interval : why_path day_ahead 15 63 62 63 63 33554431 3 ≡ cause 4 of_transaction 0 1 (pos 15) (pos 0) (pos 0)
  pub from-the-participant : why_path day_ahead 0 63 62 63 63 33554431 3 ≡ cause 3 of_transaction 0 2 (pos 63) (pos 0) (pos 1)
  -- "seller 3, after the participant"
  pub from-the-seller : why_path day_ahead 0 0 62 63 63 33554431 3 ≡ cause 3 of_transaction 0 6 (pos 62) (pos 0) (pos 1)
  pub from-the-source : why_path day_ahead 0 0 0 62 63 33554431 3 ≡ cause 3 of_transaction 0 3 (pos 62) (pos 0) (pos 2)
  pub from-the-sink : why_path day_ahead 0 0 0 0 63 33554431 3 ≡ cause 3 of_transaction 0 4 (pos 63) (pos 0) (pos 2)
  pub from-the-kw : why_path day_ahead 0 0 0 0 0 33554431 3 ≡ cause 2 of_transaction 0 5 (pos 33554431) (pos 0) (pos 20000000)
  -- "spare bits 9, after the kW"
  pub from-the-spare : why_path day_ahead 0 0 0 0 0 20000000 2 ≡ cause 9 of_transaction 0 7 (pos 2) (pos 0) (pos 0)

pub transaction-cases : TransactionCases
unfolding transaction_cause tested
transaction-cases = record { taken = refl; all-wrong = refl; from-the-interval = refl; from-the-participant = refl; from-the-seller = refl; from-the-source = refl; from-the-sink = refl; from-the-kw = refl; from-the-spare = refl }

-- ---- prices, and which of a list is told

pub record PriceCases : Type 0 where
  pub largest : first_cause price_cause 0 (pos 5000000 ∷ neg_ℤ (pos 5000000) ∷ []) ≡ no_cause
  pub above : first_cause price_cause 0 (pos 0 ∷ pos 5000001 ∷ neg_ℤ (pos 6000000) ∷ []) ≡ cause 2 of_price 1 0 (pos 5000001) (neg_ℤ (pos 5000000)) (pos 5000000)
  pub below : first_cause price_cause 0 (pos 0 ∷ pos 1 ∷ neg_ℤ (pos 5000001) ∷ []) ≡ cause 2 of_price 2 0 (neg_ℤ (pos 5000001)) (neg_ℤ (pos 5000000)) (pos 5000000)

pub price-cases : PriceCases
unfolding first_cause tested
price-cases = record { largest = refl; above = refl; below = refl }

-- ---- a surplus in cents, over shares in kW

pub record SurplusCases : Type 0 where
  pub taken : surplus_cause (neg_ℤ (pos 1000000000)) (pos 4000000000 ∷ pos 0 ∷ []) ≡ no_cause
  pub above : surplus_cause (pos 1000000001) (pos 5000000000 ∷ []) ≡ cause 10 of_surplus 0 0 (pos 1000000001) (neg_ℤ (pos 1000000000)) (pos 1000000000)
  pub below : surplus_cause (neg_ℤ (pos 1000000001)) (pos 0 ∷ []) ≡ cause 10 of_surplus 0 0 (neg_ℤ (pos 1000000001)) (neg_ℤ (pos 1000000000)) (pos 1000000000)
  pub share : surplus_cause (pos 0) (pos 1 ∷ pos 4000000001 ∷ pos 5000000000 ∷ []) ≡ cause 10 of_share 1 0 (pos 4000000001) (pos 0) (pos 4000000000)
  -- 13.90 dollars, and nobody with load or exports
  pub unshared : surplus_cause (pos 1390) (pos 0 ∷ pos 0 ∷ []) ≡ cause 7 of_surplus 0 0 (pos 1390) (pos 0) (pos 0)
  pub nothing-unshared : surplus_cause (pos 0) (pos 0 ∷ pos 0 ∷ []) ≡ no_cause

pub surplus-cases : SurplusCases
unfolding surplus_cause unshared_cause first_cause tested total sum_nat
surplus-cases = record { taken = refl; above = refl; below = refl; share = refl; unshared = refl; nothing-unshared = refl }
