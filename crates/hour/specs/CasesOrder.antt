-- What is refused of prices, rows, transactions, output lists and a surplus: at both sides of each limit, and where two reasons meet. In the groups of a row, and of a
-- transaction, something is wrong that the next group would refuse: an answer tells whether what is tried is taken (then it is the next group's), and that its own reason
-- comes before the next. Assumes nothing.
use Rattle.std.specs.Prelude.{◌≡◌, refl, true, false, List, [], ◌∷◌, ℕ, ℤ, pos, neg_ℤ}
use Rattle.ints.specs.Sum.{sum_nat}
use Rattle.ints.specs.Table.{all}
use Rattle.ints.specs.Turn.{in_order}
use Rattle.split.specs.Split.{total}
use Rattle.hour.specs.Hour.{day_ahead, real_time, load, import, decrement_bid, increment_offer}
use Rattle.hour.specs.Order.{is_price, prices_refusal, row_refusal, packed_row_refusal, rows_refusal, transaction_refusal, packed_transaction_refusal, transactions_refusal, content_refusal, outputs_refusal, surplus_refusal}
use Rattle.hour.specs.declared.Row.{Row}
use Rattle.hour.specs.declared.Edition.TheVariants as Edition
use Rattle.hour.specs.declared.Transaction.{Transaction}

-- ---- 2, of a price: "-5,000,000 to 5,000,000"

pub record PriceCases : Type 0 where
  pub least : is_price (neg_ℤ (pos 5000000)) ≡ true
  pub below : is_price (neg_ℤ (pos 5000001)) ≡ false
  pub largest : is_price (pos 5000000) ≡ true
  pub above : is_price (pos 5000001) ≡ false

pub price-cases : PriceCases
price-cases = record { least = refl; below = refl; largest = refl; above = refl }

-- ---- a row, of 2 participants and 3 locations

abbrev row : ℕ → ℕ → ℕ → ℕ → ℕ → ℕ → Row
row m kind k p l kw = record { market = m; kind = kind; interval = k; participant = p; location = l; kw = record { 0 = kw } }

-- 4, before 3: the participant is none
abbrev fits : ℕ → ℕ → ℕ → ℕ
fits market kind interval = row_refusal 2 3 (row market kind interval 2 0 0)

pub record KindCases : Type 0 where
  -- "6 and 7 don't exist"
  pub last-kind : fits day_ahead increment_offer 0 ≡ 3
  pub kind-6 : fits day_ahead 6 0 ≡ 4
  pub kind-7 : fits day_ahead 7 0 ≡ 4
  -- "4 and 5 are day-ahead only"
  pub bid : fits day_ahead decrement_bid 0 ≡ 3
  pub last-in-real-time : fits real_time import 0 ≡ 3
  pub bid-in-real-time : fits real_time decrement_bid 0 ≡ 4
  pub offer-in-real-time : fits real_time increment_offer 0 ≡ 4
  pub kind-7-in-real-time : fits real_time 7 0 ≡ 4
  -- "Day-ahead rows and transactions carry interval 0"
  pub ahead : fits day_ahead load 0 ≡ 3
  pub ahead-in-1 : fits day_ahead load 1 ≡ 4
  pub ahead-in-15 : fits day_ahead load 15 ≡ 4
  -- "Real time has 12 intervals, 0 to 11"
  pub first-interval : fits real_time load 0 ≡ 3
  pub last-interval : fits real_time load 11 ≡ 3
  pub interval-12 : fits real_time load 12 ≡ 4
  -- "a market (day-ahead 0, real time 1)"
  pub market-2 : fits 2 load 0 ≡ 4

pub kind-cases : KindCases
unfolding row_refusal
kind-cases = record {
  last-kind = refl;
  kind-6 = refl;
  kind-7 = refl;
  bid = refl;
  last-in-real-time = refl;
  bid-in-real-time = refl;
  offer-in-real-time = refl;
  kind-7-in-real-time = refl;
  ahead = refl;
  ahead-in-1 = refl;
  ahead-in-15 = refl;
  first-interval = refl;
  last-interval = refl;
  interval-12 = refl;
  market-2 = refl;
}

-- 3, before 2: 20,000,001 kW
abbrev named : ℕ → ℕ → ℕ
named participant location = row_refusal 2 3 (row real_time load 0 participant location 20000001)

pub record NameCases : Type 0 where
  pub first : named 0 0 ≡ 2
  pub last-participant : named 1 0 ≡ 2
  pub participant-above : named 2 0 ≡ 3
  pub last-location : named 0 2 ≡ 2
  pub location-above : named 0 3 ≡ 3

pub name-cases : NameCases
unfolding row_refusal
name-cases = record {
  first = refl;
  last-participant = refl;
  participant-above = refl;
  last-location = refl;
  location-above = refl;
}

-- 2: "Power is in kW, 0 to 20,000,000"
abbrev heavy : ℕ → ℕ
heavy kw = row_refusal 2 3 (row real_time load 0 0 0 kw)

pub record KwCases : Type 0 where
  pub no-kw : heavy 0 ≡ 0
  pub most-kw : heavy 20000000 ≡ 0
  pub kw-above : heavy 20000001 ≡ 2

pub kw-cases : KwCases
unfolding row_refusal
kw-cases = record {
  no-kw = refl;
  most-kw = refl;
  kw-above = refl;
}

-- ---- a transaction, likewise

abbrev transaction : ℕ → ℕ → ℕ → ℕ → ℕ → ℕ → ℕ → Transaction
transaction m k p seller source sink kw = record { market = m; interval = k; participant = p; seller = seller; source = source; sink = sink; kw = record { 0 = kw } }

-- 4, before 3: the participant is none
abbrev path_fits : ℕ → ℕ → ℕ
path_fits market interval = transaction_refusal 2 3 (transaction market interval 2 0 0 0 0)

-- 3, before 2: 20,000,001 kW
abbrev path_named : ℕ → ℕ → ℕ → ℕ → ℕ
path_named participant seller source sink = transaction_refusal 2 3 (transaction real_time 0 participant seller source sink 20000001)

-- 2, before 9: spare bits
abbrev path_heavy : ℕ → ℕ → ℕ
path_heavy kw spare = packed_transaction_refusal 2 3 (transaction real_time 0 0 0 0 0 kw) spare

pub record PathCases : Type 0 where
  pub path-ahead : path_fits day_ahead 0 ≡ 3
  pub path-ahead-in-1 : path_fits day_ahead 1 ≡ 4
  pub path-last-interval : path_fits real_time 11 ≡ 3
  pub path-interval-12 : path_fits real_time 12 ≡ 4
  pub path-market-2 : path_fits 2 0 ≡ 4
  pub path-first : path_named 0 0 0 0 ≡ 2
  pub path-last : path_named 1 1 2 2 ≡ 2
  pub path-participant-above : path_named 2 0 0 0 ≡ 3
  pub path-seller-above : path_named 0 2 0 0 ≡ 3
  pub path-source-above : path_named 0 0 3 0 ≡ 3
  pub path-sink-above : path_named 0 0 0 3 ≡ 3
  pub path-no-kw : path_heavy 0 0 ≡ 0
  pub path-most-kw : path_heavy 20000000 0 ≡ 0
  pub path-kw-above : path_heavy 20000001 3 ≡ 2
  pub path-spare-lower : path_heavy 20000000 1 ≡ 9
  pub path-spare-upper : path_heavy 20000000 2 ≡ 9

pub path-cases : PathCases
unfolding packed_transaction_refusal transaction_refusal
path-cases = record {
  path-ahead = refl;
  path-ahead-in-1 = refl;
  path-last-interval = refl;
  path-interval-12 = refl;
  path-market-2 = refl;
  path-first = refl;
  path-last = refl;
  path-participant-above = refl;
  path-seller-above = refl;
  path-source-above = refl;
  path-sink-above = refl;
  path-no-kw = refl;
  path-most-kw = refl;
  path-kw-above = refl;
  path-spare-lower = refl;
  path-spare-upper = refl;
}

-- ---- "2 prices; rows in turn (4; 3 participant, location; 2; 9); transactions in turn (4; 3 participant, source, sink; 2)", of 2 participants and 3 locations

-- with a price, the first row's kW, the spare bits beside each row, the second row's kind, the path's sink, and the spare bits beside it
abbrev tried : ℤ → ℕ → ℕ → ℕ → ℕ → ℕ → ℕ
tried price kw spare kind sink beside =
    content_refusal
    record {
      participants = 2;
      locations = 3;
      congestion_ahead = [];
      congestion_real = [];
      loss_ahead = pos 0 ∷ [];
      loss_real = price ∷ [];
      rows = row real_time load 0 0 0 kw ∷ row real_time kind 0 0 0 0 ∷ [];
      edition = Edition.WithSeller;
      transactions = transaction real_time 0 0 0 0 sink 0 ∷ [];
    }
    record { row = λ i. spare; transaction = λ i. beside }

pub record ContentCases : Type 0 where
  pub nothing : tried (pos 0) 0 0 load 2 0 ≡ 0
  pub price-first : tried (pos 5000001) 0 0 6 2 0 ≡ 2
  pub kw-before-spare : tried (pos 0) 20000001 1 load 2 0 ≡ 2
  pub in-turn : tried (pos 0) 0 1 6 2 0 ≡ 9
  pub row_next : tried (pos 0) 0 0 6 3 0 ≡ 4
  pub transaction-last : tried (pos 0) 0 0 load 3 1 ≡ 3
  pub spare-last : tried (pos 0) 0 0 load 2 1 ≡ 9

pub content-cases : ContentCases
unfolding content_refusal prices_refusal rows_refusal transactions_refusal in_order packed_row_refusal row_refusal packed_transaction_refusal transaction_refusal all
content-cases = record {
  nothing = refl;
  price-first = refl;
  kw-before-spare = refl;
  in-turn = refl;
  row_next = refl;
  transaction-last = refl;
  spare-last = refl;
}

-- ---- 10 and 7: the largest surplus, either way, and share, and one more

most-surplus : surplus_refusal (pos 1000000000) (pos 1 ∷ []) ≡ 0
unfolding surplus_refusal all total sum_nat
most-surplus = refl

least-surplus : surplus_refusal (neg_ℤ (pos 1000000000)) (pos 1 ∷ []) ≡ 0
unfolding surplus_refusal all total sum_nat
least-surplus = refl

more-surplus : surplus_refusal (pos 1000000001) (pos 1 ∷ []) ≡ 10
unfolding surplus_refusal all total sum_nat
more-surplus = refl

most-share : surplus_refusal (pos 1) (pos 0 ∷ pos 4000000000 ∷ []) ≡ 0
unfolding surplus_refusal all total sum_nat
most-share = refl

more-share : surplus_refusal (pos 1) (pos 0 ∷ pos 4000000001 ∷ []) ≡ 10
unfolding surplus_refusal all total sum_nat
more-share = refl

-- whatever the surplus
share-without-surplus : surplus_refusal (pos 0) (pos 4000000001 ∷ []) ≡ 10
unfolding surplus_refusal all total sum_nat
share-without-surplus = refl

-- 10 before 7
pub surplus-beyond : surplus_refusal (neg_ℤ (pos 1000000001)) (pos 0 ∷ []) ≡ 10
unfolding surplus_refusal all total sum_nat
surplus-beyond = refl

pub no-share : surplus_refusal (pos 1) (pos 0 ∷ []) ≡ 7
unfolding surplus_refusal all total sum_nat
no-share = refl

no-share-below : surplus_refusal (neg_ℤ (pos 1)) (pos 0 ∷ pos 0 ∷ []) ≡ 7
unfolding surplus_refusal all total sum_nat
no-share-below = refl

-- "shares total 0 and the amount isn't 0"
nothing-to-share : surplus_refusal (pos 0) (pos 0 ∷ []) ≡ 0
unfolding surplus_refusal all total sum_nat
nothing-to-share = refl

-- ---- 1: each of the four lists, of two participants

abbrev four : ℕ → ℕ → ℕ → ℕ → List ℕ
four congestion loss credit net = congestion ∷ loss ∷ credit ∷ net ∷ []

all-four : outputs_refusal 2 (four 2 2 2 2) ≡ 0
unfolding all
all-four = refl

first-list : outputs_refusal 2 (four 1 2 2 2) ≡ 1
unfolding all
first-list = refl

second-list : outputs_refusal 2 (four 2 3 2 2) ≡ 1
unfolding all
second-list = refl

third-list : outputs_refusal 2 (four 2 2 0 2) ≡ 1
unfolding all
third-list = refl

fourth-list : outputs_refusal 2 (four 2 2 2 3) ≡ 1
unfolding all
fourth-list = refl
