-- Purchases worked, with a seller: the buyer's injection at the sink and the seller's withdrawal at the source (document 02, ticket 2). Assumes nothing.
use Rattle.std.specs.Prelude.{◌≡◌, refl, List, [], ◌∷◌, ℕ, ◌+◌, ◌*◌, ℤ, pos, neg_ℤ, replicate}
use Rattle.ints.specs.Sum.{Σℤ, sum_to}
use Rattle.ints.specs.Table.{tab}
use Rattle.hour.specs.CasesCharges.{each, alike, of_cents, congestion_ahead, congestion_real, loss_ahead, loss_real}
use Rattle.hour.specs.Charges.{A, B, D, E, ahead_at, real_at, ahead_path, real_path, position_charge, path_charge, charge, exact_congestion_of, exact_loss_of}
use Rattle.hour.specs.Hour.{day_ahead, real_time, load, generation, export, decrement_bid, increment_offer, Hour, Position, legs}
use Rattle.hour.specs.Surplus.{shares}
use Rattle.hour.specs.declared.Edition.{Edition}
use Rattle.hour.specs.declared.Row.{Row}
use Rattle.hour.specs.declared.Transaction.{Transaction}

-- ---- to write rows and transactions by

abbrev row : ℕ → ℕ → ℕ → ℕ → ℕ → ℕ → Row
row m kind k p l kw = record { market = m; kind = kind; interval = k; participant = p; location = l; kw = record { 0 = kw } }

-- market, interval, buyer, seller, source, sink, kW
abbrev purchase : ℕ → ℕ → ℕ → ℕ → ℕ → ℕ → ℕ → Transaction
purchase m k buyer seller source sink kw = record { market = m; interval = k; participant = buyer; seller = seller; source = source; sink = sink; kw = record { 0 = kw } }

-- ---- document 002: participant ABC's bills (CasesCharges.antt), with its purchase of 100 MW from bus E (3) to bus C (0) as a transaction, and no row for it. ABC is participant 0,
-- and participant 1 sells

abbrev ahead : ℕ → ℕ → ℕ → Row
ahead kind l mw = row day_ahead kind 0 0 l (1000 * mw)

abbrev actual : ℕ → List Row
actual k = row real_time load k 0 0 220000 ∷ row real_time generation k 0 2 110000 ∷ row real_time generation k 0 0 37000 ∷ []

-- the prices of real time are given: without them they count 0, and the day-ahead bill stands alone
abbrev course : List ℤ → List ℤ → Hour
course congestion loss =
    record {
      participants = 2;
      locations = 4;
      congestion_ahead = congestion_ahead;
      congestion_real = congestion;
      loss_ahead = loss_ahead;
      loss_real = loss;
      rows = ahead load 0 200 ∷ ahead decrement_bid 1 10 ∷ ahead generation 2 110 ∷ ahead increment_offer 2 10 ∷ each actual;
      edition = Edition.WithSeller;
      transactions = purchase day_ahead 0 0 1 3 0 100000 ∷ each (λ k. purchase real_time k 0 1 3 0 100000 ∷ []);
    }

pub record CourseCases : Type 0 where
  -- 977.80 dollars, in which "100 MW (eSchedule purchase) * $13.24 = $1324" are an injection's credit, and "100 MW (eSchedule purchase) * ($13.24 - $0) = $1,324 charge"
  pub congestion-ahead : exact_congestion_of (course [] []) 0 ≡ of_cents 230180
  -- 49.40, in which "100 MW (eSchedule purchase) * $0.60 = $60" are a credit, and "100 MW (eSchedule purchase) * ($0.60 - $0) = $60 charge"
  pub loss-ahead : exact_loss_of (course [] []) 0 ≡ of_cents 10940
  -- with the balancing bills: 459.90 and 17.52 less; the purchase's deviation is 0
  pub congestion : exact_congestion_of (course (alike congestion_real) (alike loss_real)) 0 ≡ of_cents 184190
  pub loss : exact_loss_of (course (alike congestion_real) (alike loss_real)) 0 ≡ of_cents 9188
  -- the seller withdraws at bus E, where both prices are 0
  pub seller-congestion : exact_congestion_of (course (alike congestion_real) (alike loss_real)) 1 ≡ pos 0
  pub seller-loss : exact_loss_of (course (alike congestion_real) (alike loss_real)) 1 ≡ pos 0

pub course-cases : CourseCases
unfolding charge position_charge path_charge ahead_at real_at ahead_path real_path Σℤ sum_to
course-cases = record { congestion-ahead = refl; loss-ahead = refl; congestion = refl; loss = refl; seller-congestion = refl; seller-loss = refl }

-- ---- two locations: 500 and 900 mills day-ahead, and 100 k + 10 and 100 k + 17 in interval k, which add up to 6,720 and 6,804. A purchase of 7 kW from location 0 to location 1,
-- day-ahead and in interval 3

abbrev ahead_prices : List ℤ
ahead_prices = pos 500 ∷ pos 900 ∷ []

abbrev real_prices : List ℤ
real_prices = each (λ k. pos (100 * k + 10) ∷ pos (100 * k + 17) ∷ [])

abbrev bought : List Transaction
bought = purchase day_ahead 0 0 1 0 1 7 ∷ []

abbrev bought_late : List Transaction
bought_late = purchase real_time 3 0 1 0 1 7 ∷ []

-- ---- what is posted: the buyer's injection is D and E, the seller's withdrawal is A and B, each at its own location alone

abbrev posted : List Position
posted = legs Edition.WithSeller (purchase day_ahead 0 0 1 0 1 7 ∷ purchase real_time 3 0 1 0 1 5 ∷ [])

pub record PostedCases : Type 0 where
  pub buyer-ahead : E posted 0 1 ≡ pos 7
  pub buyer-real : D posted 0 3 1 ≡ pos 5
  pub seller-ahead : B posted 1 0 ≡ pos 7
  pub seller-real : A posted 1 3 0 ≡ pos 5
  -- in no other interval, and at no other location
  pub buyer-in-4 : D posted 0 4 1 ≡ pos 0
  pub buyer-at-source : E posted 0 0 ≡ pos 0
  pub seller-in-0 : A posted 1 0 0 ≡ pos 0
  pub seller-at-sink : B posted 1 1 ≡ pos 0
  -- the buyer withdraws nothing, and the seller injects nothing
  pub buyer-withdraws : B posted 0 0 ≡ pos 0
  pub seller-injects : E posted 1 1 ≡ pos 0
  -- "an edition: 0 as before, path only"
  pub path-only : legs Edition.PathOnly bought ≡ []

pub posted-cases : PostedCases
unfolding Σℤ
posted-cases = record { buyer-ahead = refl; buyer-real = refl; seller-ahead = refl; seller-real = refl; buyer-in-4 = refl; buyer-at-source = refl; seller-in-0 = refl; seller-at-sink = refl; buyer-withdraws = refl; seller-injects = refl; path-only = refl }

-- ---- the exact charges, path and legs, of an hour of these prices

abbrev owes : Edition → List Row → List Transaction → ℕ → ℤ
owes edition rows transactions p =
    exact_congestion_of
    record {
      participants = 2;
      locations = 2;
      congestion_ahead = ahead_prices;
      congestion_real = real_prices;
      loss_ahead = [];
      loss_real = [];
      rows = rows;
      edition = edition;
      transactions = transactions;
    } p

-- among participants 0 and 1, from a source to a sink, day-ahead and in interval 3
abbrev twice : ℕ → ℕ → ℕ → ℕ → List Transaction
twice buyer seller source sink = purchase day_ahead 0 buyer seller source sink 7 ∷ purchase real_time 3 buyer seller source sink 7 ∷ []

pub record LegCases : Type 0 where
  -- day-ahead alone, which "stand in every one of the 12 intervals". The path: 7 by 400 by 12, less 7 by 7 in each interval, 33,012. The injection: 7 by 900 by 12 paid, and 7 by 6,804
  -- charged, -27,972. The withdrawal: 7 by 500 by 12, less 7 by 6,720
  pub buyer-ahead : owes Edition.WithSeller [] bought 0 ≡ pos 5040
  pub seller-ahead : owes Edition.WithSeller [] bought 1 ≡ neg_ℤ (pos 5040)
  -- in interval 3 alone, at 310 and 317: 49 for the path, 2,219 paid for the injection; 2,170 for the withdrawal
  pub buyer-real : owes Edition.WithSeller [] bought_late 0 ≡ neg_ℤ (pos 2170)
  pub seller-real : owes Edition.WithSeller [] bought_late 1 ≡ pos 2170
  -- edition 0: the path alone; its seller says nothing
  pub path-ahead : owes Edition.PathOnly [] bought 0 ≡ pos 33012
  pub path-real : owes Edition.PathOnly [] bought_late 0 ≡ pos 49
  pub path-seller : owes Edition.PathOnly [] bought 1 ≡ pos 0
  -- buyer and seller the same: all of it comes to nothing
  pub of-oneself : owes Edition.WithSeller [] (twice 1 1 0 1) 1 ≡ pos 0
  -- source and sink the same, location 1: no path, and the legs stay: 7 by 900 by 12 less 7 by 6,804 is 27,972, and 7 by 317
  pub circle-buyer : owes Edition.WithSeller [] (twice 0 1 1 1) 0 ≡ neg_ℤ (pos 30191)
  pub circle-seller : owes Edition.WithSeller [] (twice 0 1 1 1) 1 ≡ pos 30191
  -- what is sold is generated there, and what is bought is the load there: the path is left
  pub used-up : owes Edition.WithSeller (row day_ahead load 0 0 1 7 ∷ []) bought 0 ≡ pos 33012
  pub made : owes Edition.WithSeller (row day_ahead generation 0 1 0 7 ∷ []) bought 1 ≡ pos 0

pub leg-cases : LegCases
unfolding charge position_charge path_charge ahead_at real_at ahead_path real_path Σℤ sum_to
leg-cases = record { buyer-ahead = refl; seller-ahead = refl; buyer-real = refl; seller-real = refl; path-ahead = refl; path-real = refl; path-seller = refl; of-oneself = refl; circle-buyer = refl; circle-seller = refl; used-up = refl; made = refl }

-- ---- a class of three: participant 2 buys of participant 1 in both markets, and participant 1 exports 40 kW at location 1 in interval 3. Congestion is 1 and 2 mills day-ahead and nothing
-- in real time; loss is as above

abbrev threesome : Hour
threesome =
    record {
      participants = 3;
      locations = 2;
      congestion_ahead = pos 1 ∷ pos 2 ∷ [];
      congestion_real = replicate 24 (pos 0);
      loss_ahead = ahead_prices;
      loss_real = real_prices;
      rows = row real_time export 3 1 1 40 ∷ [];
      edition = Edition.WithSeller;
      transactions = twice 2 1 0 1;
    }

pub record ClassCases : Type 0 where
  -- 7 by 1 by 12, from the buyer's path and legs to the seller
  pub congestion : tab (exact_congestion_of threesome) 3 ≡ pos 0 ∷ pos 84 ∷ neg_ℤ (pos 84) ∷ []
  -- 5,040 and -2,170 as above, and 40 by 317 for the export
  pub loss : tab (exact_loss_of threesome) 3 ≡ pos 0 ∷ pos 9810 ∷ pos 2870 ∷ []
  -- "such a transaction adds exactly nothing to the class's exact total": the export's 12,680 are left
  pub congestion-total : sum_to (exact_congestion_of threesome) 3 ≡ pos 0
  pub loss-total : sum_to (exact_loss_of threesome) 3 ≡ pos 12680
  -- "Legs aren't load or exports in the surplus": the export alone
  pub shared : shares threesome ≡ pos 0 ∷ pos 40 ∷ pos 0 ∷ []

pub class_cases : ClassCases
unfolding charge position_charge path_charge ahead_at real_at ahead_path real_path Σℤ sum_to tab shares
class_cases = record { congestion = refl; loss = refl; congestion-total = refl; loss-total = refl; shared = refl }
