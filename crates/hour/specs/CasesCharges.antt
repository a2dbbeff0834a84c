-- Worked cases, computed by the definitions. Assumes nothing.
use Rattle.std.specs.Prelude.{◌≡◌, refl, List, [], ◌∷◌, ◌++◌, ℕ, ◌+◌, ◌*◌, ℤ, pos, negsuc, neg_ℤ}
use Rattle.ints.specs.InsideEvery.{owed}
use Rattle.ints.specs.Sum.{Σℤ, sum_to}
use Rattle.hour.specs.declared.Transaction.{Transaction}
use Rattle.hour.specs.InsideParts.{ahead_weight, position_part, transaction_part, position_parts, transaction_parts}
use Rattle.hour.specs.Charges.{ahead_at, real_at, ahead_path, real_path, position_charge, path_charge, charge}
use Rattle.hour.specs.Hour.{Prices, price_list, Position, position_of}

-- ---- to write rows and prices by

abbrev row : ℕ → ℕ → ℕ → ℕ → ℕ → ℕ → Position
row m kind k p l kw = position_of (record { market = m; kind = kind; interval = k; participant = p; location = l; kw = record { 0 = kw } })

abbrev transaction : ℕ → ℕ → ℕ → ℕ → ℕ → ℕ → Transaction
transaction m k p source sink kw = record { market = m; interval = k; participant = p; seller = 0; source = source; sink = sink; kw = record { 0 = kw } }

-- participant 0's MW in day-ahead, and in real time in interval k: kind, location, MW
abbrev ahead : ℕ → ℕ → ℕ → Position
ahead kind l mw = row 0 kind 0 0 l (1000 * mw)

abbrev real : ℕ → ℕ → ℕ → ℕ → Position
real k kind l mw = row 1 kind k 0 l (1000 * mw)

-- what f gives in each of the 12 intervals
abbrev pub each : {A : Type 0} → (ℕ → List A) → List A
each f = f 0 ++ f 1 ++ f 2 ++ f 3 ++ f 4 ++ f 5 ++ f 6 ++ f 7 ++ f 8 ++ f 9 ++ f 10 ++ f 11

-- the same prices in each
abbrev pub alike : List ℤ → List ℤ
alike prices = each (λ k. prices)

-- so many cents, in twelfths
abbrev pub of_cents : ℕ → ℤ
of_cents n = pos (n * 120000)

-- ---- document 002: participant ABC's bills, positions

-- locations are its buses C (0), D (1), A (2) and E (3). Kinds: 0 its load, 1 generation, 3 the purchase, 4 and 5 its decrement bid and increment offer
abbrev schedule : List Position
schedule = ahead 0 0 200 ∷ ahead 4 1 10 ∷ ahead 3 0 100 ∷ ahead 1 2 110 ∷ ahead 5 2 10 ∷ []

-- alike in every interval. Solitude's 37 MW at bus C come in real time only; the bid and the offer have no real-time row
abbrev actual : ℕ → List Position
actual k = real k 0 0 220 ∷ real k 3 0 100 ∷ real k 1 2 110 ∷ real k 1 0 37 ∷ []

abbrev both : List Position
both = schedule ++ each actual

abbrev pub congestion_ahead : List ℤ
congestion_ahead = pos 13240 ∷ pos 19620 ∷ pos 4520 ∷ pos 0 ∷ []

abbrev pub congestion_real : List ℤ
congestion_real = pos 18400 ∷ pos 17810 ∷ pos 3100 ∷ pos 0 ∷ []

abbrev pub loss_ahead : List ℤ
loss_ahead = pos 600 ∷ pos 380 ∷ pos 120 ∷ pos 0 ∷ []

abbrev pub loss_real : List ℤ
loss_real = pos 860 ∷ pos 440 ∷ pos 150 ∷ pos 0 ∷ []

-- prices that are left out count 0, so that the other market's bill stands alone

-- 2,844.20 dollars less 1,866.40
day-ahead-congestion : charge (price_list 4 congestion_ahead []) schedule [] 0 ≡ of_cents 97780
unfolding charge position_charge path_charge ahead_at real_at ahead_path real_path Σℤ sum_to
day-ahead-congestion = refl

-- 123.80 less 74.40
day-ahead-loss : charge (price_list 4 loss_ahead []) schedule [] 0 ≡ of_cents 4940
unfolding charge position_charge path_charge ahead_at real_at ahead_path real_path Σℤ sum_to
day-ahead-loss = refl

-- 368.00 less 178.10 is 189.90, where the course prints 190.00; so 189.90 less 649.80, -459.90, where it prints -459.80
balancing-congestion : charge (price_list 4 [] (alike congestion_real)) both [] 0 ≡ neg_ℤ (of_cents 45990)
unfolding charge position_charge path_charge ahead_at real_at ahead_path real_path Σℤ sum_to
balancing-congestion = refl

-- 12.80 less 30.32
balancing-loss : charge (price_list 4 [] (alike loss_real)) both [] 0 ≡ neg_ℤ (of_cents 1752)
unfolding charge position_charge path_charge ahead_at real_at ahead_path real_path Σℤ sum_to
balancing-loss = refl

-- the hour's charge is the two bills together: 977.80 less 459.90, and 49.40 less 17.52
whole-congestion : charge (price_list 4 congestion_ahead (alike congestion_real)) both [] 0 ≡ of_cents 51790
unfolding charge position_charge path_charge ahead_at real_at ahead_path real_path Σℤ sum_to
whole-congestion = refl

whole-loss : charge (price_list 4 loss_ahead (alike loss_real)) both [] 0 ≡ of_cents 3188
unfolding charge position_charge path_charge ahead_at real_at ahead_path real_path Σℤ sum_to
whole-loss = refl

-- ---- document 002: its purchase of 100 MW from bus E to bus C, as a transaction

abbrev purchase : List Transaction
purchase = transaction 0 0 0 3 0 100000 ∷ each (λ k. transaction 1 k 0 3 0 100000 ∷ [])

-- 1,324 dollars day-ahead; the balancing charge is 0
purchase-congestion : charge (price_list 4 congestion_ahead (alike congestion_real)) [] purchase 0 ≡ of_cents 132400
unfolding charge position_charge path_charge ahead_at real_at ahead_path real_path Σℤ sum_to
purchase-congestion = refl

-- 60 dollars
purchase-loss : charge (price_list 4 loss_ahead (alike loss_real)) [] purchase 0 ≡ of_cents 6000
unfolding charge position_charge path_charge ahead_at real_at ahead_path real_path Σℤ sum_to
purchase-loss = refl

-- ---- the schedule met in every interval, by other kinds that withdraw and inject as much: the day-ahead bill, whatever the real-time prices

abbrev met : ℕ → List Position
met k = real k 0 0 200 ∷ real k 2 1 10 ∷ real k 1 0 100 ∷ real k 3 2 120 ∷ []

met-in-full : charge (price_list 4 loss_ahead (alike (pos 700 ∷ negsuc 49 ∷ pos 20 ∷ pos 0 ∷ []))) (schedule ++ each met) [] 0 ≡ of_cents 4940
unfolding charge position_charge path_charge ahead_at real_at ahead_path real_path Σℤ sum_to
met-in-full = refl

-- ---- document 01, the statement program: 1,000 and 390 cents of loss

abbrev statement : List Position
statement = row 1 0 0 0 1 200000 ∷ row 1 1 0 1 0 110000 ∷ row 1 2 0 1 1 100000 ∷ []

abbrev statement_prices : Prices
statement_prices = price_list 2 (pos 120 ∷ pos 600 ∷ []) (alike (pos 120 ∷ pos 600 ∷ []))

statement-0 : charge statement_prices statement [] 0 ≡ of_cents 1000
unfolding charge position_charge path_charge ahead_at real_at ahead_path real_path Σℤ sum_to
statement-0 = refl

statement-1 : charge statement_prices statement [] 1 ≡ of_cents 390
unfolding charge position_charge path_charge ahead_at real_at ahead_path real_path Σℤ sum_to
statement-1 = refl

-- the same by the parts
statement-parts : position_parts statement_prices statement 1 ≡ of_cents 390
unfolding owed position_part ahead_weight Σℤ sum_to
statement-parts = refl

-- ---- one location, whose real-time prices are 1, 2, .. 12 mills, and 0 day-ahead

abbrev rising : Prices
rising = price_list 1 (pos 0 ∷ []) (pos 1 ∷ pos 2 ∷ pos 3 ∷ pos 4 ∷ pos 5 ∷ pos 6 ∷ pos 7 ∷ pos 8 ∷ pos 9 ∷ pos 10 ∷ pos 11 ∷ pos 12 ∷ [])

-- 10 kW of load day-ahead and no real-time row: taken back in every interval, 10 by 78
no-real-time-row : charge rising (row 0 0 0 0 0 10 ∷ []) [] 0 ≡ neg_ℤ (pos 780)
unfolding charge position_charge path_charge ahead_at real_at ahead_path real_path Σℤ sum_to
no-real-time-row = refl

-- 10 kW of generation: paid in every interval
no-real-time-injection : charge rising (row 0 1 0 0 0 10 ∷ []) [] 0 ≡ pos 780
unfolding charge position_charge path_charge ahead_at real_at ahead_path real_path Σℤ sum_to
no-real-time-injection = refl

-- 1 kW in interval 0: a twelfth, which no price over 12 in whole mills gives
one-twelfth : charge rising (row 1 0 0 0 0 1 ∷ []) [] 0 ≡ pos 1
unfolding charge position_charge path_charge ahead_at real_at ahead_path real_path Σℤ sum_to
one-twelfth = refl

-- two rows alike, 10 kW each in interval 2, whose price is 3 mills
rows_alike : charge rising (row 1 0 2 0 0 10 ∷ row 1 0 2 0 0 10 ∷ []) [] 0 ≡ pos 60
unfolding charge position_charge path_charge ahead_at real_at ahead_path real_path Σℤ sum_to
rows_alike = refl

-- .. and the same two of another participant are nothing to participant 0
rows-of-another : charge rising (row 1 0 2 1 0 10 ∷ row 1 0 2 1 0 10 ∷ []) [] 0 ≡ pos 0
unfolding charge position_charge path_charge ahead_at real_at ahead_path real_path Σℤ sum_to
rows-of-another = refl

-- ---- two locations, whose real-time prices in interval k are 100 k and 100 k + 1 mills, and 0 day-ahead

abbrev stretches : Prices
stretches = price_list 2 (pos 0 ∷ pos 0 ∷ []) (each (λ k. pos (100 * k) ∷ pos (100 * k + 1) ∷ []))

-- 1 kW of load in interval 7 at location 1, and at location 0
interval-7 : charge stretches (row 1 0 7 0 1 1 ∷ []) [] 0 ≡ pos 701
unfolding charge position_charge path_charge ahead_at real_at ahead_path real_path Σℤ sum_to
interval-7 = refl

interval-7-at-0 : charge stretches (row 1 0 7 0 0 1 ∷ []) [] 0 ≡ pos 700
unfolding charge position_charge path_charge ahead_at real_at ahead_path real_path Σℤ sum_to
interval-7-at-0 = refl

-- 1 kW of load day-ahead at location 1 and no real-time row: 100 by 0 + 1 + .. + 11, and 12 by 1, taken back
every-interval : charge stretches (row 0 0 0 0 1 1 ∷ []) [] 0 ≡ neg_ℤ (pos 6612)
unfolding charge position_charge path_charge ahead_at real_at ahead_path real_path Σℤ sum_to
every-interval = refl

every-interval-parts : position_parts stretches (row 0 0 0 0 1 1 ∷ []) 0 ≡ neg_ℤ (pos 6612)
unfolding owed position_part ahead_weight Σℤ sum_to
every-interval-parts = refl

-- ---- a path from 0 to 1, 100 kW day-ahead (price 200 higher at the sink), and 150 kW in interval 3 (150 higher): 12 times 100 by 200, and 50 by 150 charged in
-- interval 3, and 100 by 150 paid in the 11 others

abbrev path_prices : Prices
path_prices = price_list 2 (pos 100 ∷ pos 300 ∷ []) (alike (pos 100 ∷ pos 250 ∷ []))

abbrev path : List Transaction
path = transaction 0 0 0 0 1 100 ∷ transaction 1 3 0 0 1 150 ∷ []

excess-and-shortfall : charge path_prices [] path 0 ≡ pos 82500
unfolding charge position_charge path_charge ahead_at real_at ahead_path real_path Σℤ sum_to
excess-and-shortfall = refl

path-parts : transaction_parts path_prices path 0 ≡ pos 82500
unfolding owed transaction_part ahead_weight Σℤ sum_to
path-parts = refl

-- two transactions alike, 60 kW each in interval 3: 20 by 150 charged there, where each alone would be short, beside 240,000 day-ahead and 165,000 paid
transactions-alike : charge path_prices [] (transaction 0 0 0 0 1 100 ∷ transaction 1 3 0 0 1 60 ∷ transaction 1 3 0 0 1 60 ∷ []) 0 ≡ pos 78000
unfolding charge position_charge path_charge ahead_at real_at ahead_path real_path Σℤ sum_to
transactions-alike = refl

-- the way back is another path: 100 by 150 is paid on the first in all 12 intervals, and 100 by -150 charged for the way back in interval 3
way_back : charge path_prices [] (transaction 0 0 0 0 1 100 ∷ transaction 1 3 0 1 0 100 ∷ []) 0 ≡ pos 45000
unfolding charge position_charge path_charge ahead_at real_at ahead_path real_path Σℤ sum_to
way_back = refl

-- "the participant's own day-ahead kW": participant 1's 150 kW in interval 3 are all excess, and participant 0 is short in all 12
abbrev apart : List Transaction
apart = transaction 0 0 0 0 1 100 ∷ transaction 1 3 1 0 1 150 ∷ []

own-0 : charge path_prices [] apart 0 ≡ pos 60000
unfolding charge position_charge path_charge ahead_at real_at ahead_path real_path Σℤ sum_to
own-0 = refl

own-1 : charge path_prices [] apart 1 ≡ pos 22500
unfolding charge position_charge path_charge ahead_at real_at ahead_path real_path Σℤ sum_to
own-1 = refl

-- "Source and sink may be equal."
circle : charge path_prices [] (transaction 0 0 0 1 1 100 ∷ transaction 1 3 0 1 1 150 ∷ []) 0 ≡ pos 0
unfolding charge position_charge path_charge ahead_at real_at ahead_path real_path Σℤ sum_to
circle = refl

-- "It does nothing else": 10 kW of load in interval 3 at location 1 cost 10 by 250, beside the path's 82,500
row-beside-path : charge path_prices (row 1 0 3 0 1 10 ∷ []) path 0 ≡ pos 85000
unfolding charge position_charge path_charge ahead_at real_at ahead_path real_path Σℤ sum_to
row-beside-path = refl
