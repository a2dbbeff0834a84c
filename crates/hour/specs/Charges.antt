-- The charges of one hour (document 01, "Charges"): congestion by 5.1.3(b)-(d), (f) and 5.1.4A, losses by 5.4.3(b)-(d), (f) and 5.4.4A. Quotes are of 5.1 and of document
-- 01, "Charges". 5.4 has the same equations with Loss Price for Congestion Price: "Congestion and loss use the same rule with different price lists."
-- A charge is kW times mills per MWh, kept exactly in twelfths of a millionth of a dollar. At a day-ahead price, which is for the hour, it counts 12 times; at a real-time
-- price once, since there (5.1.1, 5.4.2(c)) "the dollar-per-MW hour value is divided by the number of Real-time Settlement Intervals in the hour". Nothing is rounded
-- before the end: "A participant's exact total is rounded once". Assumes nothing.
use Rattle.std.specs.Prelude.{Bool, not, ◌&&◌, List, [], map, ℕ, eqb, ℤ, pos, negsuc, ◌+ℤ◌, ◌-ℤ◌, ◌*ℤ◌}
use Rattle.ints.specs.Sum.{Σℤ, sum_to, only}
use Rattle.ints.specs.Table.{◌at◌, tab}
use Rattle.units.specs.Units.{cents_of}
use Rattle.hour.specs.Hour.{day_ahead, real_time, Hour, Prices, congestion_prices, loss_prices, interval_of, Position, position_of, positions}
use Rattle.hour.specs.declared.Transaction.{Transaction}

-- ---- prices

-- the Day-ahead Congestion Price (5.4: Loss Price) at location l
abbrev pub P : Prices → ℕ → ℤ
P prices l = prices.ahead at l

-- "C = Real-time Congestion Price", in interval k at location l. "Each interval's prices are read from their own stretch of the list."
abbrev pub C : Prices → ℕ → ℕ → ℤ
C prices k l = interval_of prices.real prices.locations k at l

-- ---- the kW withdrawn, injected and carried

-- a position, and a transaction, of participant p in market m and interval k. "Day-ahead rows and transactions carry interval 0."
abbrev pub own_position : ℕ → ℕ → ℕ → Position → Bool
own_position m k p x = eqb x.participant p && eqb x.market m && eqb x.interval k

abbrev pub own_transaction : ℕ → ℕ → ℕ → Transaction → Bool
own_transaction m k p t = eqb t.participant p && eqb t.market m && eqb t.interval k

-- the kW that p withdraws, and injects, at location l. "Rows alike add up."
abbrev pub withdrawn : List Position → ℕ → ℕ → ℕ → ℕ → ℤ
withdrawn xs m k p l = Σℤ (λ x. only (x.withdrawal && (own_position m k p x && eqb x.location l)) (pos x.kw)) xs

abbrev pub injected : List Position → ℕ → ℕ → ℕ → ℕ → ℤ
injected xs m k p l = Σℤ (λ x. only (not x.withdrawal && (own_position m k p x && eqb x.location l)) (pos x.kw)) xs

-- the kW that p's transactions carry from source to sink
abbrev pub carried : List Transaction → ℕ → ℕ → ℕ → ℕ → ℕ → ℤ
carried transactions m k p source sink =
    Σℤ (λ t. only (own_transaction m k p t && eqb t.source source && eqb t.sink sink) (pos t.kw.0)) transactions

-- ---- 5.1.3(b), (c), (d), and 5.4.3(b), (c), (d): "For each Day-ahead Settlement Interval", which is the hour

-- (b) "Market Participants shall be charged for transmission congestion resulting from all Market Participant Energy Withdrawals scheduled in the Day-ahead Energy Market
-- at the Day-ahead Congestion Prices applicable to each relevant location"; (c) they "shall be reimbursed for transmission congestion resulting from all Market
-- Participant Energy Injections", likewise; (d) the day-ahead component "is equal to the difference between" the charge of (b) and the credit of (c).
-- Document 01: "Day-ahead, per location: (withdrawals - injections) times the day-ahead price."
unfoldable pub ahead_at : Prices → List Position → ℕ → ℕ → ℤ
ahead_at prices xs p l = withdrawn xs day_ahead 0 p l *ℤ P prices l -ℤ injected xs day_ahead 0 p l *ℤ P prices l

-- ---- 5.1.3(f), and 5.4.3(f): "For each Real-time Settlement Interval"

-- "A = The Market Participant Energy Withdrawal megawatts in real-time at the location at which both the Market Participant withdraws energy and such energy is priced"
abbrev pub A : List Position → ℕ → ℕ → ℕ → ℤ
A xs p k l = withdrawn xs real_time k p l

-- "B = The Market Participant Energy Withdrawal megawatts in day-ahead at the location at which both the Market Participant withdraws energy and such energy is priced".
-- It has no interval: "The day-ahead kW stand in every one of the 12 intervals, also where no real-time row does."
abbrev pub B : List Position → ℕ → ℕ → ℤ
B xs p l = withdrawn xs day_ahead 0 p l

-- "D = The Market Participant Energy Injection megawatts in real-time at the location at which both the Market Participant injects energy and such energy is priced"
abbrev pub D : List Position → ℕ → ℕ → ℕ → ℤ
D xs p k l = injected xs real_time k p l

-- "E = The Market Participant Energy Injection megawatts in day-ahead at the location at which both the Market Participant injects energy and such energy is priced"
abbrev pub E : List Position → ℕ → ℕ → ℤ
E xs p l = injected xs day_ahead 0 p l

-- "[(A - B) * C] - [(D - E) * C]". Document 01: "Real time, per location and interval: [(A - B) - (D - E)] times C, over 12"
unfoldable pub real_at : Prices → List Position → ℕ → ℕ → ℕ → ℤ
real_at prices xs p k l =
    (A xs p k l -ℤ B xs p l) *ℤ C prices k l -ℤ (D xs p k l -ℤ E xs p l) *ℤ C prices k l

-- ---- 5.1.4A, and 5.4.4A: a path, from a source to a sink. "Source and sink may be equal."

-- (a) "the scheduled amount to be delivered multiplied by the difference between the Day-ahead Congestion Price at the sink point and the Day-ahead Congestion Price
-- at the source point". Document 01: "A transaction (market, interval, participant, source, sink, kW) costs its kW times price at sink less price at source"
unfoldable pub ahead_path : Prices → List Transaction → ℕ → ℕ → ℕ → ℤ
ahead_path prices transactions p source sink =
    carried transactions day_ahead 0 p source sink *ℤ (P prices sink -ℤ P prices source)

-- z where it is above 0, else 0
abbrev pub positive : ℤ → ℤ
positive (pos n) = pos n
positive (negsuc n) = pos 0

-- by how much x is above y, else 0
abbrev pub above : ℤ → ℤ → ℤ
above x y = positive (x -ℤ y)

-- (b) "real-time MWh in excess of the amounts scheduled for the applicable interval in the Day-ahead Energy Market". Document 01: "in real time only the excess over the
-- participant's own day-ahead kW of the same path counts, in each interval, and a shortfall is paid back"
abbrev pub excess : List Transaction → ℕ → ℕ → ℕ → ℕ → ℤ
excess transactions p k source sink = above (carried transactions real_time k p source sink) (carried transactions day_ahead 0 p source sink)

-- "real-time MWh falling below the amounts scheduled for the applicable interval in the Day-ahead Energy Market"
abbrev pub shortfall : List Transaction → ℕ → ℕ → ℕ → ℕ → ℤ
shortfall transactions p k source sink = above (carried transactions day_ahead 0 p source sink) (carried transactions real_time k p source sink)

-- charges "shall be assessed" for the excess, and the participant "shall be paid" for the shortfall, each "multiplied by the difference between the Real-time
-- Congestion Price at the sink point and the Real-time Congestion Price at the source point"
unfoldable pub real_path : Prices → List Transaction → ℕ → ℕ → ℕ → ℕ → ℤ
real_path prices transactions p k source sink =
    excess transactions p k source sink *ℤ (C prices k sink -ℤ C prices k source)
    -ℤ shortfall transactions p k source sink *ℤ (C prices k sink -ℤ C prices k source)

-- ---- the hour's charge of participant p: over all locations and paths, day-ahead and in each of the 12 intervals

-- of its positions
unfoldable pub position_charge : Prices → List Position → ℕ → ℤ
position_charge prices xs p =
    sum_to (λ l. pos 12 *ℤ ahead_at prices xs p l) prices.locations
    +ℤ sum_to (λ k. sum_to (λ l. real_at prices xs p k l) prices.locations) 12

-- of its transactions
unfoldable pub path_charge : Prices → List Transaction → ℕ → ℤ
path_charge prices transactions p =
    sum_to (λ i. sum_to (λ j. pos 12 *ℤ ahead_path prices transactions p i j) prices.locations) prices.locations
    +ℤ sum_to (λ k. sum_to (λ i. sum_to (λ j. real_path prices transactions p k i j) prices.locations) prices.locations) 12

unfoldable pub charge : Prices → List Position → List Transaction → ℕ → ℤ
charge prices xs transactions p = position_charge prices xs p +ℤ path_charge prices transactions p

-- ---- an hour's charges

-- participant p's exact total, in twelfths of a millionth of a dollar
abbrev pub exact_congestion_of : Hour → ℕ → ℤ
exact_congestion_of hour p = charge (congestion_prices hour) (positions hour) hour.transactions p

abbrev pub exact_loss_of : Hour → ℕ → ℤ
exact_loss_of hour p = charge (loss_prices hour) (positions hour) hour.transactions p

-- "A participant's exact total is rounded once, to the nearest cent, halves away from zero": its charge, in cents
abbrev pub congestion_charge : Hour → ℕ → ℤ
congestion_charge hour p = cents_of (exact_congestion_of hour p)

abbrev pub loss_charge : Hour → ℕ → ℤ
loss_charge hour p = cents_of (exact_loss_of hour p)

-- document 02, ticket 2: "the class's exact total" at a price list, and what its rows alone come to
abbrev pub class_total : Prices → Hour → ℤ
class_total prices hour = sum_to (charge prices (positions hour) hour.transactions) hour.participants

abbrev pub rows_total : Prices → Hour → ℤ
rows_total prices hour = sum_to (charge prices (map position_of hour.rows) []) hour.participants

-- each participant's
unfoldable pub congestion_charges_of : Hour → List ℤ
congestion_charges_of hour = tab (congestion_charge hour) hour.participants

unfoldable pub loss_charges_of : Hour → List ℤ
loss_charges_of hour = tab (loss_charge hour) hour.participants
