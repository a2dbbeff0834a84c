-- Why an hour is refused: the first of its numbers, or of the surplus and the shares that it comes to, in the order of Order.antt, that is outside its range. A refusal's number says what kind of fault there is (document 01,
-- "Refusal numbers"); a cause says where, what stands there, and what may. `proofs/Causes` has that the cause's number is the refusal of Order.antt. Assumes nothing.
use Rattle.std.specs.Prelude.{List, [], ◌∷◌, ℕ, suc, ltb, eqb, ℤ, pos, neg_ℤ, ◌-ℤ◌, get_or}
use Rattle.ints.specs.Number.{between}
use Rattle.ints.specs.Refusal.{pick}
use Rattle.ints.specs.Table.{◌at◌}
use Rattle.ints.specs.Twos.{twos}
use Rattle.split.specs.Split.{total}
use Rattle.hour.specs.Hour.{day_ahead, Hour, all_prices}
use Rattle.hour.specs.Order.{Spare}
use Rattle.hour.specs.Surplus.{surplus, shares}
use Rattle.hour.specs.declared.Row.{Row}
use Rattle.hour.specs.declared.Transaction.{Transaction}

-- ---- a cause

-- the refusal; field `field` of number `number` of a part; what stands there, and the least and the most that may
pub record Cause : Type 0 where
  pub refusal : ℕ
  pub part : ℕ
  pub number : ℕ
  pub field : ℕ
  pub found : ℤ
  pub least : ℤ
  pub most : ℤ

-- the parts of an hour, of its file and of the lists that it is handed over in
abbrev pub of_file : ℕ
of_file = 1

abbrev pub of_header : ℕ
of_header = 2

abbrev pub of_price : ℕ
of_price = 3

abbrev pub of_row : ℕ
of_row = 4

abbrev pub of_transaction : ℕ
of_transaction = 5

abbrev pub of_surplus : ℕ
of_surplus = 6

abbrev pub of_share : ℕ
of_share = 7

abbrev pub of_list : ℕ
of_list = 8

abbrev pub cause : ℕ → ℕ → ℕ → ℕ → ℤ → ℤ → ℤ → Cause
cause refusal part number field found least most =
    record { refusal = refusal; part = part; number = number; field = field; found = found; least = least; most = most }

-- nothing is refused
abbrev pub no_cause : Cause
no_cause = cause 0 0 0 0 (pos 0) (pos 0) (pos 0)

-- a number that has to be `least` to `most`
unfoldable pub tested : ℕ → ℕ → ℕ → ℕ → ℤ → ℤ → ℤ → Cause
tested refusal part number field found least most = pick (between least most found) no_cause (cause refusal part number field found least most)

-- a natural number, of 64 bits, as the number that they stand for
abbrev pub as_number : ℕ → ℤ
as_number n = twos 64 n

-- the earlier cause, and where it is none the later one
infixr 50 ◌or◌
abbrev pub ◌or◌ : Cause → Cause → Cause
earlier or later = pick (eqb earlier.refusal 0) later earlier

-- the first cause of a list's elements. f is given an element's place, counted from i, and the element
unfoldable pub first_cause : {A : Type 0} → (ℕ → A → Cause) → ℕ → List A → Cause
first_cause f i [] = no_cause
first_cause f i (x ∷ xs) = f i x or first_cause f (suc i) xs

-- ---- "2 prices"

-- "A price is in mills (0.001 dollar) per MWh, -5,000,000 to 5,000,000"
abbrev pub price_cause : ℕ → ℤ → Cause
price_cause j price = tested 2 of_price j 0 price (neg_ℤ (pos 5000000)) (pos 5000000)

unfoldable pub prices_cause : Hour → Cause
prices_cause hour = first_cause price_cause 0 (all_prices hour)

-- ---- "rows in turn (4; 3 participant, location; 2; 9)"

-- number `field` of row or transaction `number`, which has to be below `end`. Where somebody hands over a number below 0, the row has its 64 bits (crate `exercise`, specs/Lists); the
-- cause has the number itself
abbrev pub below : ℕ → ℕ → ℕ → ℕ → ℕ → ℕ → Cause
below refusal part number field found end = tested refusal part number field (as_number found) (pos 0) (pos end -ℤ pos 1)

-- of a market that exists, how many kinds it has ("6 and 7 don't exist"; "4 and 5 are day-ahead only"), and how many intervals ("Day-ahead rows and transactions carry interval 0"; "Real time
-- has 12 intervals")
abbrev pub kinds_of : ℕ → ℕ
kinds_of market = pick (eqb market day_ahead) 6 4

abbrev pub intervals_of : ℕ → ℕ
intervals_of market = pick (eqb market day_ahead) 1 12

-- row i, with its spare bits, among so many participants and locations
unfoldable pub row_cause : ℕ → ℕ → ℕ → Row → ℕ → Cause
row_cause participants locations i row spare =
    below 4 of_row i 0 row.market 2
    or below 4 of_row i 1 row.kind (kinds_of row.market)
    or below 4 of_row i 2 row.interval (intervals_of row.market)
    or below 3 of_row i 3 row.participant participants
    or below 3 of_row i 4 row.location locations
    or below 2 of_row i 5 row.kw.0 20000001
    or below 9 of_row i 6 spare 1

unfoldable pub rows_cause : Hour → Spare → Cause
rows_cause hour spare = first_cause (λ i row. row_cause hour.participants hour.locations i row (spare.row i)) 0 hour.rows

-- ---- "transactions in turn (4; 3 participant, source, sink; 2)"; document 02, ticket 2: "seller 3, after the participant; spare bits 9, after the kW"

-- a transaction's numbers are told alike in both editions: those of edition 0 in their order, then seller and spare bits
unfoldable pub transaction_cause : ℕ → ℕ → ℕ → Transaction → ℕ → Cause
transaction_cause participants locations i transaction spare =
    below 4 of_transaction i 0 transaction.market 2
    or below 4 of_transaction i 1 transaction.interval (intervals_of transaction.market)
    or below 3 of_transaction i 2 transaction.participant participants
    or below 3 of_transaction i 6 transaction.seller participants
    or below 3 of_transaction i 3 transaction.source locations
    or below 3 of_transaction i 4 transaction.sink locations
    or below 2 of_transaction i 5 transaction.kw.0 20000001
    or below 9 of_transaction i 7 spare 1

unfoldable pub transactions_cause : Hour → Spare → Cause
transactions_cause hour spare =
    first_cause (λ i transaction. transaction_cause hour.participants hour.locations i transaction (spare.transaction i)) 0 hour.transactions

-- ---- "2 prices; rows in turn (..); transactions in turn (..)"

unfoldable pub content_cause : Hour → Spare → Cause
content_cause hour spare = prices_cause hour or rows_cause hour spare or transactions_cause hour spare

-- ---- "10; 7"

-- "a participant's share above 4,000,000,000"; none is below 0 (`proofs/Billed`: `shares-natural`)
abbrev pub share_cause : ℕ → ℤ → Cause
share_cause p share = tested 10 of_share p 0 share (pos 0) (pos 4000000000)

-- "shares total 0 and the amount isn't 0": without shares the surplus has to be 0
unfoldable pub unshared_cause : ℤ → List ℤ → Cause
unshared_cause surplus shares = pick (ltb 0 (total shares)) no_cause (tested 7 of_surplus 0 0 surplus (pos 0) (pos 0))

-- "surplus beyond 1,000,000,000 cents in size", then these
unfoldable pub surplus_cause : ℤ → List ℤ → Cause
surplus_cause surplus shares =
    tested 10 of_surplus 0 0 surplus (neg_ℤ (pos 1000000000)) (pos 1000000000)
    or first_cause share_cause 0 shares
    or unshared_cause surplus shares

abbrev pub credits_cause : Hour → Cause
credits_cause hour = surplus_cause (surplus hour) (shares hour)

-- ---- what stands at a place: the numbers of a price, a row and a transaction with their spare bits, the surplus, a share, in the order of their fields

abbrev pub no_row : Row
no_row = record { market = 0; kind = 0; interval = 0; participant = 0; location = 0; kw = record { 0 = 0 } }

abbrev pub no_transaction : Transaction
no_transaction = record { market = 0; interval = 0; participant = 0; seller = 0; source = 0; sink = 0; kw = record { 0 = 0 } }

abbrev pub row_fields : Row → ℕ → List ℤ
row_fields row spare =
    as_number row.market ∷ as_number row.kind ∷ as_number row.interval ∷ as_number row.participant ∷ as_number row.location ∷ as_number row.kw.0 ∷ as_number spare ∷ []

abbrev pub transaction_fields : Transaction → ℕ → List ℤ
transaction_fields t spare =
    as_number t.market ∷ as_number t.interval ∷ as_number t.participant ∷ as_number t.source ∷ as_number t.sink ∷ as_number t.kw.0 ∷ as_number t.seller ∷ as_number spare ∷ []

unfoldable pub stands_at : Hour → Spare → ℕ → ℕ → List ℤ
stands_at hour spare part number =
    pick (eqb part of_price) (all_prices hour at number ∷ [])
    (pick (eqb part of_row) (row_fields (get_or hour.rows number no_row) (spare.row number))
    (pick (eqb part of_transaction) (transaction_fields (get_or hour.transactions number no_transaction) (spare.transaction number))
    (pick (eqb part of_surplus) (surplus hour ∷ [])
    (pick (eqb part of_share) (shares hour at number ∷ []) []))))

-- ---- a cause in numbers

abbrev pub cause_numbers : Cause → List ℤ
cause_numbers c = pos c.refusal ∷ pos c.part ∷ pos c.number ∷ pos c.field ∷ c.found ∷ c.least ∷ c.most ∷ []
