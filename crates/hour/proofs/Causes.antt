-- The number of a cause is the refusal of the order, line by line and of the whole; what is found there is outside its range. Assumes nothing.
use mathlib.Core.Path.{◌≡◌, refl, sym, ap, ap₂, ◌∙◌, subst}
use mathlib.Core.Logic.{◌⊎◌, inl, inr}
use mathlib.Core.Bool.{Bool, true, false, ◌||◌, ◌&&◌}
use mathlib.Core.List.{List, [], ◌∷◌}
use Prim.Native.Nat.{ℕ, zero, suc, ◌+◌, ◌-◌, ◌≤◌, ◌<◌}
use native.Mathlib.Omega.{arith}
use lib.Dec.{ltb, leb, eqb, leb-suc-suc}
use lib.IntN.{ℤ, pos, negsuc, neg_ℤ, nat_abs, ◌-ℤ◌}
use lib.ListN.{length, get_or}
use lib.Signed.{le_z}
use borrow.Author.Tests.{le-ltb, le-leb, lt-leb, ltb-false, leb-true, eq-eqb, ne_eqb}
use Rattle.ints.specs.Number.{between}
use Rattle.ints.specs.Refusal.{pick, unless}
use Rattle.ints.specs.Table.{◌at◌, tab, all}
use Rattle.ints.specs.Turn.{◌then◌, in_order}
use Rattle.ints.proofs.Tables.{tab-ext, tab-front, tab-self}
use Rattle.ints.proofs.Tests.{count-from-0}
use Rattle.ints.proofs.Turns.{then-earlier, order-ext}
use Rattle.split.specs.Split.{total}
use Rattle.hour.specs.Cause.{Cause, no_cause, cause, as_number, no_row, no_transaction, row_fields, transaction_fields, tested, unshared_cause, credits_cause, ◌or◌, first_cause, below, kinds_of, intervals_of, row_cause, transaction_cause, price_cause, prices_cause, rows_cause, transactions_cause, content_cause, share_cause, surplus_cause, of_price, of_row, of_transaction, of_surplus, of_share}
use Rattle.hour.specs.Hour.{day_ahead, Hour, all_prices}
use Rattle.hour.specs.InsideCause.{first_from}
use Rattle.hour.specs.InsideTotals.{Natural}
use Rattle.hour.specs.Order.{Spare, is_price, has_kind, has_interval, row_refusal, packed_row_refusal, transaction_refusal, packed_transaction_refusal, prices_refusal, rows_refusal, transactions_refusal, content_refusal, not_above, surplus_refusal, credits_refusal}
use Rattle.hour.specs.Surplus.{surplus, shares}
use Rattle.hour.specs.declared.Row.{Row}
use Rattle.hour.specs.declared.Transaction.{Transaction}
use Rattle.hour.proofs.Billed.{shares-natural}
use Rattle.hour.proofs.Credits.{in-range}

-- ---- one after the other

pub or-number : (a b : Cause) → (a or b).refusal ≡ (a.refusal then b.refusal)
or-number a b = by (eqb a.refusal 0)
  where
    by : (t : Bool) → (pick t b a).refusal ≡ pick t b.refusal a.refusal
    by true = refl
    by false = refl

pub first-number : {A : Type 0} (f : ℕ → A → Cause) (i : ℕ) (xs : List A) → (first_cause f i xs).refusal ≡ in_order (λ k x. (f k x).refusal) i xs
unfolding first_cause in_order
first-number f i [] = refl
first-number f i (x ∷ xs) = or-number (f i x) (first_cause f (suc i) xs) ∙ ap (λ (n : ℕ). (f i x).refusal then n) (first-number f (suc i) xs)

-- ---- one test

-- a line by itself
pub line-number : (t : Bool) (c : Cause) → (pick t no_cause c).refusal ≡ unless t c.refusal 0
line-number true c = refl
line-number false c = refl

pub tested-number : (refusal part number field : ℕ) (found least most : ℤ) → (tested refusal part number field found least most).refusal ≡ unless (between least most found) refusal 0
unfolding tested
tested-number refusal part number field found least most = line-number (between least most found) (cause refusal part number field found least most)

-- ---- a number below an end

last : (m : ℕ) → pos (suc m) -ℤ pos 1 ≡ pos m
last m = simp (le-ltb (suc m) 1 (omega arith)) (ap pos (omega arith))

from-0 : (n e : ℕ) → between (pos 0) (pos e -ℤ pos 1) (pos n) ≡ ltb n e
from-0 n zero = ap (λ (b : Bool). b && false) (le-leb 0 n (omega arith)) ∙ sym (le-ltb n 0 (omega arith))
from-0 n (suc m) = ap (λ (z : ℤ). between (pos 0) z (pos n)) (last m) ∙ count-from-0 m n ∙ sym (leb-suc-suc n m)

-- a range of naturals that a signed number holds: of the number that bits stand for, and of the bits themselves
pub as-number : (least : ℕ) (most : ℤ) (n : ℕ) → le_z most (pos 9223372036854775807) ≡ true → between (pos least) most (as_number n) ≡ between (pos least) most (pos n)
as-number least most n h = by (ltb n 9223372036854775808) refl
  where
    never : (b : Bool) → (b && false) ≡ false
    never true = refl
    never false = refl

    too_large : (most : ℤ) → le_z most (pos 9223372036854775807) ≡ true → 9223372036854775808 ≤ n → le_z (pos n) most ≡ false
    too_large (pos m) k l = lt-leb n m (omega (arith, l, leb-true m 9223372036854775807 k))
    too_large (negsuc m) k l = refl

    by : (t : Bool) → ltb n 9223372036854775808 ≡ t → between (pos least) most (pick t (pos n) (negsuc (18446744073709551616 - suc n))) ≡ between (pos least) most (pos n)
    by true _ = refl
    by false l = sym (ap (λ (b : Bool). leb least n && b) (too_large most h (ltb-false n 9223372036854775808 l)) ∙ never (leb least n))

before-most : (e : ℕ) → e ≤ 9223372036854775808 → le_z (pos e -ℤ pos 1) (pos 9223372036854775807) ≡ true
before-most zero h = refl
before-most (suc m) h = ap (λ (z : ℤ). le_z z (pos 9223372036854775807)) (last m) ∙ le-leb m 9223372036854775807 (omega (arith, h))

pub below-number : (refusal part number field n e : ℕ) → e ≤ 9223372036854775808 → (below refusal part number field n e).refusal ≡ unless (ltb n e) refusal 0
below-number refusal part number field n e h = tested-number refusal part number field (as_number n) (pos 0) (pos e -ℤ pos 1) ∙ ap (λ (t : Bool). unless t refusal 0) (as-number 0 (pos e -ℤ pos 1) n (before-most e h) ∙ from-0 n e)

-- ---- line by line

-- a line, and what comes after the order that it begins
line : (t : Bool) (k later after : ℕ) → (unless t (suc k) later then after) ≡ unless t (suc k) (later then after)
line true k later after = refl
line false k later after = then-earlier (suc k) after (λ e. omega arith)

pub next-line : (a b : Cause) (t : Bool) (k later : ℕ) → a.refusal ≡ unless t (suc k) 0 → b.refusal ≡ later → (a or b).refusal ≡ unless t (suc k) later
next-line a b t k later e f = or-number a b ∙ ap₂ (λ (x y : ℕ). x then y) e f ∙ line t k 0 later

-- ---- a row and a transaction

-- below the number after the most is at most that; below 1 is 0
at_most : (n m : ℕ) → ltb n (suc m) ≡ leb n m
at_most n m = leb-suc-suc n m

is-0 : (n : ℕ) → ltb n 1 ≡ eqb n 0
is-0 zero = refl
is-0 (suc n) = le-ltb (suc n) 1 (omega arith) ∙ sym (ne_eqb (suc n) 0 (λ e. omega arith))

-- the market, then its kinds and intervals
with-kind : (market kind interval later : ℕ) → unless (ltb market 2) 4 (unless (ltb kind (kinds_of market)) 4 (unless (ltb interval (intervals_of market)) 4 later)) ≡ unless (has_kind market kind) 4 (unless (has_interval market interval) 4 later)
with-kind zero kind interval later = ap₂ (λ (s t : Bool). unless s 4 (unless t 4 later)) (at_most kind 5) (is-0 interval)
with-kind (suc zero) kind interval later = ap₂ (λ (s t : Bool). unless s 4 (unless t 4 later)) (at_most kind 3) (at_most interval 11)
with-kind (suc (suc m)) kind interval later = simp (le-ltb (suc (suc m)) 2 (omega arith), ne_eqb (suc (suc m)) 0 (λ e. omega arith), ne_eqb (suc (suc m)) 1 (λ e. omega arith)) refl

with-interval : (market interval later : ℕ) → unless (ltb market 2) 4 (unless (ltb interval (intervals_of market)) 4 later) ≡ unless (has_interval market interval) 4 later
with-interval zero interval later = ap (λ (t : Bool). unless t 4 later) (is-0 interval)
with-interval (suc zero) interval later = ap (λ (t : Bool). unless t 4 later) (at_most interval 11)
with-interval (suc (suc m)) interval later = simp (le-ltb (suc (suc m)) 2 (omega arith), ne_eqb (suc (suc m)) 0 (λ e. omega arith), ne_eqb (suc (suc m)) 1 (λ e. omega arith)) refl

kinds-few : (market : ℕ) → kinds_of market ≤ 9223372036854775808
kinds-few market = by (eqb market day_ahead)
  where
    by : (t : Bool) → pick t 6 4 ≤ 9223372036854775808
    by true = omega arith
    by false = omega arith

intervals-few : (market : ℕ) → intervals_of market ≤ 9223372036854775808
intervals-few market = by (eqb market day_ahead)
  where
    by : (t : Bool) → pick t 1 12 ≤ 9223372036854775808
    by true = omega arith
    by false = omega arith

-- an order of five lines, and what comes after it
five-lines : (a b c d e : Bool) (after : ℕ) → (unless a 4 (unless b 4 (unless c 3 (unless d 3 (unless e 2 0)))) then after) ≡ unless a 4 (unless b 4 (unless c 3 (unless d 3 (unless e 2 after))))
five-lines a b c d e after =
    line a 3 _ after ∙ ap (unless a 4) (line b 3 _ after ∙ ap (unless b 4) (line c 2 _ after ∙ ap (unless c 3) (line d 2 _ after ∙ ap (unless d 3) (line e 1 0 after))))

-- one of a transaction, with six
six-lines : (a b c d e f : Bool) (after : ℕ) → (unless a 4 (unless b 3 (unless c 3 (unless d 3 (unless e 3 (unless f 2 0))))) then after) ≡ unless a 4 (unless b 3 (unless c 3 (unless d 3 (unless e 3 (unless f 2 after)))))
six-lines a b c d e f after =
    line a 3 _ after ∙ ap (unless a 4) (line b 2 _ after ∙ ap (unless b 3) (line c 2 _ after ∙ ap (unless c 3) (line d 2 _ after ∙ ap (unless d 3) (line e 2 _ after ∙ ap (unless e 3) (line f 1 0 after)))))

-- a test of every element with one number is a test of the list
all_lines : {A : Type 0} (t : A → Bool) (k : ℕ) (f : ℕ → A → ℕ) → ((i : ℕ) (x : A) → f i x ≡ unless (t x) (suc k) 0) → (i : ℕ) (xs : List A) → in_order f i xs ≡ unless (all t xs) (suc k) 0
unfolding in_order all
all_lines t k f own i [] = refl
all_lines t k f own i (x ∷ xs) = ap₂ (λ (a b : ℕ). a then b) (own i x) (all_lines t k f own (suc i) xs) ∙ line (t x) k 0 _ ∙ both (t x) (all t xs)
  where
    both : (a b : Bool) → unless a (suc k) (unless b (suc k) 0) ≡ unless (a && b) (suc k) 0
    both true b = refl
    both false b = refl

-- so many participants and locations that a signed number holds each
module _ (participants locations : ℕ) (few : participants ≤ 9223372036854775808) (near : locations ≤ 9223372036854775808) where
  pub row_number : (i : ℕ) (row : Row) (spare : ℕ) → (row_cause participants locations i row spare).refusal ≡ packed_row_refusal participants locations row spare
  unfolding row_cause packed_row_refusal row_refusal
  row_number i row spare =
      next-line _ _ (ltb row.market 2) 3 _ (below-number 4 of_row i 0 row.market 2 (omega arith))
      (next-line _ _ (ltb row.kind (kinds_of row.market)) 3 _ (below-number 4 of_row i 1 row.kind (kinds_of row.market) (kinds-few row.market))
      (next-line _ _ (ltb row.interval (intervals_of row.market)) 3 _ (below-number 4 of_row i 2 row.interval (intervals_of row.market) (intervals-few row.market))
      (next-line _ _ (ltb row.participant participants) 2 _ (below-number 3 of_row i 3 row.participant participants few)
      (next-line _ _ (ltb row.location locations) 2 _ (below-number 3 of_row i 4 row.location locations near)
      (next-line _ _ (ltb row.kw.0 20000001) 1 _ (below-number 2 of_row i 5 row.kw.0 20000001 (omega arith))
      (below-number 9 of_row i 6 spare 1 (omega arith)))))))
      ∙ with-kind row.market row.kind row.interval _
      ∙ ap₂ (λ (s t : Bool). unless (has_kind row.market row.kind) 4 (unless (has_interval row.market row.interval) 4 (unless (ltb row.participant participants) 3 (unless (ltb row.location locations) 3 (unless s 2 (unless t 9 0))))))
      (at_most row.kw.0 20000000) (is-0 spare)
      ∙ sym (five-lines (has_kind row.market row.kind) (has_interval row.market row.interval) (ltb row.participant participants) (ltb row.location locations) (leb row.kw.0 20000000) (unless (eqb spare 0) 9 0))

  pub transaction-number : (i : ℕ) (t : Transaction) (spare : ℕ) → (transaction_cause participants locations i t spare).refusal ≡ packed_transaction_refusal participants locations t spare
  unfolding transaction_cause packed_transaction_refusal transaction_refusal
  transaction-number i t spare =
      next-line _ _ (ltb t.market 2) 3 _ (below-number 4 of_transaction i 0 t.market 2 (omega arith))
      (next-line _ _ (ltb t.interval (intervals_of t.market)) 3 _ (below-number 4 of_transaction i 1 t.interval (intervals_of t.market) (intervals-few t.market))
      (next-line _ _ (ltb t.participant participants) 2 _ (below-number 3 of_transaction i 2 t.participant participants few)
      (next-line _ _ (ltb t.seller participants) 2 _ (below-number 3 of_transaction i 6 t.seller participants few)
      (next-line _ _ (ltb t.source locations) 2 _ (below-number 3 of_transaction i 3 t.source locations near)
      (next-line _ _ (ltb t.sink locations) 2 _ (below-number 3 of_transaction i 4 t.sink locations near)
      (next-line _ _ (ltb t.kw.0 20000001) 1 _ (below-number 2 of_transaction i 5 t.kw.0 20000001 (omega arith))
      (below-number 9 of_transaction i 7 spare 1 (omega arith))))))))
      ∙ with-interval t.market t.interval _
      ∙ ap₂ (λ (s u : Bool). unless (has_interval t.market t.interval) 4 (unless (ltb t.participant participants) 3 (unless (ltb t.seller participants) 3 (unless (ltb t.source locations) 3 (unless (ltb t.sink locations) 3 (unless s 2 (unless u 9 0)))))))
      (at_most t.kw.0 20000000) (is-0 spare)
      ∙ sym (six-lines (has_interval t.market t.interval) (ltb t.participant participants) (ltb t.seller participants) (ltb t.source locations) (ltb t.sink locations) (leb t.kw.0 20000000) (unless (eqb spare 0) 9 0))

-- ---- prices, rows and transactions in turn

pub prices-number : (hour : Hour) → (prices_cause hour).refusal ≡ prices_refusal hour
unfolding prices_cause prices_refusal
prices-number hour =
    first-number price_cause 0 (all_prices hour)
    ∙ all_lines is_price 1 _ (λ j price. tested-number 2 of_price j 0 price (neg_ℤ (pos 5000000)) (pos 5000000)) 0 (all_prices hour)

module _ (hour : Hour) (few : hour.participants ≤ 9223372036854775808) (near : hour.locations ≤ 9223372036854775808) (spare : Spare) where
  rows-number : (rows_cause hour spare).refusal ≡ rows_refusal hour spare
  unfolding rows_cause rows_refusal
  rows-number =
      first-number _ 0 hour.rows
      ∙ order-ext _ (λ i row. packed_row_refusal hour.participants hour.locations row (spare.row i)) 0 hour.rows (λ i row _ _. row_number hour.participants hour.locations few near i row (spare.row i))

  transactions-number : (transactions_cause hour spare).refusal ≡ transactions_refusal hour spare
  unfolding transactions_cause transactions_refusal
  transactions-number =
      first-number _ 0 hour.transactions
      ∙ order-ext _ (λ i t. packed_transaction_refusal hour.participants hour.locations t (spare.transaction i)) 0 hour.transactions (λ i t _ _. transaction-number hour.participants hour.locations few near i t (spare.transaction i))

  pub content-number : (content_cause hour spare).refusal ≡ content_refusal hour spare
  unfolding content_cause content_refusal
  content-number =
      or-number (prices_cause hour) (rows_cause hour spare or transactions_cause hour spare)
      ∙ ap₂ (λ (a b : ℕ). a then b) (prices-number hour) (or-number (rows_cause hour spare) (transactions_cause hour spare) ∙ ap₂ (λ (a b : ℕ). a then b) rows-number transactions-number)

-- ---- surplus and shares

-- exactly 0
is-nothing : (z : ℤ) → between (pos 0) (pos 0) z ≡ eqb (nat_abs z) 0
is-nothing (pos n) = count-from-0 0 n ∙ sym (at_most n 0) ∙ is-0 n
is-nothing (negsuc n) = sym (ne_eqb (suc n) 0 (λ e. omega arith))

unshared-number : (surplus : ℤ) (shares : List ℤ) → (unshared_cause surplus shares).refusal ≡ unless (ltb 0 (total shares) || eqb (nat_abs surplus) 0) 7 0
unfolding unshared_cause
unshared-number surplus shares = by (ltb 0 (total shares))
  where
    by : (t : Bool) → (pick t no_cause (tested 7 of_surplus 0 0 surplus (pos 0) (pos 0))).refusal ≡ unless (t || eqb (nat_abs surplus) 0) 7 0
    by true = refl
    by false = tested-number 7 of_surplus 0 0 surplus (pos 0) (pos 0) ∙ ap (λ (t : Bool). unless t 7 0) (is-nothing surplus)

pub shares-number : (shares : List ℤ) → (first_cause share_cause 0 shares).refusal ≡ unless (all (between (pos 0) (pos 4000000000)) shares) 10 0
shares-number shares =
    first-number share_cause 0 shares ∙ all_lines (between (pos 0) (pos 4000000000)) 9 _ (λ p share. tested-number 10 of_share p 0 share (pos 0) (pos 4000000000)) 0 shares

pub surplus-number : (surplus : ℤ) (shares : List ℤ) → Natural shares → (surplus_cause surplus shares).refusal ≡ surplus_refusal surplus shares
unfolding surplus_cause surplus_refusal
surplus-number surplus shares natural =
    next-line _ _ (between (neg_ℤ (pos 1000000000)) (pos 1000000000) surplus) 9 _ (tested-number 10 of_surplus 0 0 surplus (neg_ℤ (pos 1000000000)) (pos 1000000000))
    (next-line _ _ (all (not_above 4000000000) shares) 9 _
    (shares-number shares ∙ ap (λ (t : Bool). unless t 10 0) (in-range 4000000000 shares natural))
    (unshared-number surplus shares))

pub credits-number : (hour : Hour) → (credits_cause hour).refusal ≡ credits_refusal hour
credits-number hour = surplus-number (surplus hour) (shares hour) (shares-natural hour)

-- ---- what is found is outside its range

-- a cause that tells of a number outside its range, or none
pub record Outside (c : Cause) : Type 0 where
  pub beyond : (c.refusal ≡ 0) ⊎ (between c.least c.most c.found ≡ false)

pub none-outside : Outside no_cause
none-outside = record { beyond = inl refl }

pub tested-outside : (refusal part number field : ℕ) (found least most : ℤ) → Outside (tested refusal part number field found least most)
unfolding tested
tested-outside refusal part number field found least most = by (between least most found) refl
  where
    by : (t : Bool) → between least most found ≡ t → Outside (pick t no_cause (cause refusal part number field found least most))
    by true e = none-outside
    by false e = record { beyond = inr e }

pub or-outside : (a b : Cause) → Outside a → Outside b → Outside (a or b)
or-outside a b f g = by (eqb a.refusal 0)
  where
    by : (t : Bool) → Outside (pick t b a)
    by true = g
    by false = f

pub first-outside : {A : Type 0} (f : ℕ → A → Cause) → ((i : ℕ) (x : A) → Outside (f i x)) → (i : ℕ) (xs : List A) → Outside (first_cause f i xs)
unfolding first_cause
first-outside f own i [] = none-outside
first-outside f own i (x ∷ xs) = or-outside (f i x) (first_cause f (suc i) xs) (own i x) (first-outside f own (suc i) xs)

row-outside : (participants locations i : ℕ) (row : Row) (spare : ℕ) → Outside (row_cause participants locations i row spare)
unfolding row_cause
row-outside participants locations i row spare =
    or-outside _ _ (tested-outside _ _ _ _ _ _ _) (or-outside _ _ (tested-outside _ _ _ _ _ _ _) (or-outside _ _ (tested-outside _ _ _ _ _ _ _) (or-outside _ _ (tested-outside _ _ _ _ _ _ _) (or-outside _ _ (tested-outside _ _ _ _ _ _ _)
    (or-outside _ _ (tested-outside _ _ _ _ _ _ _) (tested-outside _ _ _ _ _ _ _))))))

transaction-outside : (participants locations i : ℕ) (t : Transaction) (spare : ℕ) → Outside (transaction_cause participants locations i t spare)
unfolding transaction_cause
transaction-outside participants locations i t spare =
    or-outside _ _ (tested-outside _ _ _ _ _ _ _) (or-outside _ _ (tested-outside _ _ _ _ _ _ _) (or-outside _ _ (tested-outside _ _ _ _ _ _ _) (or-outside _ _ (tested-outside _ _ _ _ _ _ _)
    (or-outside _ _ (tested-outside _ _ _ _ _ _ _) (or-outside _ _ (tested-outside _ _ _ _ _ _ _) (or-outside _ _ (tested-outside _ _ _ _ _ _ _) (tested-outside _ _ _ _ _ _ _)))))))

pub content-outside : (hour : Hour) (spare : Spare) → Outside (content_cause hour spare)
unfolding content_cause prices_cause rows_cause transactions_cause
content-outside hour spare =
    or-outside _ _ (first-outside price_cause (λ j price. tested-outside 2 of_price j 0 price (neg_ℤ (pos 5000000)) (pos 5000000)) 0 (all_prices hour))
    (or-outside _ _ (first-outside _ (λ i row. row-outside hour.participants hour.locations i row (spare.row i)) 0 hour.rows)
    (first-outside _ (λ i t. transaction-outside hour.participants hour.locations i t (spare.transaction i)) 0 hour.transactions))

pub surplus-outside : (surplus : ℤ) (shares : List ℤ) → Outside (surplus_cause surplus shares)
unfolding surplus_cause unshared_cause
surplus-outside surplus shares =
    or-outside _ _ (tested-outside 10 of_surplus 0 0 surplus (neg_ℤ (pos 1000000000)) (pos 1000000000))
    (or-outside _ _ (first-outside share_cause (λ p share. tested-outside 10 of_share p 0 share (pos 0) (pos 4000000000)) 0 shares) (unshared (ltb 0 (total shares))))
  where
    unshared : (t : Bool) → Outside (pick t no_cause (tested 7 of_surplus 0 0 surplus (pos 0) (pos 0)))
    unshared true = none-outside
    unshared false = tested-outside 7 of_surplus 0 0 surplus (pos 0) (pos 0)

-- ---- one after the other, with the causes of each

-- a cause that was made of two, which are those of a definition
pub or-made : (a b a' b' r : Cause) → r ≡ (a or b) → a ≡ a' → b ≡ b' → r ≡ (a' or b')
or-made a b a' b' r e f g = e ∙ ap₂ (λ (x y : Cause). x or y) f g

-- the number before an end, as a natural number
pub before-end : (e : ℕ) → 1 ≤ e → pos (e - 1) ≡ pos e -ℤ pos 1
before-end e h = simp (le-ltb e 1 h)

-- the answer r of a call that goes by the earlier of two: it ends there, or the later one follows
module _ (earlier later : Cause) where
  pub or-ends : (r : Cause) → (r.refusal ≡ 0 → ⊥) → r ≡ earlier → r ≡ (earlier or later)
  or-ends r some e = e ∙ sym (ap (λ (b : Bool). pick b later earlier) (ne_eqb earlier.refusal 0 (λ z. some (ap (λ (c : Cause). c.refusal) e ∙ z))))

  pub or-follows : (r : Cause) → r.refusal ≡ 0 → r ≡ earlier → later ≡ (earlier or later)
  or-follows r none e = sym (ap (λ (b : Bool). pick b later earlier) (eq-eqb earlier.refusal 0 (ap (λ (c : Cause). c.refusal) (sym e) ∙ none)))

-- ---- in turn

-- the elements of a list by a rule, from place i on
from-tab : {A : Type 0} (f : ℕ → A → Cause) (g : ℕ → A) (n i : ℕ) → first_cause f i (tab (λ k. g (i + k)) n) ≡ first_from (λ k. f k (g k)) i n
unfolding first_cause first_from tab
from-tab f g zero i = refl
from-tab f g (suc n) i =
    let here : i + 0 ≡ i = omega arith in
    ap (first_cause f i) (tab-front (λ k. g (i + k)) n)
    ∙ ap₂ (λ (a b : Cause). a or b) (ap (λ (k : ℕ). f i (g k)) here)
    (ap (first_cause f (suc i)) (tab-ext _ _ n (λ k _. let next : i + suc k ≡ suc i + k = omega arith in ap g next)) ∙ from-tab f g n (suc i))

pub cause-tab : {A : Type 0} (f : ℕ → A → Cause) (g : ℕ → A) (n : ℕ) → first_cause f 0 (tab g n) ≡ first_from (λ k. f k (g k)) 0 n
cause-tab f g n = ap (first_cause f 0) (tab-ext _ _ n (λ k _. let same : k ≡ 0 + k = omega arith in ap g same)) ∙ from-tab f g n 0

-- a loop over the first n
module _ (f : ℕ → Cause) (n : ℕ) where
  -- those from i on are all that count
  abbrev pub Left : ℕ → Type 0
  Left i = first_from f 0 n ≡ first_from f i (n - i)

  pub left-start : Left 0
  left-start = ap (first_from f 0) (omega arith)

  module _ (i : ℕ) (l : i < n) (left : Left i) where
    one_more : first_from f i (n - i) ≡ (f i or first_from f (i + 1) (n - (i + 1)))
    unfolding first_from
    one_more =
        let rest : n - i ≡ suc (n - (i + 1)) = omega arith in
        let next : suc i ≡ i + 1 = omega arith in
        ap (first_from f i) rest ∙ ap (λ (k : ℕ). f i or first_from f k (n - (i + 1))) next

    pub left-next : (f i).refusal ≡ 0 → Left (i + 1)
    left-next none = left ∙ one_more ∙ sym (or-follows (f i) _ (f i) none refl)

    pub left-first : ((f i).refusal ≡ 0 → ⊥) → f i ≡ first_from f 0 n
    left-first some = or-ends (f i) _ (f i) some refl ∙ sym (left ∙ one_more)

  pub left-none : (i : ℕ) → n ≤ i → Left i → no_cause ≡ first_from f 0 n
  unfolding first_from
  left-none i l left = sym (left ∙ ap (first_from f i) (let none : n - i ≡ 0 = omega arith in none))

-- those of any list, and of a list of numbers
pub cause-of : {A : Type 0} (d : A) (f : ℕ → A → Cause) (xs : List A) → first_cause f 0 xs ≡ first_from (λ k. f k (get_or xs k d)) 0 (length xs)
cause-of d f xs = ap (first_cause f 0) (tab-self d xs) ∙ cause-tab f (λ k. get_or xs k d) (length xs)

pub cause-list : (f : ℕ → ℤ → Cause) (xs : List ℤ) → first_cause f 0 xs ≡ first_from (λ k. f k (xs at k)) 0 (length xs)
cause-list = cause-of (pos 0)

-- ---- what is found is what stands at the place that is told

-- of something that has these numbers at each of its parts: a cause that is none, or tells of one of them
pub record Stands (numbers : ℕ → ℕ → List ℤ) (c : Cause) : Type 0 where
  pub there : (c.refusal ≡ 0) ⊎ (c.found ≡ numbers c.part c.number at c.field)

module _ (numbers : ℕ → ℕ → List ℤ) where
  none-stands : Stands numbers no_cause
  none-stands = record { there = inl refl }

  pub line-stands : (t : Bool) (refusal part number field : ℕ) (found least most : ℤ) → found ≡ numbers part number at field → Stands numbers (pick t no_cause (cause refusal part number field found least most))
  line-stands true refusal part number field found least most e = none-stands
  line-stands false refusal part number field found least most e = record { there = inr e }

  pub tested-stands : (refusal part number field : ℕ) (found least most : ℤ) → found ≡ numbers part number at field → Stands numbers (tested refusal part number field found least most)
  unfolding tested
  tested-stands refusal part number field found least most e = line-stands (between least most found) refusal part number field found least most e

  pub or-stands : (a b : Cause) → Stands numbers a → Stands numbers b → Stands numbers (a or b)
  or-stands a b f g = by (eqb a.refusal 0)
    where
      by : (t : Bool) → Stands numbers (pick t b a)
      by true = g
      by false = f

  from-stands : (f : ℕ → Cause) → ((k : ℕ) → Stands numbers (f k)) → (i n : ℕ) → Stands numbers (first_from f i n)
  unfolding first_from
  from-stands f own i zero = none-stands
  from-stands f own i (suc n) = or-stands (f i) (first_from f (suc i) n) (own i) (from-stands f own (suc i) n)

  -- those of a list: each of the element at its place
  pub first-stands : {A : Type 0} (d : A) (f : ℕ → A → Cause) (xs : List A) → ((k : ℕ) → Stands numbers (f k (get_or xs k d))) → Stands numbers (first_cause f 0 xs)
  first-stands d f xs own = subst (Stands numbers) (sym (cause-of d f xs)) (from-stands _ own 0 (length xs))

-- something that has the numbers of an hour at their places
pub record HasHour (hour : Hour) (spare : Spare) (numbers : ℕ → ℕ → List ℤ) : Type 0 where
  pub price : (j : ℕ) → numbers of_price j ≡ all_prices hour at j ∷ []
  pub row : (i : ℕ) → numbers of_row i ≡ row_fields (get_or hour.rows i no_row) (spare.row i)
  pub transaction : (i : ℕ) → numbers of_transaction i ≡ transaction_fields (get_or hour.transactions i no_transaction) (spare.transaction i)
  pub surplus-is : (k : ℕ) → numbers of_surplus k ≡ surplus hour ∷ []
  pub share : (p : ℕ) → numbers of_share p ≡ shares hour at p ∷ []

module _ (hour : Hour) (spare : Spare) (numbers : ℕ → ℕ → List ℤ) (has : HasHour hour spare numbers) where
  -- number `field` of what stands there
  at_field : (xs ys : List ℤ) (field : ℕ) → xs ≡ ys → ys at field ≡ xs at field
  at_field xs ys field e = ap (λ (zs : List ℤ). zs at field) (sym e)

  row-stands : (i : ℕ) → Stands numbers (row_cause hour.participants hour.locations i (get_or hour.rows i no_row) (spare.row i))
  unfolding row_cause
  row-stands i =
      let number : (field : ℕ) → row_fields (get_or hour.rows i no_row) (spare.row i) at field ≡ numbers of_row i at field = λ field. at_field (numbers of_row i) _ field (has.row i) in
      or-stands numbers _ _ (tested-stands numbers 4 of_row i 0 _ _ _ (number 0))
      (or-stands numbers _ _ (tested-stands numbers 4 of_row i 1 _ _ _ (number 1))
      (or-stands numbers _ _ (tested-stands numbers 4 of_row i 2 _ _ _ (number 2))
      (or-stands numbers _ _ (tested-stands numbers 3 of_row i 3 _ _ _ (number 3))
      (or-stands numbers _ _ (tested-stands numbers 3 of_row i 4 _ _ _ (number 4))
      (or-stands numbers _ _ (tested-stands numbers 2 of_row i 5 _ _ _ (number 5)) (tested-stands numbers 9 of_row i 6 _ _ _ (number 6)))))))

  transaction-stands : (i : ℕ) → Stands numbers (transaction_cause hour.participants hour.locations i (get_or hour.transactions i no_transaction) (spare.transaction i))
  unfolding transaction_cause
  transaction-stands i =
      let number : (field : ℕ) → transaction_fields (get_or hour.transactions i no_transaction) (spare.transaction i) at field ≡ numbers of_transaction i at field = λ field. at_field (numbers of_transaction i) _ field (has.transaction i) in
      or-stands numbers _ _ (tested-stands numbers 4 of_transaction i 0 _ _ _ (number 0))
      (or-stands numbers _ _ (tested-stands numbers 4 of_transaction i 1 _ _ _ (number 1))
      (or-stands numbers _ _ (tested-stands numbers 3 of_transaction i 2 _ _ _ (number 2))
      (or-stands numbers _ _ (tested-stands numbers 3 of_transaction i 6 _ _ _ (number 6))
      (or-stands numbers _ _ (tested-stands numbers 3 of_transaction i 3 _ _ _ (number 3))
      (or-stands numbers _ _ (tested-stands numbers 3 of_transaction i 4 _ _ _ (number 4))
      (or-stands numbers _ _ (tested-stands numbers 2 of_transaction i 5 _ _ _ (number 5)) (tested-stands numbers 9 of_transaction i 7 _ _ _ (number 7))))))))

  pub content-stands : Stands numbers (content_cause hour spare)
  unfolding content_cause prices_cause rows_cause transactions_cause
  content-stands =
      or-stands numbers _ _ (first-stands numbers (pos 0) price_cause (all_prices hour) (λ j. tested-stands numbers 2 of_price j 0 (all_prices hour at j) (neg_ℤ (pos 5000000)) (pos 5000000) (at_field (numbers of_price j) _ 0 (has.price j))))
      (or-stands numbers _ _ (first-stands numbers no_row _ hour.rows row-stands) (first-stands numbers no_transaction _ hour.transactions transaction-stands))

  pub credits-stands : Stands numbers (credits_cause hour)
  unfolding surplus_cause unshared_cause
  credits-stands =
      let whole = at_field (numbers of_surplus 0) (surplus hour ∷ []) 0 (has.surplus-is 0) in
      or-stands numbers _ _ (tested-stands numbers 10 of_surplus 0 0 (surplus hour) (neg_ℤ (pos 1000000000)) (pos 1000000000) whole)
      (or-stands numbers _ _ (first-stands numbers (pos 0) share_cause (shares hour) (λ p. tested-stands numbers 10 of_share p 0 (shares hour at p) (pos 0) (pos 4000000000) (at_field (numbers of_share p) _ 0 (has.share p))))
      (unshared (ltb 0 (total (shares hour))) whole))
    where
      unshared : (t : Bool) → surplus hour ≡ numbers of_surplus 0 at 0 → Stands numbers (pick t no_cause (tested 7 of_surplus 0 0 (surplus hour) (pos 0) (pos 0)))
      unshared true e = record { there = inl refl }
      unshared false e = tested-stands numbers 7 of_surplus 0 0 (surplus hour) (pos 0) (pos 0) e
