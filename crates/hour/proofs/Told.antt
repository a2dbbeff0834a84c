-- A cause tells all of an outcome: two outcomes with one cause are one outcome. And outcomes as code makes them, test by test and loop by loop. Assumes nothing.
use Rattle.std.proofs.Common.{◌≡◌, ℕ, ◌+◌, ◌<◌, ◌≤◌, eqb, refl, sym, ap, ap₂, ◌∙◌}
use Rattle.std.specs.Prelude.{ℤ, Result, Ok, Err, ⊤}
use Rattle.refusals.specs.declared.Refusal.{Refusal}
use Rattle.refusals.proofs.Numbers.{number-unique, number-not-zero}
use Rattle.ints.specs.Refusal.{pick}
use Rattle.hour.specs.Cause.{Cause, no_cause, ◌or◌}
use Rattle.hour.proofs.Causes.{or-ends, or-follows, Left, left-next, left-first, left-none}
use Rattle.hour.specs.InsideCause.{first_from}
use Rattle.hour.specs.InsideTold.{header_field, row_field, transaction_field, list_field, part_of, number_of, field_of, told}
use Rattle.hour.specs.declared.Cause.{Cause as hour·Cause}
use Rattle.hour.specs.declared.HeaderField.{HeaderField}
use Rattle.hour.specs.declared.ListField.{ListField}
use Rattle.hour.specs.declared.Place.{Place}
use Rattle.hour.specs.declared.RowField.{RowField}
use Rattle.hour.specs.declared.TransactionField.{TransactionField}

-- ---- a place by its numbers

header_of : ℕ → HeaderField
header_of n =
    pick (eqb n 0) HeaderField.Participants
    (pick (eqb n 1) HeaderField.Locations
    (pick (eqb n 2) HeaderField.Rows
    (pick (eqb n 3) HeaderField.Transactions
    HeaderField.Edition)))

header-again : (f : HeaderField) → header_of (header_field f) ≡ f
unfolding header_of
header-again HeaderField.Participants = refl
header-again HeaderField.Locations = refl
header-again HeaderField.Rows = refl
header-again HeaderField.Transactions = refl
header-again HeaderField.Edition = refl

row_of : ℕ → RowField
row_of n =
    pick (eqb n 0) RowField.Market
    (pick (eqb n 1) RowField.Kind
    (pick (eqb n 2) RowField.Interval
    (pick (eqb n 3) RowField.Participant
    (pick (eqb n 4) RowField.Location
    (pick (eqb n 5) RowField.Kw
    RowField.Spare)))))

row-again : (f : RowField) → row_of (row_field f) ≡ f
unfolding row_of
row-again RowField.Market = refl
row-again RowField.Kind = refl
row-again RowField.Interval = refl
row-again RowField.Participant = refl
row-again RowField.Location = refl
row-again RowField.Kw = refl
row-again RowField.Spare = refl

transaction_of : ℕ → TransactionField
transaction_of n =
    pick (eqb n 0) TransactionField.Market
    (pick (eqb n 1) TransactionField.Interval
    (pick (eqb n 2) TransactionField.Participant
    (pick (eqb n 3) TransactionField.Source
    (pick (eqb n 4) TransactionField.Sink
    (pick (eqb n 5) TransactionField.Kw
    (pick (eqb n 6) TransactionField.Seller
    TransactionField.Spare))))))

transaction-again : (f : TransactionField) → transaction_of (transaction_field f) ≡ f
unfolding transaction_of
transaction-again TransactionField.Market = refl
transaction-again TransactionField.Interval = refl
transaction-again TransactionField.Participant = refl
transaction-again TransactionField.Source = refl
transaction-again TransactionField.Sink = refl
transaction-again TransactionField.Kw = refl
transaction-again TransactionField.Seller = refl
transaction-again TransactionField.Spare = refl

list_of : ℕ → ListField
list_of n = pick (eqb n 0) ListField.Prices (pick (eqb n 1) ListField.Rows ListField.Transactions)

list-again : (f : ListField) → list_of (list_field f) ≡ f
unfolding list_of
list-again ListField.Prices = refl
list-again ListField.Rows = refl
list-again ListField.Transactions = refl

place_of : ℕ → ℕ → ℕ → Place
place_of part n field =
    pick (eqb part 1) Place.File
    (pick (eqb part 2) (Place.Header (header_of field))
    (pick (eqb part 3) (Place.Price n)
    (pick (eqb part 4) (Place.Row n (row_of field))
    (pick (eqb part 5) (Place.Transaction n (transaction_of field))
    (pick (eqb part 6) Place.Surplus
    (pick (eqb part 7) (Place.Share n)
    (Place.List (list_of field))))))))

place-again : (p : Place) → place_of (part_of p) (number_of p) (field_of p) ≡ p
unfolding place_of
place-again Place.File = refl
place-again (Place.Header field) = ap Place.Header (header-again field)
place-again (Place.Price j) = refl
place-again (Place.Row i field) = ap (Place.Row i) (row-again field)
place-again (Place.Transaction i field) = ap (Place.Transaction i) (transaction-again field)
place-again Place.Surplus = refl
place-again (Place.Share p) = refl
place-again (Place.List field) = ap Place.List (list-again field)

-- ---- a cause tells all of an outcome

place-unique : (p q : Place) → part_of p ≡ part_of q → number_of p ≡ number_of q → field_of p ≡ field_of q → p ≡ q
place-unique p q e f g = sym (place-again p) ∙ ap₂ (λ (a b : ℕ). place_of a b (field_of p)) e f ∙ ap (place_of (part_of q) (number_of q)) g ∙ place-again q

same_cause : (r s : hour·Cause) → r.refusal ≡ s.refusal → r.place ≡ s.place → r.found ≡ s.found → r.least ≡ s.least → r.most ≡ s.most → r ≡ s
same_cause r s e f g h i =
    let at : Refusal → Place → ℤ → ℤ → ℤ → hour·Cause = λ refusal place found least most. record { refusal = refusal; place = place; found = found; least = least; most = most } in
    ap₂ (λ (a : Refusal) (b : Place). at a b r.found r.least r.most) e f ∙ ap₂ (λ (a b : ℤ). at s.refusal s.place a b r.most) g h ∙ ap (at s.refusal s.place s.found s.least) i

pub told-unique : (r s : Result ⊤ hour·Cause) → told r ≡ told s → r ≡ s
told-unique (Ok x) (Ok y) e = refl
told-unique (Ok x) (Err s) e = absurd (number-not-zero s.refusal (ap (λ (c : Cause). c.refusal) (sym e)))
told-unique (Err r) (Ok y) e = absurd (number-not-zero r.refusal (ap (λ (c : Cause). c.refusal) e))
told-unique (Err r) (Err s) e =
    ap Err
    (same_cause r s (number-unique r.refusal s.refusal (ap (λ (c : Cause). c.refusal) e))
    (place-unique r.place s.place (ap (λ (c : Cause). c.part) e) (ap (λ (c : Cause). c.number) e) (ap (λ (c : Cause). c.field) e))
    (ap (λ (c : Cause). c.found) e)
    (ap (λ (c : Cause). c.least) e)
    (ap (λ (c : Cause). c.most) e))

-- ---- one test after the other: where the earlier one finds nothing the later one counts, and else it ends there

pub passed : (a b r : Cause) → no_cause ≡ a → r ≡ b → r ≡ (a or b)
passed a b r e f = f ∙ or-follows a b no_cause refl e

pub stopped : (why : hour·Cause) (a b : Cause) → told (Err why) ≡ a → told (Err why) ≡ (a or b)
stopped why a b e = or-ends a b (told (Err why)) (number-not-zero why.refusal) e

pub ruleset tests = (passed, stopped)

-- the earlier outcome where it is an error, and else the later one
abbrev pub first_of : Result ⊤ hour·Cause → Result ⊤ hour·Cause → Result ⊤ hour·Cause
first_of (Ok x) later = later
first_of (Err why) later = Err why

pub told-first : (earlier later : Result ⊤ hour·Cause) → told (first_of earlier later) ≡ (told earlier or told later)
told-first (Ok x) later = passed no_cause (told later) (told later) refl refl
told-first (Err why) later = stopped why (told (Err why)) (told later) refl

-- ---- a loop over the first n

module _ (f : ℕ → Cause) (n : ℕ) where
  module _ (i : ℕ) (l : i < n) (left : Left f n i) where
    pub left_passed : no_cause ≡ f i → Left f n (i + 1)
    left_passed e = left-next f n i l left (ap (λ (c : Cause). c.refusal) (sym e))

    pub left_stopped : (why : hour·Cause) → told (Err why) ≡ f i → told (Err why) ≡ first_from f 0 n
    left_stopped why e = e ∙ left-first f n i l left (λ z. number-not-zero why.refusal (ap (λ (c : Cause). c.refusal) e ∙ z))

  pub left_done : (i : ℕ) → n ≤ i → Left f n i → no_cause ≡ first_from f 0 n
  left_done = left-none f n

pub ruleset turns = (left_passed, left_stopped, left_done)
