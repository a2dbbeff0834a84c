-- Each public contract allows one result: two that it allows at the same arguments are equal. Assumes nothing.
-- `F.Post` is the `ensures` of F, over lifetimes, arguments, result and what the lent lists hold at exit.
use mathlib.Core.Path.{◌≡◌, ap}
use contract.Lifetimes.{Lfts}
use Rattle.std.specs.Prelude.{Result, ⊤}
use Rattle.ints.proofs.Unique.{unique}
use Rattle.hour.specs.Cause.{Cause as hour·Cause}
use Rattle.hour.specs.declared.Cause.{Cause}
use Rattle.hour.proofs.Told.{told-unique}
use Rattle.hour_cause.specs.Inside.{as_cause}
use Rattle.hour_cause.specs.declared.CauseNumbers.{CauseNumbers}
use Rattle.hour_cause.proofs.in_range.Reads as in-range
use Rattle.hour_cause.proofs.numbers_of.Reads as numbers-of
use Rattle.hour_cause.proofs.price_cause.Reads as price-cause
use Rattle.hour_cause.proofs.put_cause.Reads as put-cause
use Rattle.hour_cause.proofs.row_cause.Reads as row-cause
use Rattle.hour_cause.proofs.surplus_cause.Reads as surplus-cause
use Rattle.hour_cause.proofs.tested.Reads as tested
use Rattle.hour_cause.proofs.transaction_cause.Reads as transaction-cause

-- numbers that stand for one cause are the same numbers
abbrev of-cause : hour·Cause → CauseNumbers
of-cause c =
    record { refusal = c.refusal; part = c.part; number = c.number; field = c.field; found = c.found; least = c.least; most = c.most }

pub as-cause-unique : (n m : CauseNumbers) → as_cause n ≡ as_cause m → n ≡ m
as-cause-unique n m e = ap of-cause e

pub tested-unique : (a : _) (r s : CauseNumbers) (e f : _) → tested.Post tt a r e → tested.Post tt a s f → r ≡ s
tested-unique a r s e f p q = as-cause-unique r s (unique p q)

pub numbers-of-unique : (a : _) (r s : CauseNumbers) (e f : _) → numbers-of.Post tt a r e → numbers-of.Post tt a s f → r ≡ s
numbers-of-unique a r s e f p q = as-cause-unique r s (unique p q)

pub in-range-unique : (a : _) (r s : Result ⊤ Cause) (e f : _) → in-range.Post tt a r e → in-range.Post tt a s f → r ≡ s
in-range-unique a r s e f p q = told-unique r s (unique p q)

pub price-cause-unique : (a : _) (r s : Result ⊤ Cause) (e f : _) → price-cause.Post tt a r e → price-cause.Post tt a s f → r ≡ s
price-cause-unique a r s e f p q = told-unique r s (unique p q)

pub row-cause-unique : (a : _) (r s : Result ⊤ Cause) (e f : _) → row-cause.Post tt a r e → row-cause.Post tt a s f → r ≡ s
row-cause-unique a r s e f p q = told-unique r s (unique p q)

pub transaction-cause-unique : (a : _) (r s : Result ⊤ Cause) (e f : _) → transaction-cause.Post tt a r e → transaction-cause.Post tt a s f → r ≡ s
transaction-cause-unique a r s e f p q = told-unique r s (unique p q)

pub surplus-cause-unique : (κs : Lfts 1) (a : _) (r s : Result ⊤ Cause) (e f : _) → surplus-cause.Post κs a r e → surplus-cause.Post κs a s f → r ≡ s
surplus-cause-unique κs a r s e f p q = told-unique r s (unique p q)

pub put-cause-unique : (κs : Lfts 1) (a : _) (r s : _) (e f : _) → put-cause.Post κs a r e → put-cause.Post κs a s f → e.1.0.now ≡ f.1.0.now
put-cause-unique κs a r s e f p q = unique p q
