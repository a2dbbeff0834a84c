-- Each contract allows one result: two that it allows at the same arguments are equal. Assumes nothing.
use mathlib.Core.Path.{◌≡◌, ap}
use lib.IntN.{ℤ}
use Rattle.ints.proofs.Unique.{unique}
use Rattle.units.specs.declared.Cents.{Cents}
use Rattle.units.specs.declared.Kw.{Kw}
use Rattle.units.specs.declared.Mills.{Mills}
use Rattle.units.specs.declared.NetKw.{NetKw}
use Rattle.units.specs.declared.Twelfths.{Twelfths}
use Rattle.units.proofs.charge_of.Reads as charge-of
use Rattle.units.proofs.injected.Reads as injected
use Rattle.units.proofs.reimbursed.Reads as reimbursed
use Rattle.units.proofs.rise.Reads as rise
use Rattle.units.proofs.to_cents.Reads as to-cents
use Rattle.units.proofs.whole_hour.Reads as whole-hour
use Rattle.units.proofs.withdrawn.Reads as withdrawn

-- ---- what each contract says of a result r. `F.Post` is the `ensures` of F, over lifetimes, arguments, result and arguments at exit

abbrev Withdrawn : Kw → NetKw → Type 0
Withdrawn kw r = withdrawn.Post tt (kw, tt) r (kw, tt)

abbrev Injected : Kw → NetKw → Type 0
Injected kw r = injected.Post tt (kw, tt) r (kw, tt)

abbrev Charge : NetKw → Mills → Twelfths → Type 0
Charge kw price r = charge-of.Post tt (kw, (price, tt)) r (kw, (price, tt))

abbrev WholeHour : Mills → Mills → Type 0
WholeHour price r = whole-hour.Post tt (price, tt) r (price, tt)

abbrev Rise : Mills → Mills → Mills → Type 0
Rise sink source r = rise.Post tt (sink, (source, tt)) r (sink, (source, tt))

abbrev Reimbursed : Twelfths → Twelfths → Type 0
Reimbursed amount r = reimbursed.Post tt (amount, tt) r (amount, tt)

abbrev ToCents : Twelfths → Cents → Type 0
ToCents amount r = to-cents.Post tt (amount, tt) r (amount, tt)

-- ---- two results

pub withdrawn-unique : (kw : Kw) (r s : NetKw) → Withdrawn kw r → Withdrawn kw s → r ≡ s
withdrawn-unique kw r s p q = ap (λ (n : ℤ). record { 0 = n }) (unique p q)

pub injected-unique : (kw : Kw) (r s : NetKw) → Injected kw r → Injected kw s → r ≡ s
injected-unique kw r s p q = ap (λ (n : ℤ). record { 0 = n }) (unique p q)

pub charge-of-unique : (kw : NetKw) (price : Mills) (r s : Twelfths) → Charge kw price r → Charge kw price s → r ≡ s
charge-of-unique kw price r s p q = ap (λ (n : ℤ). record { 0 = n }) (unique p q)

pub whole-hour-unique : (price r s : Mills) → WholeHour price r → WholeHour price s → r ≡ s
whole-hour-unique price r s p q = ap (λ (n : ℤ). record { 0 = n }) (unique p q)

pub rise-unique : (sink source r s : Mills) → Rise sink source r → Rise sink source s → r ≡ s
rise-unique sink source r s p q = ap (λ (n : ℤ). record { 0 = n }) (unique p q)

pub reimbursed-unique : (amount r s : Twelfths) → Reimbursed amount r → Reimbursed amount s → r ≡ s
reimbursed-unique amount r s p q = ap (λ (n : ℤ). record { 0 = n }) (unique p q)

pub to-cents-unique : (amount : Twelfths) (r s : Cents) → ToCents amount r → ToCents amount s → r ≡ s
to-cents-unique amount r s p q = ap (λ (n : ℤ). record { 0 = n }) (unique p q)
