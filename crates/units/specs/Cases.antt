-- Worked numbers. Assumes nothing.
use Rattle.std.specs.Prelude.{◌≡◌, refl, pos, neg_ℤ}
use Rattle.ints.specs.Sum.{sum_to}
use Rattle.units.specs.Units.{cents_of}
use Rattle.units.specs.Inside.{charge_of, whole_hour}

-- ---- document 002: 200 MW at 0.60 dollars per MWh, for an hour, are 120.00 dollars

pub demand : cents_of (charge_of (pos 200000) (whole_hour (pos 600))) ≡ pos 12000
unfolding cents_of
demand = refl

-- the same interval by interval
pub intervals : cents_of (sum_to (λ k. charge_of (pos 200000) (pos 600)) 12) ≡ pos 12000
unfolding cents_of sum_to
intervals = refl

-- ---- both sides of half a cent

pub half : cents_of (pos 60000) ≡ pos 1
unfolding cents_of
half = refl

pub below_half : cents_of (pos 59999) ≡ pos 0
unfolding cents_of
below_half = refl

pub above_half : cents_of (pos 60001) ≡ pos 1
unfolding cents_of
above_half = refl

pub half_back : cents_of (neg_ℤ (pos 60000)) ≡ neg_ℤ (pos 1)
unfolding cents_of
half_back = refl

pub below-half-back : cents_of (neg_ℤ (pos 59999)) ≡ pos 0
unfolding cents_of
below-half-back = refl

pub above-half-back : cents_of (neg_ℤ (pos 60001)) ≡ neg_ℤ (pos 1)
unfolding cents_of
above-half-back = refl

-- ---- the least and the largest i64

pub least : cents_of (neg_ℤ (pos 9223372036854775808)) ≡ neg_ℤ (pos 76861433640456)
unfolding cents_of
least = refl

pub largest : cents_of (pos 9223372036854775807) ≡ pos 76861433640456
unfolding cents_of
largest = refl
