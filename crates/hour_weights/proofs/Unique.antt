-- Each public contract allows one result: two that it allows at the same arguments are equal. Assumes nothing.
-- `F.Post` is the `ensures` of F, over lifetimes, arguments, result and what the lent list holds at exit.
use mathlib.Core.Path.{◌≡◌}
use contract.Lifetimes.{Lfts}
use Rattle.ints.proofs.Unique.{unique}
use Rattle.hour_weights.proofs.stage_prices.Reads as stage-prices
use Rattle.hour_weights.proofs.weigh.Reads as weigh
use Rattle.hour_weights.proofs.weight_of.Reads as weight-of

-- a part by its numbers and by where it lies: the block, and the place in it
pub stage-prices-unique : (κs : Lfts 1) (a : _) (r s : _) (e f : _) → stage-prices.Post κs a r e → stage-prices.Post κs a s f → (r.now ≡ s.now) × (r.ref_ptr.0 ≡ s.ref_ptr.0) × (r.ref_ptr.1 ≡ s.ref_ptr.1)
stage-prices-unique κs a r s e f p q = (unique p.0 q.0, unique p.1.0 q.1.0, unique p.1.1 q.1.1)

pub weigh-unique : (κs : Lfts 1) (a : _) (r s : _) (e f : _) → weigh.Post κs a r e → weigh.Post κs a s f → e.0.now ≡ f.0.now
weigh-unique κs a r s e f p q = unique p q

pub weight-of-unique : (κs : Lfts 1) (a : _) (r s : _) (e f : _) → weight-of.Post κs a r e → weight-of.Post κs a s f → r.0 ≡ s.0
weight-of-unique κs a r s e f p q = unique p q
