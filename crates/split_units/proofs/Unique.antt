-- The contract of `give_units` allows one list of parts: two that it allows at the same arguments are equal. Assumes nothing.
use Rattle.std.proofs.Common.{◌≡◌}
use contract.Lifetimes.{Lfts}
use Rattle.ints.proofs.Unique.{unique}
use Rattle.split_units.proofs.give_units.Reads as give-units

-- `give-units.Post` is the contract's `ensures`, over lifetimes, arguments, answer and what the lent lists hold at exit
pub give-units-unique : (κs : Lfts 2) (a : _) (r s : _) (e f : _) → give-units.Post κs a r e → give-units.Post κs a s f → e.1.1.1.1.0.now ≡ f.1.1.1.1.0.now
give-units-unique κs a r s e f p q = unique p q
