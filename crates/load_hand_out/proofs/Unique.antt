-- Each public contract allows one content of each list that is lent to be written: two that it allows at the same arguments are equal. Assumes nothing.
-- `F.Post` is the `ensures` of F, over lifetimes, arguments, result and what the lent lists hold at exit.
use mathlib.Core.Path.{◌≡◌}
use contract.Lifetimes.{Lfts}
use Rattle.load.proofs.Tables.{added-unique}
use Rattle.load_hand_out.proofs.hand_contracts.Reads as hand-contracts
use Rattle.load_hand_out.proofs.hand_rests.Reads as hand-rests

pub hand-contracts-unique : (κs : Lfts 4) (a : _) (r s : _) (e f : _) → hand-contracts.Post κs a r e → hand-contracts.Post κs a s f → (e.1.1.1.0.now ≡ f.1.1.1.0.now) × (e.1.1.1.1.0.now ≡ f.1.1.1.1.0.now)
hand-contracts-unique κs a r s e f p q = (added-unique p.0 q.0, added-unique p.1 q.1)

pub hand-rests-unique : (κs : Lfts 4) (a : _) (r s : _) (e f : _) → hand-rests.Post κs a r e → hand-rests.Post κs a s f → e.1.1.1.1.1.0.now ≡ f.1.1.1.1.1.0.now
hand-rests-unique κs a r s e f p q = added-unique p q
