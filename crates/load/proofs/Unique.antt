-- Each public contract allows one result: two that it allows at the same arguments are equal. Assumes nothing.
use mathlib.Core.Path.{◌≡◌}
use contract.Lifetimes.{Lfts}
use Rattle.ints.proofs.Unique.{unique}
use Rattle.load.proofs.contract_at.Reads as contract-at
use Rattle.load.proofs.parts_of.Reads as parts-of

-- `F.Post` is the `ensures` of F, over lifetimes, arguments, result and arguments at exit
pub parts-of-unique : (κs : Lfts 1) (a : _) (r s : _) (e f : _) → parts-of.Post κs a r e → parts-of.Post κs a s f → (r.now ≡ s.now) × (r.ref_ptr.0 ≡ s.ref_ptr.0) × (r.ref_ptr.1 ≡ s.ref_ptr.1)
parts-of-unique κs a r s e f p q = (unique p.0 q.0, unique p.1.0 q.1.0, unique p.1.1 q.1.1)

pub contract-at-unique : (κs : Lfts 1) (a : _) (r s : _) (e f : _) → contract-at.Post κs a r e → contract-at.Post κs a s f → (r.supplier ≡ s.supplier) × (r.area ≡ s.area) × (r.kw ≡ s.kw)
contract-at-unique κs a r s e f p q = (unique p.0 q.0, unique p.1.0 q.1.0, unique p.1.1 q.1.1)
