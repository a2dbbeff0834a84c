-- The contract of `assign` allows one answer and one list: two that it allows at the same arguments are equal. Assumes nothing.
use mathlib.Core.Path.{◌≡◌}
use Rattle.std.specs.Prelude.{Result, ⊤}
use contract.Lifetimes.{Lfts}
use Rattle.ints.proofs.Unique.{unique}
use Rattle.refusals.proofs.Numbers.{answer-unique}
use Rattle.refusals.specs.declared.Refusal.{Refusal}
use Rattle.load_assign.proofs.assign.Reads as assign

-- `assign.Post` is the contract's `ensures`, over lifetimes, arguments, answer and what the lent lists hold at exit
pub assign-unique : (κs : Lfts 2) (a : _) (r s : Result ⊤ Refusal) (e f : _) → assign.Post κs a r e → assign.Post κs a s f → (r ≡ s) × (e.1.0.now ≡ f.1.0.now)
assign-unique κs a r s e f p q = (answer-unique r s (unique p.0 q.0), unique p.1 q.1)
