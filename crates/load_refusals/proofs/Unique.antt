-- The contract of `lists_refusal` allows one answer: two that it allows at the same arguments are equal. Assumes nothing.
use mathlib.Core.Path.{◌≡◌}
use Rattle.std.specs.Prelude.{Result, ⊤}
use contract.Lifetimes.{Lfts}
use Rattle.ints.proofs.Unique.{unique}
use Rattle.refusals.proofs.Numbers.{answer-unique}
use Rattle.refusals.specs.declared.Refusal.{Refusal}
use Rattle.load_refusals.proofs.lists_refusal.Reads as lists-refusal

-- `lists-refusal.Post` is the contract's `ensures`, over lifetimes, arguments, answer and arguments at exit
pub lists-refusal-unique : (κs : Lfts 1) (a : _) (r s : Result ⊤ Refusal) (e f : _) → lists-refusal.Post κs a r e → lists-refusal.Post κs a s f → r ≡ s
lists-refusal-unique κs a r s e f p q = answer-unique r s (unique p q)
