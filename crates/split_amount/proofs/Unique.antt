-- Each public contract allows one answer and one list: two that it allows at the same arguments are equal. Assumes nothing.
-- `F.Post` is the `ensures` of F, over lifetimes, arguments, answer and what the lent lists hold at exit.
use mathlib.Core.Path.{◌≡◌}
use contract.Lifetimes.{Lfts}
use Rattle.std.specs.Prelude.{Result, ⊤}
use Rattle.ints.proofs.Unique.{unique}
use Rattle.refusals.proofs.Numbers.{answer-unique}
use Rattle.refusals.specs.declared.Refusal.{Refusal}
use Rattle.split_amount.proofs.split.Reads as split
use Rattle.split_amount.proofs.split_in_place.Reads as split-in-place

pub split-unique : (κs : Lfts 2) (a : _) (r s : Result ⊤ Refusal) (e f : _) → split.Post κs a r e → split.Post κs a s f → (r ≡ s) × (e.1.1.0.now ≡ f.1.1.0.now)
split-unique κs a r s e f p q = (answer-unique r s (unique p.0 q.0), unique p.1 q.1)

pub split-in-place-unique : (κs : Lfts 1) (a : _) (r s : Result ⊤ Refusal) (e f : _) → split-in-place.Post κs a r e → split-in-place.Post κs a s f → (r ≡ s) × (e.1.0.now ≡ f.1.0.now)
split-in-place-unique κs a r s e f p q = (answer-unique r s (unique p.0 q.0), unique p.1 q.1)
