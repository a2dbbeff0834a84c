-- Each public contract allows one result: two that it allows at the same arguments are equal. Assumes nothing.
-- `F.Post` is the `ensures` of F, over lifetimes, arguments, result and what the lent lists hold at exit.
use mathlib.Core.Path.{◌≡◌}
use Rattle.std.specs.Prelude.{Result, ⊤}
use Rattle.refusals.proofs.Numbers.{answer-unique}
use Rattle.refusals.specs.declared.Refusal.{Refusal}
use contract.Lifetimes.{Lfts}
use Rattle.ints.proofs.Unique.{unique}
use Rattle.exercise_lists.proofs.content_refusal.Reads as content-refusal
use Rattle.exercise_lists.proofs.counts_refusal.Reads as counts-refusal
use Rattle.exercise_lists.proofs.lists_refusal.Reads as lists-refusal

pub counts-refusal-unique : (a : _) (r s : Result ⊤ Refusal) (e f : _) → counts-refusal.Post tt a r e → counts-refusal.Post tt a s f → r ≡ s
counts-refusal-unique a r s e f p q = answer-unique r s (unique p q)

pub lists-refusal-unique : (a : _) (r s : Result ⊤ Refusal) (e f : _) → lists-refusal.Post tt a r e → lists-refusal.Post tt a s f → r ≡ s
lists-refusal-unique a r s e f p q = answer-unique r s (unique p q)

pub content-refusal-unique : (κs : Lfts 1) (a : _) (r s : Result ⊤ Refusal) (e f : _) → content-refusal.Post κs a r e → content-refusal.Post κs a s f → r ≡ s
content-refusal-unique κs a r s e f p q = answer-unique r s (unique p q)
