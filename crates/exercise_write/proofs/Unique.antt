-- Each public contract allows one result: two that it allows at the same arguments are equal. Assumes nothing.
-- `F.Post` is the `ensures` of F, over lifetimes, arguments, result and what the lent lists hold at exit.
use mathlib.Core.Path.{◌≡◌}
use Rattle.std.specs.Prelude.{Result, ⊤}
use Rattle.refusals.proofs.Numbers.{answer-unique}
use Rattle.refusals.specs.declared.Refusal.{Refusal}
use contract.Lifetimes.{Lfts}
use Rattle.ints.proofs.Unique.{unique}
use Rattle.exercise_write.proofs.write_file.Reads as write-file

pub write-file-unique : (κs : Lfts 2) (a : _) (r s : Result ⊤ Refusal) (e f : _) → write-file.Post κs a r e → write-file.Post κs a s f → (r ≡ s) × (e.1.1.0.now ≡ f.1.1.0.now)
write-file-unique κs a r s e f p q = (answer-unique r s (unique p.0 q.0), unique p.1 q.1)
