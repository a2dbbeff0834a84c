-- Each public contract allows one result: two that it allows at the same arguments are equal. Assumes nothing.
-- `F.Post` is the `ensures` of F, over lifetimes, arguments, result and what the lent lists hold at exit.
use mathlib.Core.Path.{◌≡◌}
use contract.Lifetimes.{Lfts}
use Rattle.std.specs.Prelude.{Result, ⊤}
use Rattle.hour.specs.declared.Cause.{Cause}
use Rattle.hour.proofs.Told.{told-unique}
use Rattle.ints.proofs.Unique.{unique}
use Rattle.exercise_cause.proofs.content_cause.Reads as content-cause
use Rattle.exercise_cause.proofs.frame_cause.Reads as frame-cause

pub frame-cause-unique : (κs : Lfts 1) (a : _) (r s : Result ⊤ Cause) (e f : _) → frame-cause.Post κs a r e → frame-cause.Post κs a s f → r ≡ s
frame-cause-unique κs a r s e f p q = told-unique r s (unique p q)

pub content-cause-unique : (κs : Lfts 1) (a : _) (r s : Result ⊤ Cause) (e f : _) → content-cause.Post κs a r e → content-cause.Post κs a s f → r ≡ s
content-cause-unique κs a r s e f p q = told-unique r s (unique p q)
