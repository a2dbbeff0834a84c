-- Each public contract allows one result: two that it allows at the same arguments are equal. Assumes nothing.
-- `F.Post` is the `ensures` of F, over lifetimes, arguments, result and what the lent lists hold at exit.
use mathlib.Core.Path.{◌≡◌}
use contract.Lifetimes.{Lfts}
use Rattle.std.specs.Prelude.{Result, ⊤}
use Rattle.ints.proofs.Unique.{unique}
use Rattle.hour.specs.declared.Cause.{Cause}
use Rattle.hour.proofs.Told.{told-unique}
use Rattle.exercise_list_cause.proofs.list_cause.Reads as list-cause

pub list-cause-unique : (κs : Lfts 1) (a : _) (r s : Result ⊤ Cause) (e f : _) → list-cause.Post κs a r e → list-cause.Post κs a s f → r ≡ s
list-cause-unique κs a r s e f p q = told-unique r s (unique p q)
