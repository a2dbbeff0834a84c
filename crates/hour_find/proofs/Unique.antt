-- Each public contract allows one result: two that it allows at the same arguments are equal. Assumes nothing.
-- `F.Post` is the `ensures` of F, over lifetimes, arguments, result and what the lent lists hold at exit.
use mathlib.Core.Path.{◌≡◌}
use contract.Lifetimes.{Lfts}
use Rattle.std.specs.Prelude.{Result, ⊤}
use Rattle.hour.specs.declared.Cause.{Cause}
use Rattle.hour.proofs.Told.{told-unique}
use Rattle.ints.proofs.Unique.{unique}
use Rattle.hour_find.proofs.find_cause.Reads as find-cause

pub find-cause-unique : (κs : Lfts 1) (a : _) (r s : Result ⊤ Cause) (e f : _) → find-cause.Post κs a r e → find-cause.Post κs a s f → r ≡ s
find-cause-unique κs a r s e f p q = told-unique r s (unique p q)
