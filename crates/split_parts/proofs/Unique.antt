-- Each public contract allows one result: two that it allows at the same arguments are equal. Assumes nothing.
-- `F.Post` is the `ensures` of F, over lifetimes, arguments, result and what the lent list holds at exit.
use mathlib.Core.Path.{◌≡◌}
use Prim.Native.Nat.{ℕ}
use contract.Lifetimes.{Lfts}
use Rattle.ints.proofs.Unique.{unique}
use Rattle.split_parts.proofs.fill.Reads as fill
use Rattle.split_parts.proofs.fill_in_place.Reads as fill-in-place
use Rattle.split_parts.proofs.total_of.Reads as total_of

pub total-of-unique : (κs : Lfts 1) (a : _) (r s : ℕ) (e f : _) → total_of.Post κs a r e → total_of.Post κs a s f → r ≡ s
total-of-unique κs a r s e f p q = unique p q

pub fill-in-place-unique : (κs : Lfts 1) (a : _) (r s : _) (e f : _) → fill-in-place.Post κs a r e → fill-in-place.Post κs a s f → e.1.1.1.0.now ≡ f.1.1.1.0.now
fill-in-place-unique κs a r s e f p q = unique p q

pub fill-unique : (κs : Lfts 2) (a : _) (r s : _) (e f : _) → fill.Post κs a r e → fill.Post κs a s f → e.1.1.1.1.0.now ≡ f.1.1.1.1.0.now
fill-unique κs a r s e f p q = unique p q
