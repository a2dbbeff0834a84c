-- Each public contract allows one result: two that it allows at the same arguments are equal. Assumes nothing.
-- `F.Post` is the `ensures` of F, over lifetimes, arguments, result and arguments at exit.
use mathlib.Core.Path.{◌≡◌, sym, ◌∙◌}
use mathlib.Core.Bool.{Bool}
use Prim.Native.Nat.{ℕ}
use lib.IntN.{ℤ}
use contract.Lifetimes.{Lfts}
use Rattle.ints.proofs.all_between.Reads as all-between
use Rattle.ints.proofs.both.Reads as both
use Rattle.ints.proofs.clear.Reads as clear
use Rattle.ints.proofs.copy.Reads as copy
use Rattle.ints.proofs.is_between.Reads as is-between
use Rattle.ints.proofs.negative.Reads as negative
use Rattle.ints.proofs.size.Reads as size
use Rattle.ints.proofs.sum.Reads as sum
use Rattle.ints.proofs.with_sign.Reads as with-sign

-- two results that are both what a definition gives
pub unique : {A : Type 0} {x y defined : A} → x ≡ defined → y ≡ defined → x ≡ y
unique p q = p ∙ sym q

pub size-unique : (a : _) (r s : ℕ) (e f : _) → size.Post tt a r e → size.Post tt a s f → r ≡ s
size-unique a r s e f p q = unique p q

pub negative-unique : (a : _) (r s : Bool) (e f : _) → negative.Post tt a r e → negative.Post tt a s f → r ≡ s
negative-unique a r s e f p q = unique p q

pub with-sign-unique : (a : _) (r s : ℤ) (e f : _) → with-sign.Post tt a r e → with-sign.Post tt a s f → r ≡ s
with-sign-unique a r s e f p q = unique p q

pub is-between-unique : (a : _) (r s : Bool) (e f : _) → is-between.Post tt a r e → is-between.Post tt a s f → r ≡ s
is-between-unique a r s e f p q = unique p q

pub both-unique : (a : _) (r s : Bool) (e f : _) → both.Post tt a r e → both.Post tt a s f → r ≡ s
both-unique a r s e f p q = unique p q

pub all-between-unique : (κs : Lfts 1) (a : _) (r s : Bool) (e f : _) → all-between.Post κs a r e → all-between.Post κs a s f → r ≡ s
all-between-unique κs a r s e f p q = unique p q

pub clear-unique : (κs : Lfts 1) (a : _) (r s : _) (e f : _) → clear.Post κs a r e → clear.Post κs a s f → e.0.now ≡ f.0.now
clear-unique κs a r s e f p q = unique p q

pub copy-unique : (κs : Lfts 2) (a : _) (r s : _) (e f : _) → copy.Post κs a r e → copy.Post κs a s f → e.1.0.now ≡ f.1.0.now
copy-unique κs a r s e f p q = unique p q

pub sum-unique : (κs : Lfts 1) (a : _) (r s : ℤ) (e f : _) → sum.Post κs a r e → sum.Post κs a s f → r ≡ s
sum-unique κs a r s e f p q = unique p q
