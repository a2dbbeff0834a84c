-- Each public contract allows one result: two that it allows at the same arguments are equal. Assumes nothing.
-- `F.Post` is the `ensures` of F, over lifetimes, arguments, result and what the lent lists hold at exit.
use mathlib.Core.Path.{◌≡◌}
use mathlib.Core.Bool.{Bool}
use Prim.Native.Nat.{ℕ}
use contract.Lifetimes.{Lfts}
use lib.IntN.{ℤ}
use Rattle.ints.proofs.Unique.{unique}
use Rattle.numbers.proofs.from_word.Reads as from-word
use Rattle.numbers.proofs.is_list.Reads as is-list
use Rattle.numbers.proofs.number_at.Reads as number_at
use Rattle.numbers.proofs.put_number.Reads as put-number
use Rattle.numbers.proofs.read_all.Reads as read_all
use Rattle.numbers.proofs.word_at.Reads as word_at
use Rattle.numbers.proofs.write_all.Reads as write-all

pub number-at-unique : (κs : Lfts 1) (a : _) (r s : ℤ) (e f : _) → number_at.Post κs a r e → number_at.Post κs a s f → r ≡ s
number-at-unique κs a r s e f p q = unique p q

pub word-at-unique : (κs : Lfts 1) (a : _) (r s : ℕ) (e f : _) → word_at.Post κs a r e → word_at.Post κs a s f → r ≡ s
word-at-unique κs a r s e f p q = unique p q

pub put-number-unique : (κs : Lfts 1) (a : _) (r s : _) (e f : _) → put-number.Post κs a r e → put-number.Post κs a s f → e.0.now ≡ f.0.now
put-number-unique κs a r s e f p q = unique p q

pub read-all-unique : (κs : Lfts 2) (a : _) (r s : _) (e f : _) → read_all.Post κs a r e → read_all.Post κs a s f → e.1.0.now ≡ f.1.0.now
read-all-unique κs a r s e f p q = unique p q

pub write-all-unique : (κs : Lfts 2) (a : _) (r s : _) (e f : _) → write-all.Post κs a r e → write-all.Post κs a s f → e.1.0.now ≡ f.1.0.now
write-all-unique κs a r s e f p q = unique p q

pub is-list-unique : (a : _) (r s : Bool) (e f : _) → is-list.Post tt a r e → is-list.Post tt a s f → r ≡ s
is-list-unique a r s e f p q = unique p q

pub from-word-unique : (a : _) (r s : ℤ) (e f : _) → from-word.Post tt a r e → from-word.Post tt a s f → r ≡ s
from-word-unique a r s e f p q = unique p q
