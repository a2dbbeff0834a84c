-- Each public contract allows one result: two that it allows at the same arguments are equal. Assumes nothing.
-- `F.Post` is the `ensures` of F, over lifetimes, arguments, result and what the lent lists hold at exit.
use mathlib.Core.Path.{◌≡◌}
use contract.Lifetimes.{Lfts}
use Rattle.ints.proofs.Unique.{unique}
use Rattle.exercise_editions.proofs.edition_of.Reads as edition-of
use Rattle.exercise_editions.proofs.item_length.Reads as item-length
use Rattle.exercise_editions.proofs.item_size.Reads as item-size
use Rattle.exercise_editions.proofs.transaction_length.Reads as transaction-length
use Rattle.exercise_editions.proofs.transaction_size.Reads as transaction-size

pub edition-of-unique : (κs : Lfts 0) (a : _) (r s : _) (e f : _) → edition-of.Post κs a r e → edition-of.Post κs a s f → r ≡ s
edition-of-unique κs a r s e f p q = unique p q

pub transaction-size-unique : (κs : Lfts 0) (a : _) (r s : _) (e f : _) → transaction-size.Post κs a r e → transaction-size.Post κs a s f → r ≡ s
transaction-size-unique κs a r s e f p q = unique p.0 q.0

pub transaction-length-unique : (κs : Lfts 0) (a : _) (r s : _) (e f : _) → transaction-length.Post κs a r e → transaction-length.Post κs a s f → r ≡ s
transaction-length-unique κs a r s e f p q = unique p.0 q.0

pub item-size-unique : (κs : Lfts 0) (a : _) (r s : _) (e f : _) → item-size.Post κs a r e → item-size.Post κs a s f → r ≡ s
item-size-unique κs a r s e f p q = unique p.0 q.0

pub item-length-unique : (κs : Lfts 0) (a : _) (r s : _) (e f : _) → item-length.Post κs a r e → item-length.Post κs a s f → r ≡ s
item-length-unique κs a r s e f p q = unique p.0 q.0
