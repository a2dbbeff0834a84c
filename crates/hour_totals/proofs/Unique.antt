-- Each public contract allows one result: two that it allows at the same arguments are equal. Assumes nothing.
-- `F.Post` is the `ensures` of F, over lifetimes, arguments, result and what the lent lists hold at exit.
use mathlib.Core.Path.{◌≡◌}
use contract.Lifetimes.{Lfts}
use Rattle.ints.proofs.Unique.{unique}
use Rattle.hour_totals.proofs.add_row.Reads as add_row
use Rattle.hour_totals.proofs.add_share.Reads as add-share
use Rattle.hour_totals.proofs.add_transaction.Reads as add-transaction

pub add-row-unique : (κs : Lfts 2) (a : _) (r s : _) (e f : _) → add_row.Post κs a r e → add_row.Post κs a s f → e.1.1.1.0.now ≡ f.1.1.1.0.now
add-row-unique κs a r s e f p q = unique p q

pub add-transaction-unique : (κs : Lfts 2) (a : _) (r s : _) (e f : _) → add-transaction.Post κs a r e → add-transaction.Post κs a s f → e.1.1.1.1.0.now ≡ f.1.1.1.1.0.now
add-transaction-unique κs a r s e f p q = unique p q

pub add-share-unique : (κs : Lfts 1) (a : _) (r s : _) (e f : _) → add-share.Post κs a r e → add-share.Post κs a s f → e.1.0.now ≡ f.1.0.now
add-share-unique κs a r s e f p q = unique p q
