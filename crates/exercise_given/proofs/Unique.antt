-- Each public contract allows one result: two that it allows at the same arguments are equal. Assumes nothing.
-- `F.Post` is the `ensures` of F, over lifetimes, arguments, result and what the lent lists hold at exit.
use Rattle.std.proofs.Common.{◌≡◌, sym, ◌∙◌}
use Rattle.hour.proofs.Numbers.{as-row-unique, as-transaction-unique}
use Rattle.hour.specs.declared.RowNumbers.{RowNumbers}
use Rattle.hour.specs.declared.TransactionNumbers.{TransactionNumbers}
use Rattle.exercise_given.proofs.row_given.Reads as row-given
use Rattle.exercise_given.proofs.transaction_given.Reads as transaction-given

pub row-given-unique : (κs : _) (a : _) (r s : RowNumbers) (e f : _) → row-given.Post κs a r e → row-given.Post κs a s f → r ≡ s
row-given-unique κs a r s e f p q = as-row-unique r s (p ∙ sym q)

pub transaction-given-unique : (κs : _) (a : _) (r s : TransactionNumbers) (e f : _) → transaction-given.Post κs a r e → transaction-given.Post κs a s f → r ≡ s
transaction-given-unique κs a r s e f p q = as-transaction-unique r s (p ∙ sym q)
