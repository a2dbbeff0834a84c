-- Each public contract allows one result: two that it allows at the same arguments are equal. Assumes nothing.
-- `F.Post` is the `ensures` of F, over lifetimes, arguments, result and arguments at exit.
use Rattle.std.proofs.Common.{◌≡◌, ℕ}
use Rattle.std.specs.Prelude.{Result, ⊤}
use contract.Lifetimes.{Lfts}
use Rattle.ints.proofs.Unique.{unique}
use Rattle.refusals.proofs.Numbers.{answer-unique, numbered-unique}
use Rattle.refusals.specs.declared.Refusal.{Refusal}
use Rattle.hour.specs.declared.Row.{Row}
use Rattle.hour.specs.declared.Transaction.{Transaction}
use Rattle.exercise_rows.proofs.decode_row.Reads as decode-row
use Rattle.exercise_rows.proofs.decode_transaction.Reads as decode-transaction
use Rattle.exercise_rows.proofs.read_row.Reads as read-row
use Rattle.exercise_rows.proofs.read_transaction.Reads as read-transaction
use Rattle.exercise_rows.proofs.row_at.Reads as row_at
use Rattle.exercise_rows.proofs.row_spare.Reads as row-spare
use Rattle.exercise_rows.proofs.rows_refusal.Reads as rows-refusal
use Rattle.exercise_rows.proofs.bytes_at.Reads as bytes-at
use Rattle.exercise_rows.proofs.transaction_at.Reads as transaction-at
use Rattle.exercise_rows.proofs.transaction_spare.Reads as transaction-spare
use Rattle.exercise_rows.proofs.transactions_refusal.Reads as transactions-refusal

pub read-row-unique : (κs : Lfts 1) (a : _) (r s : Row) (e f : _) → read-row.Post κs a r e → read-row.Post κs a s f → r ≡ s
read-row-unique κs a r s e f p q = unique p q

pub read-transaction-unique : (κs : Lfts 1) (a : _) (r s : Transaction) (e f : _) → read-transaction.Post κs a r e → read-transaction.Post κs a s f → r ≡ s
read-transaction-unique κs a r s e f p q = unique p q

pub bytes-at-unique : (n : _) (fits : _) (κs : Lfts 2) (a : _) (r s : ℕ) (e f : _) → bytes-at.Post n fits κs a r e → bytes-at.Post n fits κs a s f → r ≡ s
bytes-at-unique n fits κs a r s e f p q = unique p.0 q.0

pub row-at-unique : (κs : Lfts 1) (a : _) (r s : Result Row Refusal) (e f : _) → row_at.Post κs a r e → row_at.Post κs a s f → r ≡ s
row-at-unique κs a r s e f p q = numbered-unique r s (unique p q)

pub rows-refusal-unique : (κs : Lfts 1) (a : _) (r s : Result ⊤ Refusal) (e f : _) → rows-refusal.Post κs a r e → rows-refusal.Post κs a s f → r ≡ s
rows-refusal-unique κs a r s e f p q = answer-unique r s (unique p q)

pub transaction-at-unique : (κs : Lfts 1) (a : _) (r s : Result Transaction Refusal) (e f : _) → transaction-at.Post κs a r e → transaction-at.Post κs a s f → r ≡ s
transaction-at-unique κs a r s e f p q = numbered-unique r s (unique p q)

pub transactions-refusal-unique : (κs : Lfts 1) (a : _) (r s : Result ⊤ Refusal) (e f : _) → transactions-refusal.Post κs a r e → transactions-refusal.Post κs a s f → r ≡ s
transactions-refusal-unique κs a r s e f p q = answer-unique r s (unique p q)

pub decode-row-unique : (κs : Lfts 1) (a : _) (r s : Result Row Refusal) (e f : _) → decode-row.Post κs a r e → decode-row.Post κs a s f → r ≡ s
decode-row-unique κs a r s e f p q = numbered-unique r s (unique p q)

pub decode-transaction-unique : (κs : Lfts 1) (a : _) (r s : Result Transaction Refusal) (e f : _) → decode-transaction.Post κs a r e → decode-transaction.Post κs a s f → r ≡ s
decode-transaction-unique κs a r s e f p q = numbered-unique r s (unique p q)

pub row-spare-unique : (κs : Lfts 1) (a : _) (r s : ℕ) (e f : _) → row-spare.Post κs a r e → row-spare.Post κs a s f → r ≡ s
row-spare-unique κs a r s e f p q = unique p q

pub transaction-spare-unique : (κs : Lfts 1) (a : _) (r s : ℕ) (e f : _) → transaction-spare.Post κs a r e → transaction-spare.Post κs a s f → r ≡ s
transaction-spare-unique κs a r s e f p q = unique p q
