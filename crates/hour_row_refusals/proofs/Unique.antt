-- Each public contract allows one result: two that it allows at the same arguments are equal. Assumes nothing.
-- `F.Post` is the `ensures` of F, over lifetimes, arguments, result and arguments at exit.
use Rattle.std.proofs.Common.{◌≡◌}
use Rattle.std.specs.Prelude.{Result, ⊤}
use Rattle.ints.proofs.Unique.{unique}
use Rattle.refusals.proofs.Numbers.{answer-unique}
use Rattle.refusals.specs.declared.Refusal.{Refusal}
use Rattle.hour_row_refusals.proofs.packed_row_refusal.Reads as packed-row-refusal
use Rattle.hour_row_refusals.proofs.price_refusal.Reads as price-refusal
use Rattle.hour_row_refusals.proofs.row_numbers_refusal.Reads as row-numbers-refusal
use Rattle.hour_row_refusals.proofs.transaction_numbers_refusal.Reads as transaction-numbers-refusal
use Rattle.hour_row_refusals.proofs.packed_transaction_refusal.Reads as packed-transaction-refusal

pub price-refusal-unique : (a : _) (r s : Result ⊤ Refusal) (e f : _) → price-refusal.Post tt a r e → price-refusal.Post tt a s f → r ≡ s
price-refusal-unique a r s e f p q = answer-unique r s (unique p q)

pub row-numbers-refusal-unique : (a : _) (r s : Result ⊤ Refusal) (e f : _) → row-numbers-refusal.Post tt a r e → row-numbers-refusal.Post tt a s f → r ≡ s
row-numbers-refusal-unique a r s e f p q = answer-unique r s (unique p q)

pub transaction-numbers-refusal-unique : (a : _) (r s : Result ⊤ Refusal) (e f : _) → transaction-numbers-refusal.Post tt a r e → transaction-numbers-refusal.Post tt a s f → r ≡ s
transaction-numbers-refusal-unique a r s e f p q = answer-unique r s (unique p q)

pub packed-row-refusal-unique : (a : _) (r s : Result ⊤ Refusal) (e f : _) → packed-row-refusal.Post tt a r e → packed-row-refusal.Post tt a s f → r ≡ s
packed-row-refusal-unique a r s e f p q = answer-unique r s (unique p q)

pub packed-transaction-refusal-unique : (a : _) (r s : Result ⊤ Refusal) (e f : _) → packed-transaction-refusal.Post tt a r e → packed-transaction-refusal.Post tt a s f → r ≡ s
packed-transaction-refusal-unique a r s e f p q = answer-unique r s (unique p q)
