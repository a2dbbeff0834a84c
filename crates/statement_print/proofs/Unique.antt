-- The contract of `put_statement` allows one end and one page: two that it allows at the same arguments are equal. Assumes nothing.
-- `F.Post` is the `ensures` of F, over lifetimes, arguments, end and what the page holds at exit.
use mathlib.Core.Path.{◌≡◌}
use Prim.Native.Nat.{ℕ}
use contract.Lifetimes.{Lfts}
use Rattle.ints.proofs.Unique.{unique}
use Rattle.statement_print.proofs.put_statement.Reads as put-statement

pub put-statement-unique : (κs : Lfts 2) (a : _) (r s : ℕ) (e f : _) → put-statement.Post κs a r e → put-statement.Post κs a s f → (r ≡ s) × (e.1.0.now ≡ f.1.0.now)
put-statement-unique κs a r s e f p q = (unique p.0 q.0, unique p.1 q.1)
