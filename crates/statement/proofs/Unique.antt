-- Each contract allows one end and one page: two that it allows at the same arguments are equal. Assumes nothing.
-- `F.Post` is the `ensures` of F, over lifetimes, arguments, end and what the page holds at exit.
use mathlib.Core.Path.{◌≡◌}
use Prim.Native.Nat.{ℕ}
use contract.Lifetimes.{Lfts}
use Rattle.text.proofs.Unique.{written-unique}
use Rattle.statement.proofs.put_refused.Reads as Put-refused
use Rattle.statement.proofs.put_settled.Reads as put-settled

pub put-settled-unique : (κs : Lfts 2) (a : _) (r s : ℕ) (e f : _) → put-settled.Post κs a r e → put-settled.Post κs a s f → (r ≡ s) × (e.0.now ≡ f.0.now)
put-settled-unique κs a r s e f p q = written-unique p.0 q.0

pub put-refused-unique : (κs : Lfts 1) (a : _) (r s : ℕ) (e f : _) → Put-refused.Post κs a r e → Put-refused.Post κs a s f → (r ≡ s) × (e.0.now ≡ f.0.now)
put-refused-unique κs a r s e f p q = written-unique p.0 q.0
