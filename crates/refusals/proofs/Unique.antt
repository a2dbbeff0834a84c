-- Each public contract allows one result: two that it allows at the same arguments are equal. Assumes nothing.
-- `answer.Post` is the `ensures`, over the value's type and what is known of it, lifetimes, arguments, result and arguments at exit.
use Rattle.std.proofs.Common.{◌≡◌, ℕ}
use Rattle.ints.proofs.Unique.{unique}
use Rattle.refusals.proofs.answer.Reads as answer

pub answer-unique : (T : _) (b c d k : _) (κs : _) (a : _) (r s : ℕ) (e f : _) → answer.Post T b c d k κs a r e → answer.Post T b c d k κs a s f → r ≡ s
answer-unique T b c d k κs a r s e f p q = unique p q
