-- Each public contract allows one result: two that it allows at the same arguments are equal. Assumes nothing.
-- `F.Post` is the `ensures` of F, over lifetimes, arguments, result and what the lent lists hold at exit.
use mathlib.Core.Path.{◌≡◌, subst}
use Rattle.std.specs.Prelude.{Result, ⊤}
use Rattle.refusals.proofs.Numbers.{answer-unique}
use Rattle.refusals.specs.declared.Refusal.{Refusal}
use contract.Lifetimes.{Lfts}
use Rattle.ints.proofs.Unique.{unique}
use Rattle.exercise_read.proofs.put_row.Reads as put-row
use Rattle.exercise_read.proofs.read_counts.Reads as read-counts
use Rattle.exercise_read.proofs.read_file.Reads as read-file

pub put-row-unique : (κs : Lfts 1) (a : _) (r s : _) (e f : _) → put-row.Post κs a r e → put-row.Post κs a s f → e.1.0.now ≡ f.1.0.now
put-row-unique κs a r s e f p q = unique p q

pub read-file-unique : (κs : Lfts 4) (a : _) (r s : Result ⊤ Refusal) (e f : _) → read-file.Post κs a r e → read-file.Post κs a s f
    → (r ≡ s) × (e.1.0.now ≡ f.1.0.now) × (e.1.1.0.now ≡ f.1.1.0.now) × (e.1.1.1.0.now ≡ f.1.1.1.0.now)
read-file-unique κs a r s e f p q =
    let t : read-file.Post κs a r f = subst (λ (n : Result ⊤ Refusal). read-file.Post κs a n f) (answer-unique s r (unique q.0 p.0)) q in
    (answer-unique r s (unique p.0 q.0), unique p.1.0 t.1.0, unique p.1.1.0 t.1.1.0, unique p.1.1.1 t.1.1.1)

pub read-counts-unique : (κs : Lfts 2) (a : _) (r s : Result ⊤ Refusal) (e f : _) → read-counts.Post κs a r e → read-counts.Post κs a s f → (r ≡ s) × (e.1.0.now ≡ f.1.0.now)
read-counts-unique κs a r s e f p q = (answer-unique r s (unique p.0 q.0), unique p.1 q.1)
