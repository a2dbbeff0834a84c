-- Each public contract allows one result: two that it allows at the same arguments are equal. Assumes nothing.
-- `F.Post` is the `ensures` of F, over lifetimes, arguments, result and what the lent lists hold at exit.
use Rattle.std.proofs.Common.{◌≡◌, ℕ}
use Rattle.std.specs.Prelude.{Result, ⊤}
use contract.Lifetimes.{Lfts}
use Rattle.ints.proofs.Unique.{unique}
use Rattle.refusals.proofs.Numbers.{answer-unique}
use Rattle.refusals.specs.declared.Refusal.{Refusal}
use Rattle.exercise.specs.declared.Header.{Header}
use Rattle.exercise.specs.declared.Places.{Places}
use Rattle.exercise_file.proofs.check.Reads as check
use Rattle.exercise_file.proofs.content_refusal.Reads as content-refusal
use Rattle.exercise_file.proofs.participants.Reads as participants
use Rattle.exercise_file.proofs.places_of.Reads as places_of
use Rattle.exercise_file.proofs.read_header.Reads as read-header
use Rattle.exercise_file.proofs.rows_stretch.Reads as rows-stretch
use Rattle.exercise_file.proofs.frame_refusal.Reads as frame-refusal

pub read-header-unique : (κs : Lfts 1) (a : _) (r s : Header) (e f : _) → read-header.Post κs a r e → read-header.Post κs a s f → r ≡ s
read-header-unique κs a r s e f p q = unique p q

pub places-of-unique : (a : _) (r s : Places) (e f : _) → places_of.Post tt a r e → places_of.Post tt a s f → r ≡ s
places-of-unique a r s e f p q = unique p q

pub frame-refusal-unique : (κs : Lfts 1) (a : _) (r s : Result ⊤ Refusal) (e f : _) → frame-refusal.Post κs a r e → frame-refusal.Post κs a s f → r ≡ s
frame-refusal-unique κs a r s e f p q = answer-unique r s (unique p q)

pub content-refusal-unique : (κs : Lfts 1) (a : _) (r s : Result ⊤ Refusal) (e f : _) → content-refusal.Post κs a r e → content-refusal.Post κs a s f → r ≡ s
content-refusal-unique κs a r s e f p q = answer-unique r s (unique p q)

pub check-unique : (κs : Lfts 1) (a : _) (r s : Result ⊤ Refusal) (e f : _) → check.Post κs a r e → check.Post κs a s f → r ≡ s
check-unique κs a r s e f p q = answer-unique r s (unique p q)

pub rows-stretch-unique : (κs : Lfts 1) (a : _) (r s : _) (e f : _) → rows-stretch.Post κs a r e → rows-stretch.Post κs a s f → (r.now ≡ s.now) × (r.ref_ptr.0 ≡ s.ref_ptr.0) × (r.ref_ptr.1 ≡ s.ref_ptr.1)
rows-stretch-unique κs a r s e f p q = (unique p.0 q.0, unique p.1.0 q.1.0, unique p.1.1 q.1.1)

pub participants-unique : (κs : Lfts 1) (a : _) (r s : ℕ) (e f : _) → participants.Post κs a r e → participants.Post κs a s f → r ≡ s
participants-unique κs a r s e f p q = unique p q
