-- The contract of each call allows one answer and one content of each lent slice. Assumes nothing.
-- `F.Post` is the `ensures` of F, over lifetimes, arguments, answer and what the lent slices hold at exit.
use mathlib.Core.Path.{◌≡◌, subst}
use Prim.Native.Nat.{ℕ}
use contract.Lifetimes.{Lfts}
use Rattle.ints.proofs.Unique.{unique}
use Rattle.wunzelihle.proofs.wz_assign_load.Reads as wz-assign-load
use Rattle.wunzelihle.proofs.wz_counts.Reads as wz-counts
use Rattle.wunzelihle.proofs.wz_find_cause.Reads as wz-find-cause
use Rattle.wunzelihle.proofs.wz_find_list_cause.Reads as wz-find-list-cause
use Rattle.wunzelihle.proofs.wz_participants.Reads as wz-participants
use Rattle.wunzelihle.proofs.wz_read_file.Reads as wz-read-file
use Rattle.wunzelihle.proofs.wz_settle_hour.Reads as wz-settle-hour
use Rattle.wunzelihle.proofs.wz_split.Reads as wz-split
use Rattle.wunzelihle.proofs.wz_version.Reads as wz-version
use Rattle.wunzelihle.proofs.wz_write_file.Reads as wz-write-file

pub wz-split-unique : (κs : Lfts 2) (a : _) (r s : ℕ) (e f : _) → wz-split.Post κs a r e → wz-split.Post κs a s f → (r ≡ s) × (e.1.1.0.now ≡ f.1.1.0.now)
wz-split-unique κs a r s e f p q = (unique p.0 q.0, unique p.1 q.1)

pub wz-assign-load-unique : (κs : Lfts 7) (a : _) (r s : ℕ) (e f : _) → wz-assign-load.Post κs a r e → wz-assign-load.Post κs a s f → (r ≡ s) × (e.1.1.1.1.1.1.1.1.1.0.now ≡ f.1.1.1.1.1.1.1.1.1.0.now)
wz-assign-load-unique κs a r s e f p q = (unique p.0 q.0, unique p.1 q.1)

pub wz-settle-hour-unique : (κs : Lfts 5) (a : _) (r s : ℕ) (e f : _) → wz-settle-hour.Post κs a r e → wz-settle-hour.Post κs a s f
    → (r ≡ s) × (e.1.0.now ≡ f.1.0.now) × (e.1.1.0.now ≡ f.1.1.0.now) × (e.1.1.1.0.now ≡ f.1.1.1.0.now) × (e.1.1.1.1.0.now ≡ f.1.1.1.1.0.now)
wz-settle-hour-unique κs a r s e f p q =
    let t : wz-settle-hour.Post κs a r f = subst (λ (n : ℕ). wz-settle-hour.Post κs a n f) (unique q.0 p.0) q in
    (unique p.0 q.0, unique p.1.0 t.1.0, unique p.1.1.0 t.1.1.0, unique p.1.1.1.0 t.1.1.1.0, unique p.1.1.1.1 t.1.1.1.1)

pub wz-write-file-unique : (κs : Lfts 4) (a : _) (r s : ℕ) (e f : _) → wz-write-file.Post κs a r e → wz-write-file.Post κs a s f → (r ≡ s) × (e.1.1.1.1.1.1.1.1.0.now ≡ f.1.1.1.1.1.1.1.1.0.now)
wz-write-file-unique κs a r s e f p q = (unique p.0 q.0, unique p.1 q.1)

pub wz-read-file-unique : (κs : Lfts 4) (a : _) (r s : ℕ) (e f : _) → wz-read-file.Post κs a r e → wz-read-file.Post κs a s f
    → (r ≡ s) × (e.1.0.now ≡ f.1.0.now) × (e.1.1.0.now ≡ f.1.1.0.now) × (e.1.1.1.0.now ≡ f.1.1.1.0.now)
wz-read-file-unique κs a r s e f p q =
    let t : wz-read-file.Post κs a r f = subst (λ (n : ℕ). wz-read-file.Post κs a n f) (unique q.0 p.0) q in
    (unique p.0 q.0, unique p.1.0 t.1.0, unique p.1.1.0 t.1.1.0, unique p.1.1.1 t.1.1.1)

pub wz-version-unique : (a : _) (r s : ℕ) (e f : _) → wz-version.Post tt a r e → wz-version.Post tt a s f → r ≡ s
wz-version-unique a r s e f p q = unique p q

pub wz-participants-unique : (κs : Lfts 1) (a : _) (r s : ℕ) (e f : _) → wz-participants.Post κs a r e → wz-participants.Post κs a s f → r ≡ s
wz-participants-unique κs a r s e f p q = unique p q

pub wz-counts-unique : (κs : Lfts 2) (a : _) (r s : ℕ) (e f : _) → wz-counts.Post κs a r e → wz-counts.Post κs a s f → (r ≡ s) × (e.1.0.now ≡ f.1.0.now)
wz-counts-unique κs a r s e f p q = (unique p.0 q.0, unique p.1 q.1)

pub wz-find-cause-unique : (κs : Lfts 2) (a : _) (r s : ℕ) (e f : _) → wz-find-cause.Post κs a r e → wz-find-cause.Post κs a s f → (r ≡ s) × (e.1.0.now ≡ f.1.0.now)
wz-find-cause-unique κs a r s e f p q = (unique p.0 q.0, unique p.1 q.1)

pub wz-find-list-cause-unique : (κs : Lfts 4) (a : _) (r s : ℕ) (e f : _) → wz-find-list-cause.Post κs a r e → wz-find-list-cause.Post κs a s f → (r ≡ s) × (e.1.1.1.1.1.1.1.1.0.now ≡ f.1.1.1.1.1.1.1.1.0.now)
wz-find-list-cause-unique κs a r s e f p q = (unique p.0 q.0, unique p.1 q.1)
