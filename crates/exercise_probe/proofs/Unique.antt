-- The contract of each function allows one answer and one content of each lent slice. Assumes nothing.
-- `F.Post` is the `ensures` of F, over lifetimes, arguments, answer and what the lent slices hold at exit.
use mathlib.Core.Path.{◌≡◌}
use Prim.Native.Nat.{ℕ}
use contract.Lifetimes.{Lfts}
use Rattle.ints.proofs.Unique.{unique}
use Rattle.exercise_probe.proofs.probe_check.Reads as probe-check
use Rattle.exercise_probe.proofs.probe_row.Reads as probe-row
use Rattle.exercise_probe.proofs.probe_rows.Reads as probe-rows

pub probe-row-unique : (κs : Lfts 2) (a : _) (r s : ℕ) (e f : _) → probe-row.Post κs a r e → probe-row.Post κs a s f → (r ≡ s) × (e.1.1.1.0.now ≡ f.1.1.1.0.now)
probe-row-unique κs a r s e f p q = (unique p.0 q.0, unique p.1 q.1)

pub probe-check-unique : (κs : Lfts 1) (a : _) (r s : ℕ) (e f : _) → probe-check.Post κs a r e → probe-check.Post κs a s f → r ≡ s
probe-check-unique κs a r s e f p q = unique p q

pub probe-rows-unique : (κs : Lfts 2) (a : _) (r s : ℕ) (e f : _) → probe-rows.Post κs a r e → probe-rows.Post κs a s f → (r ≡ s) × (e.1.0.now ≡ f.1.0.now)
probe-rows-unique κs a r s e f p q = (unique p.0 q.0, unique p.1 q.1)
