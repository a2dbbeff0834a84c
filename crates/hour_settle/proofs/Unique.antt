-- The contract of `settle` allows one answer and one content of each of the four lists that are lent: two that it allows at the same arguments are equal.
-- Assumes nothing.
use mathlib.Core.Path.{◌≡◌, subst}
use Rattle.std.specs.Prelude.{Result, ⊤}
use Rattle.refusals.proofs.Numbers.{answer-unique}
use Rattle.refusals.specs.declared.Refusal.{Refusal}
use contract.Lifetimes.{Lfts}
use Rattle.ints.proofs.Unique.{unique}
use Rattle.hour_settle.proofs.settle.Reads as settle

-- `settle.Post` is the contract's `ensures`, over lifetimes, arguments, answer and what the lent lists hold at exit
pub settle-unique : (κs : Lfts 5) (a : _) (r s : Result ⊤ Refusal) (e f : _) → settle.Post κs a r e → settle.Post κs a s f
    → (r ≡ s) × (e.1.0.now ≡ f.1.0.now) × (e.1.1.0.now ≡ f.1.1.0.now) × (e.1.1.1.0.now ≡ f.1.1.1.0.now) × (e.1.1.1.1.0.now ≡ f.1.1.1.1.0.now)
settle-unique κs a r s e f p q =
    let t : settle.Post κs a r f = subst (λ (n : Result ⊤ Refusal). settle.Post κs a n f) (answer-unique s r (unique q.0 p.0)) q in
    (answer-unique r s (unique p.0 q.0), unique p.1.0 t.1.0, unique p.1.1.0 t.1.1.0, unique p.1.1.1.0 t.1.1.1.0, unique p.1.1.1.1 t.1.1.1.1)
