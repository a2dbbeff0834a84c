-- Each public contract allows one result and one content of each lent list: two that it allows at the same arguments are equal. Assumes nothing.
-- `F.Post` is the `ensures` of F, over lifetimes, arguments, result and what the lent lists hold at exit.
use mathlib.Core.Path.{◌≡◌, subst}
use Rattle.std.specs.Prelude.{Result, ⊤}
use contract.Lifetimes.{Lfts}
use Rattle.ints.proofs.Unique.{unique}
use Rattle.refusals.proofs.Numbers.{answer-unique}
use Rattle.refusals.specs.declared.Refusal.{Refusal}
use Rattle.load_bytes.proofs.assign_listed.Reads as assign-listed

pub assign-listed-unique : (κs : Lfts 2) (a : _) (r s : Result ⊤ Refusal) (e f : _) → assign-listed.Post κs a r e → assign-listed.Post κs a s f → (r ≡ s) × (e.1.0.now ≡ f.1.0.now)
assign-listed-unique κs a r s e f p q =
    let t : assign-listed.Post κs a r f = subst (λ (n : Result ⊤ Refusal). assign-listed.Post κs a n f) (answer-unique s r (unique q.0 p.0)) q in
    (answer-unique r s (unique p.0 q.0), unique p.1 t.1)
