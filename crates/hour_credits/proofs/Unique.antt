-- Each public contract allows one result, and of `bill` one content of each of the two lists that are lent to be written: two that it allows at the same arguments are equal. Assumes nothing.
-- `F.Post` is the `ensures` of F, over lifetimes, arguments, result and what the lent lists hold at exit.
use mathlib.Core.Path.{◌≡◌, subst}
use Rattle.std.specs.Prelude.{Result, ⊤}
use Rattle.refusals.proofs.Numbers.{answer-unique}
use Rattle.refusals.specs.declared.Refusal.{Refusal}
use contract.Lifetimes.{Lfts}
use Rattle.ints.proofs.Unique.{unique}
use Rattle.hour_credits.proofs.bill.Reads as bill
use Rattle.hour_credits.proofs.round.Reads as round

pub round-unique : (κs : Lfts 1) (a : _) (r s : _) (e f : _) → round.Post κs a r e → round.Post κs a s f → e.0.now ≡ f.0.now
round-unique κs a r s e f p q = unique p.0 q.0

pub bill-unique : (κs : Lfts 4) (a : _) (r s : Result ⊤ Refusal) (e f : _) → bill.Post κs a r e → bill.Post κs a s f
    → (r ≡ s) × (e.1.1.0.now ≡ f.1.1.0.now) × (e.1.1.1.0.now ≡ f.1.1.1.0.now)
bill-unique κs a r s e f p q =
    let t : bill.Post κs a r f = subst (λ (n : Result ⊤ Refusal). bill.Post κs a n f) (answer-unique s r (unique q.0 p.0)) q in
    (answer-unique r s (unique p.0 q.0), unique p.1.0 t.1.0, unique p.1.1 t.1.1)
