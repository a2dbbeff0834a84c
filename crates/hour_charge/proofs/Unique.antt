-- The contract of `charge_hour` allows one answer and one content of each of the three lists that are lent: two that it allows at the same arguments are equal.
-- Assumes nothing.
use Rattle.std.proofs.Common.{◌≡◌, sym, subst}
use Rattle.std.specs.Prelude.{Result, ⊤}
use contract.Lifetimes.{Lfts}
use Rattle.ints.proofs.Unique.{unique}
use Rattle.refusals.proofs.Numbers.{answer-unique}
use Rattle.refusals.specs.declared.Refusal.{Refusal}
use Rattle.hour_charge.proofs.charge_hour.Reads as charge-hour

-- `charge-hour.Post` is the contract's `ensures`, over lifetimes, arguments, answer and what the lent lists hold at exit
pub charge-hour-unique : (κs : Lfts 4) (a : _) (r s : Result ⊤ Refusal) (e f : _) → charge-hour.Post κs a r e → charge-hour.Post κs a s f
    → (r ≡ s) × (e.1.0.now ≡ f.1.0.now) × (e.1.1.0.now ≡ f.1.1.0.now) × (e.1.1.1.0.now ≡ f.1.1.1.0.now)
charge-hour-unique κs a r s e f p q =
    let same : r ≡ s = answer-unique r s (unique p.0 q.0) in
    let t : charge-hour.Post κs a r f = subst (λ (n : Result ⊤ Refusal). charge-hour.Post κs a n f) (sym same) q in
    (same, unique p.1.0 t.1.0, unique p.1.1.0 t.1.1.0, unique p.1.1.1 t.1.1.1)
