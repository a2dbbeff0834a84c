-- Each public contract allows one result: two that it allows at the same arguments are equal. Assumes nothing.
-- `F.Post` is the `ensures` of F, over lifetimes, arguments, result and what the lent lists hold at exit.
use Rattle.std.proofs.Common.{◌≡◌}
use Rattle.std.specs.Prelude.{Result, ⊤}
use contract.Lifetimes.{Lfts}
use Rattle.ints.proofs.Unique.{unique}
use Rattle.refusals.proofs.Numbers.{answer-unique}
use Rattle.refusals.specs.declared.Refusal.{Refusal}
use Rattle.units.specs.declared.Mills.{Mills}
use Rattle.exercise_prices.proofs.price_at.Reads as price-at
use Rattle.exercise_prices.proofs.prices_refusal.Reads as prices-refusal
use Rattle.exercise_prices.proofs.read_list.Reads as read-list

pub price-at-unique : (κs : Lfts 1) (a : _) (r s : Mills) (e f : _) → price-at.Post κs a r e → price-at.Post κs a s f → r.0 ≡ s.0
price-at-unique κs a r s e f p q = unique p q

pub prices-refusal-unique : (κs : Lfts 1) (a : _) (r s : Result ⊤ Refusal) (e f : _) → prices-refusal.Post κs a r e → prices-refusal.Post κs a s f → r ≡ s
prices-refusal-unique κs a r s e f p q = answer-unique r s (unique p q)

pub read-list-unique : (κs : Lfts 2) (a : _) (r s : Result ⊤ Refusal) (e f : _) → read-list.Post κs a r e → read-list.Post κs a s f → (r ≡ s) × (e.1.1.0.now ≡ f.1.1.0.now)
read-list-unique κs a r s e f p q = (answer-unique r s (unique p.0 q.0), unique p.1 q.1)
