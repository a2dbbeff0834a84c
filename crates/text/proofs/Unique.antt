-- Each public contract allows one result: two that it allows at the same arguments are equal. Assumes nothing.
-- `F.Post` is the `ensures` of F, over lifetimes, arguments, result and what the lent text holds at exit.
use mathlib.Core.Path.{◌≡◌}
use mathlib.Core.List.{List}
use Prim.Native.Nat.{ℕ}
use contract.Lifetimes.{Lfts}
use Rattle.ints.proofs.Unique.{unique}
use Rattle.text.specs.Inside.{Written}
use Rattle.text.proofs.put_byte.Reads as put_byte
use Rattle.text.proofs.put_bytes.Reads as put-bytes
use Rattle.text.proofs.put_decimal.Reads as put-decimal

pub written-unique : {before bytes x y : List ℕ} {at r s : ℕ} → Written before at bytes x r → Written before at bytes y s → (r ≡ s) × (x ≡ y)
written-unique p q = (unique p.ends q.ends, unique p.text q.text)

pub put-byte-unique : (κs : Lfts 1) (a : _) (r s : ℕ) (e f : _) → put_byte.Post κs a r e → put_byte.Post κs a s f → (r ≡ s) × (e.0.now ≡ f.0.now)
put-byte-unique κs a r s e f p q = written-unique p q

pub put-bytes-unique : (κs : Lfts 2) (a : _) (r s : ℕ) (e f : _) → put-bytes.Post κs a r e → put-bytes.Post κs a s f → (r ≡ s) × (e.0.now ≡ f.0.now)
put-bytes-unique κs a r s e f p q = written-unique p q

pub put-decimal-unique : (κs : Lfts 1) (a : _) (r s : ℕ) (e f : _) → put-decimal.Post κs a r e → put-decimal.Post κs a s f → (r ≡ s) × (e.0.now ≡ f.0.now)
put-decimal-unique κs a r s e f p q = written-unique p.0 q.0
