-- What the order of refusals tells of the counts and bytes that one row, or one transaction, is decoded from. Assumes nothing.
use Rattle.std.proofs.Common.{◌≡◌, ℕ, List, eqb, length}
use Rattle.std.specs.Prelude.{ℤ, pos, nat_abs}
use borrow.Author.Tests.{eqb-true}
use Rattle.ints.specs.Number.{between}
use Rattle.ints.proofs.Refusals.{passed}
use Rattle.ints.proofs.Tests.{Counted, counted}
use Rattle.ints.proofs.Turns.{then-none}
use Rattle.exercise.specs.Decoding.{given_refusal}
use Rattle.exercise.specs.Inside.{item_size}
use Rattle.exercise.specs.declared.Item.{Item}
use Rattle.exercise_rows.specs.Inside.{refusal_at, alone_refusal}

pub record Given (participants locations : ℤ) (bytes size : ℕ) : Type 0 where
  pub from-participants : Counted 1 64 participants
  pub from-locations : Counted 1 64 locations
  pub whole : bytes ≡ size

pub given : (participants locations : ℤ) (bytes size : ℕ) → given_refusal participants locations bytes size ≡ 0 → Given participants locations bytes size
given participants locations bytes size e =
    let p1 = passed (between (pos 1) (pos 64) participants) 0 _ e in
    let p2 = passed (between (pos 1) (pos 64) locations) 0 _ p1.1 in
    let p3 = passed (eqb bytes size) 8 0 p2.1 in
    record { from-participants = counted 1 64 participants p1.0; from-locations = counted 1 64 locations p2.0; whole = eqb-true bytes size p3.0 }

-- one that isn't refused has its bytes
pub alone-whole : (item : Item) (participants locations : ℤ) (bytes : List ℕ) → alone_refusal item participants locations bytes ≡ 0 → length bytes ≡ item_size item
alone-whole item participants locations bytes e =
    (given participants locations (length bytes) (item_size item) (then-none _ (refusal_at item (nat_abs participants) (nat_abs locations) bytes 0) e).0).whole
