use mathlib.Core.Path.{◌≡◌, sym, ap₂, ◌∙◌}
use mathlib.Core.List.{List}
use Prim.Native.Nat.{ℕ, ◌/◌}
use native.Mathlib.Omega.{arith}
use lib.IntN.{ℤ, pos}
use lib.ListN.{length, take, replicate}
use lib.Seq.{length-take-le}
use mir.Facts.{to_z-of_z}
use borrow.Author.Tests.{eq-eqb, ne_eqb}
use Rattle.ints.specs.Refusal.{lent}
use Rattle.ints.proofs.Refusals.{refused}
use Rattle.numbers.specs.Bytes.{numbers, encoded}
use Rattle.refusals.specs.Number.{answer as told}
use Rattle.numbers.proofs.Laws.{length-numbers}
use Rattle.split.specs.Split.{split_refusal, parts}
use Rattle.split.proofs.Accepted.{too_many, unequal}
use Rattle.wunzelihle.specs.Split.{split_bytes_refusal}
use Rattle.wunzelihle.proofs.wz_split.Goals as goal
use Rattle.wunzelihle.proofs.wz_split.Goals.{After-split_listed, Else-parts-n, Else-parts-ne0, Start}

-- the answer and the result by the definition
abbrev answer : Start → ℕ
answer s = split_bytes_refusal s.args.amount s.args.shares.now (length s.args.parts.now)

abbrev result : Start → List ℕ
result s = encoded (parts s.args.amount (numbers s.args.shares.now))

-- both slices are whole numbers
whole : (c : Else-parts-ne0) → answer (goal.at.Else-parts-ne0 c).Start ≡ split_refusal c.args.amount (numbers c.args.shares.now) (length c.args.parts.now / 8)
unfolding split_bytes_refusal
whole c = simp (eq-eqb _ _ c.if-shares-ne0.false, eq-eqb _ _ c.if-parts-ne0.false)

-- the counts have passed
abbrev start : Else-parts-n → Start
start c = (goal.at.Else-parts-n c).Start

-- the list that is lent has as many numbers as there are shares
room : (c : Else-parts-n) → length (take (length (start c).args.shares.now / 8) (replicate 64 (pos 0))) ≡ length (start c).args.shares.now / 8
room c = length-take-le (length (start c).args.shares.now / 8) (replicate 64 (pos 0)) c.if-n-gt64.false

split-answer : (c : After-split_listed) → let s = start (goal.at.After-split_listed c).Else-parts-n in told c.split_listed.result ≡ answer s
split-answer c = let s = start (goal.at.After-split_listed c).Else-parts-n in
    c.split_listed.ensures.value
    ∙ (ap₂ (λ (z : ℤ) (n : ℕ). split_refusal z (numbers s.args.shares.now) n) (to_z-of_z s.ranges.amount) (room (goal.at.After-split_listed c).Else-parts-n ∙ sym c.if-parts-n.false) ∙ sym (whole (goal.at.After-split_listed c).Else-parts-ne0))

pub returns-then-shares-ne0 : goal.returns-then-shares-ne0
unfolding split_bytes_refusal
returns-then-shares-ne0 c = let made = refused (answer (goal.at.returns-then-shares-ne0 c).Start) (result (goal.at.returns-then-shares-ne0 c).Start) c.args.parts.now 0 (simp (ne_eqb _ _ c.if-shares-ne0.true)) in record { value = made.0; parts_after = made.1 }

pub returns-then-parts-ne0 : goal.returns-then-parts-ne0
unfolding split_bytes_refusal
returns-then-parts-ne0 c = let made = refused (answer (goal.at.returns-then-parts-ne0 c).Start) (result (goal.at.returns-then-parts-ne0 c).Start) c.args.parts.now 0 (simp (eq-eqb _ _ c.if-shares-ne0.false, ne_eqb _ _ c.if-parts-ne0.true)) in record { value = made.0; parts_after = made.1 }

pub returns-then-n-gt64 : goal.returns-then-n-gt64
unfolding split_bytes_refusal
returns-then-n-gt64 c = let made = refused (answer (goal.at.returns-then-n-gt64 c).Start) (result (goal.at.returns-then-n-gt64 c).Start) c.args.parts.now 0 (sym (whole (goal.at.returns-then-n-gt64 c).Else-parts-ne0 ∙ too_many c.args.amount (numbers c.args.shares.now) (length c.args.parts.now / 8) (omega (arith, length-numbers c.args.shares.now, c.if-n-gt64.true)))) in record { value = made.0; parts_after = made.1 }

pub returns-then-parts-n : goal.returns-then-parts-n
unfolding split_bytes_refusal
returns-then-parts-n c = let made = refused (answer (goal.at.returns-then-parts-n c).Start) (result (goal.at.returns-then-parts-n c).Start) c.args.parts.now 0 (sym (whole (goal.at.returns-then-parts-n c).Else-parts-ne0 ∙ unequal c.args.amount (numbers c.args.shares.now) (length c.args.parts.now / 8) (λ e. c.if-parts-n.true (e ∙ length-numbers c.args.shares.now)))) in record { value = made.0; parts_after = made.1 }

pub returns : goal.returns
returns c = let s = start (goal.at.returns c).Else-parts-n in record {
  value = c.answer.ensures ∙ split-answer (goal.at.returns c).After-split_listed;
  parts_after = c.split_listed.ensures.parts_after ∙ ap₂ (λ (r : ℕ) (z : ℤ). lent r (encoded (parts z (numbers s.args.shares.now))) s.args.parts.now) (split-answer (goal.at.returns c).After-split_listed) (to_z-of_z s.ranges.amount);
}
