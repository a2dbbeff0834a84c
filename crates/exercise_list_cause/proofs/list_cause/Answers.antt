use mathlib.Core.Path.{ap, sym, ◌∙◌}
use native.Mathlib.Omega.{arith}
use lib.IntN.{ℤ}
use Prim.Native.Nat.{ℕ, ◌≤◌}
use Rattle.std.proofs.Common.{SFits}
use mir.Syntax.{w64}
use Rattle.ints.proofs.Sizes.{fits64}
use Rattle.ints.proofs.Tests.{Counted, count-cast, count-within, count-is}
use Rattle.hour.specs.Cause.{Cause}
use Rattle.hour.proofs.Told.{passed}
use Rattle.exercise.specs.Cause.{listed_cause, given_cause}
use Rattle.exercise.proofs.Causes.{counts-number}
use Rattle.exercise.proofs.Lists.{content-same, counts-right}
use Rattle.exercise_list_cause.proofs.list_cause.Goals as goal
use Rattle.exercise_list_cause.proofs.list_cause.Goals.{In_ok-counts_cause}

-- the counts, which have passed, and that a signed number holds each
record Right (p l r t e : ℤ) : Type 0 where
  participants : Counted 1 64 p
  locations : Counted 1 64 l
  rows : Counted 0 2048 r
  transactions : Counted 0 256 t
  edition : Counted 0 1 e

right : (c : In_ok-counts_cause) → let a = c.args.counts in Right a.participants a.locations a.rows a.transactions a.edition
right c = let a = c.args.counts in
    let k = counts-right _ _ _ _ _ (sym (counts-number a.participants a.locations a.rows a.transactions a.edition) ∙ ap (λ (x : Cause). x.refusal) (sym c.in_ok-counts_cause.ensures)) in
    record { participants = k.0; locations = k.1; rows = k.2; transactions = k.3; edition = k.4 }

held : {low high : ℕ} {x : ℤ} → Counted low high x → high ≤ 2048 → SFits w64 x
held {x = x} k h = fits64 x (omega (arith, k.few))

pub overflow_cast-header : goal.overflow_cast-header
overflow_cast-header c = let k = (right (goal.at.overflow_cast-header c).In_ok-counts_cause).participants in count-cast (held k (omega arith)) k (omega arith)

pub overflow_cast-header-2 : goal.overflow_cast-header-2
overflow_cast-header-2 c = let k = (right (goal.at.overflow_cast-header-2 c).In_ok-counts_cause).locations in count-cast (held k (omega arith)) k (omega arith)

pub overflow_cast-header-3 : goal.overflow_cast-header-3
overflow_cast-header-3 c = let k = (right (goal.at.overflow_cast-header-3 c).In_ok-counts_cause).rows in count-cast (held k (omega arith)) k (omega arith)

pub overflow_cast-header-4 : goal.overflow_cast-header-4
overflow_cast-header-4 c = let k = (right (goal.at.overflow_cast-header-4 c).In_ok-counts_cause).transactions in count-cast (held k (omega arith)) k (omega arith)

pub overflow_cast-header-5 : goal.overflow_cast-header-5
overflow_cast-header-5 c = let k = (right (goal.at.overflow_cast-header-5 c).In_ok-counts_cause).edition in count-cast (held k (omega arith)) k (omega arith)

pub counted_cause-requires : goal.counted_cause-requires
counted_cause-requires c =
    let k = right (goal.at.counted_cause-requires c).In_ok-counts_cause in
    let p = count-within (held k.participants (omega arith)) k.participants in
    let l = count-within (held k.locations (omega arith)) k.locations in
    record {
      some-participants = p.0;
      few-participants = p.1;
      some-locations = l.0;
      few-locations = l.1;
      few-rows = (count-within (held k.rows (omega arith)) k.rows).1;
      few-transactions = (count-within (held k.transactions (omega arith)) k.transactions).1;
    }

pub returns : goal.returns
unfolding given_cause
returns c =
    let before = (goal.at.returns c).In_ok-counts_cause in
    let k = right before in
    let lists = c.args.lists in
    let same = content-same {ps = lists.prices.now} {rs = lists.rows.now} {ts = lists.transactions.now}
    (count-is (held k.participants (omega arith)) k.participants)
    (count-is (held k.locations (omega arith)) k.locations)
    (count-is (held k.rows (omega arith)) k.rows)
    (count-is (held k.transactions (omega arith)) k.transactions)
    (count-is (held k.edition (omega arith)) k.edition) in
    passed _ _ _ before.in_ok-counts_cause.ensures (c.counted_cause.ensures ∙ ap listed_cause same)
