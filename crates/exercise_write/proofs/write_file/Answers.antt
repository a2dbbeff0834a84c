use mathlib.Core.Path.{◌≡◌, sym, ap, ◌∙◌}
use Prim.Native.Nat.{ℕ, ◌<◌, ◌^◌}
use native.Mathlib.Omega.{arith}
use lib.IntN.{ℤ}
use lib.ListN.{length}
use mir.Syntax.{w64}
use mir.Val.{SFits}
use Rattle.std.proofs.lemmas.Result.{err_from_is_err_and}
use Rattle.ints.proofs.Sizes.{w-fits'}
use Rattle.ints.proofs.Turns.{then-ends}
use Rattle.ints.proofs.Tests.{Counted, count-cast, count-within, count-is}
use Rattle.ints.proofs.Refusals.{kept}
use Rattle.refusals.specs.Number.{answer}
use Rattle.refusals.proofs.Numbers.{number-not-zero}
use Rattle.exercise.proofs.Lists.{content-same, counts-right}
use Rattle.exercise.specs.Lists.{Content, handed_over, counts_refusal, write_refusal, write_outcome}
use Rattle.exercise_write.proofs.write_file.Goals as goal
use Rattle.exercise_write.proofs.write_file.Goals.{After-counts_refusal, Start}

-- the counts end the order
early : (c : Content) (room r : ℕ) → (r ≡ 0 → ⊥) → r ≡ counts_refusal c.participants c.locations c.rows c.transactions c.edition → r ≡ write_refusal c room
unfolding write_refusal
early c room r some e = then-ends _ _ r some e

-- the counts, where they pass
record Passed (c : After-counts_refusal) : Type 0 where
  participants : Counted 1 64 c.args.counts.participants
  locations : Counted 1 64 c.args.counts.locations
  rows : Counted 0 2048 c.args.counts.rows
  transactions : Counted 0 256 c.args.counts.transactions
  edition : Counted 0 1 c.args.counts.edition

passed : (c : After-counts_refusal) → answer c.counts_refusal.result ≡ 0 → Passed c
passed c none = let k = counts-right _ _ _ _ _ (sym c.counts_refusal.ensures ∙ none) in record { participants = k.0; locations = k.1; rows = k.2; transactions = k.3; edition = k.4 }

fits : {low high : ℕ} {x : ℤ} → Counted low high x → high < 2 ^ 63 → SFits w64 x
fits k few = w-fits' (record { within = k.few }) few

pub returns-in_err-counts_refusal : goal.returns-in_err-counts_refusal
returns-in_err-counts_refusal c = let a = c.args in
    let p = err_from_is_err_and c.from_residual.result c.from_residual.ensures.1 in
    let given = handed_over a.counts a.lists in
    let made = kept (write_refusal given (length a.file.now)) _ a.file.now _ (number-not-zero _) (early given (length a.file.now) _ (number-not-zero _) c.in_err-counts_refusal.ensures) in record { value = rw (p.1, p.2) made.0; file_after = made.1 }

pub overflow_cast-header : goal.overflow_cast-header
overflow_cast-header c = let k = passed (goal.at.overflow_cast-header c).After-counts_refusal (ap answer c.in_ok-counts_refusal.was) in count-cast (fits k.participants (omega arith)) k.participants (omega arith)

pub overflow_cast-header-2 : goal.overflow_cast-header-2
overflow_cast-header-2 c = let k = passed (goal.at.overflow_cast-header-2 c).After-counts_refusal (ap answer c.in_ok-counts_refusal.was) in count-cast (fits k.locations (omega arith)) k.locations (omega arith)

pub overflow_cast-header-3 : goal.overflow_cast-header-3
overflow_cast-header-3 c = let k = passed (goal.at.overflow_cast-header-3 c).After-counts_refusal (ap answer c.in_ok-counts_refusal.was) in count-cast (fits k.rows (omega arith)) k.rows (omega arith)

pub overflow_cast-header-4 : goal.overflow_cast-header-4
overflow_cast-header-4 c = let k = passed (goal.at.overflow_cast-header-4 c).After-counts_refusal (ap answer c.in_ok-counts_refusal.was) in count-cast (fits k.transactions (omega arith)) k.transactions (omega arith)

pub overflow_cast-header-5 : goal.overflow_cast-header-5
overflow_cast-header-5 c = let k = passed (goal.at.overflow_cast-header-5 c).After-counts_refusal (ap answer c.in_ok-counts_refusal.was) in count-cast (fits k.edition (omega arith)) k.edition (omega arith)

pub write_counted-requires : goal.write_counted-requires
write_counted-requires c = let k = passed (goal.at.write_counted-requires c).After-counts_refusal (ap answer c.in_ok-counts_refusal.was) in
    let p = count-within (fits k.participants (omega arith)) k.participants in
    let l = count-within (fits k.locations (omega arith)) k.locations in
    record {
      some-participants = p.0;
      few-participants = p.1;
      some-locations = l.0;
      few-locations = l.1;
      few-rows = (count-within (fits k.rows (omega arith)) k.rows).1;
      few-transactions = (count-within (fits k.transactions (omega arith)) k.transactions).1;
      known-edition = (count-within (fits k.edition (omega arith)) k.edition).1;
    }

pub returns : goal.returns
returns c = let w = c.write_counted in
    let a = c.args in
    let k = passed (goal.at.returns c).After-counts_refusal (ap answer c.in_ok-counts_refusal.was) in
    let same = content-same {ps = a.lists.prices.now} {rs = a.lists.rows.now} {ts = a.lists.transactions.now} (count-is (fits k.participants (omega arith)) k.participants) (count-is (fits k.locations (omega arith)) k.locations) (count-is (fits k.rows (omega arith)) k.rows) (count-is (fits k.transactions (omega arith)) k.transactions) (count-is (fits k.edition (omega arith)) k.edition) in record {
      value = w.ensures.value ∙ ap (λ (g : Content). write_refusal g (length a.file.now)) same;
      file_after = w.ensures.file_after ∙ ap (λ (g : Content). write_outcome g a.file.now) same;
    }
