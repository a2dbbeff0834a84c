use mathlib.Core.Path.{refl, sym, ap, subst, ◌∙◌}
use mathlib.Core.List.{List}
use Prim.Native.Nat.{ℕ, ◌≤◌}
use lib.Dec.{eqb}
use lib.ListN.{length}
use borrow.Author.Tests.{eq-eqb, ne_eqb}
use Rattle.std.proofs.lemmas.Result.{err_from_is_err_and}
use Rattle.ints.specs.Refusal.{unless}
use Rattle.ints.proofs.Refusals.{kept, refused, done}
use Rattle.ints.proofs.Turns.{then-ends, then-follows}
use Rattle.refusals.proofs.Numbers.{number-not-zero}
use Rattle.numbers.specs.Bytes.{encoded}
use Rattle.exercise.specs.File.{header}
use Rattle.exercise.specs.Lists.{count_numbers, file_counts_refusal}
use Rattle.exercise.specs.declared.Header.{Header}
use Rattle.exercise.proofs.Whole.{whole, small-read}
use Rattle.exercise_read.proofs.read_counts.Goals as goal
use Rattle.exercise_read.proofs.read_counts.Goals.{Start}

-- the answer and the result by the definition
abbrev due : Start → ℕ
due s = file_counts_refusal s.args.file.now (length s.args.counts.now)

abbrev result : Start → List ℕ
result s = encoded (count_numbers (header s.args.file.now))

pub returns-in_err-frame_refusal : goal.returns-in_err-frame_refusal
unfolding file_counts_refusal
returns-in_err-frame_refusal c = let s = (goal.at.returns-in_err-frame_refusal c).Start in
    let p = err_from_is_err_and c.from_residual.result c.from_residual.ensures.1 in
    let made = kept (due s) (result s) s.args.counts.now _ (number-not-zero _) (then-ends _ _ _ (number-not-zero _) c.in_err-frame_refusal.ensures) in record { value = rw (p.1, p.2) made.0; counts_after = made.1 }

pub returns-then-counts-ne40 : goal.returns-then-counts-ne40
unfolding file_counts_refusal
returns-then-counts-ne40 c = let s = (goal.at.returns-then-counts-ne40 c).Start in let made = refused (due s) (result s) s.args.counts.now 0 (sym (simp (ne_eqb _ _ c.if-counts-ne40.true) refl) ∙ then-follows _ (unless (eqb (length s.args.counts.now) 40) 1 0) 0 refl c.in_ok-frame_refusal.ensures) in record { value = made.0; counts_after = made.1 }

pub read_header-requires : goal.read_header-requires
read_header-requires c = (whole _ (sym c.in_ok-frame_refusal.ensures)).begun

pub put_counts-requires : goal.put_counts-requires
put_counts-requires c = let w = whole _ (sym c.in_ok-frame_refusal.ensures) in record {
  small = (small-read _ _ c.read_header.ensures, subst (λ (k : Header). k.edition ≤ 1) (sym c.read_header.ensures) w.edition);
  counts_len = c.if-counts-ne40.false;
}

pub returns : goal.returns
unfolding file_counts_refusal
returns c = let s = (goal.at.returns c).Start in let made = done (due s) (result s) s.args.counts.now _ (sym (simp (eq-eqb _ _ c.if-counts-ne40.false) refl) ∙ then-follows _ (unless (eqb (length s.args.counts.now) 40) 1 0) 0 refl c.in_ok-frame_refusal.ensures) (c.put_counts.ensures ∙ ap (λ (x : Header). encoded (count_numbers x)) c.read_header.ensures) in record { value = made.0; counts_after = made.1 }
