use mathlib.Core.Path.{◌≡◌, refl, sym, ◌∙◌}
use Rattle.std.proofs.lemmas.Result.{err_from_is_err_and}
use Rattle.refusals.proofs.Numbers.{number-not-zero}
use Rattle.exercise_read.proofs.Answers.{ends-early, ends_there, goes_on, lists-long}
use Rattle.exercise.proofs.Whole.{whole, small-read}
use Rattle.exercise.specs.Order.{frame_refusal}
use Rattle.exercise_read.proofs.read_file.Goals as goal
use Rattle.exercise_read.proofs.read_file.Goals.{After-read_header-header}

passes : (h : After-read_header-header) → frame_refusal h.args.file.now ≡ 0
passes h = sym h.in_ok-frame_refusal.ensures

pub returns-in_err-frame_refusal-clause-value : goal.returns-in_err-frame_refusal-clause-value
returns-in_err-frame_refusal-clause-value c = let p = err_from_is_err_and c.from_residual.result c.from_residual.ensures.1 in
    rw (p.1, p.2) (ends-early _ _ _ _ _ (number-not-zero _) c.in_err-frame_refusal.ensures)

pub read_header-header-requires : goal.read_header-header-requires
read_header-header-requires c = (whole _ (sym c.in_ok-frame_refusal.ensures)).begun

pub lists_refusal-requires : goal.lists_refusal-requires
lists_refusal-requires c = let s = small-read _ _ c.read_header-header.ensures in
    (s.locations, s.rows, s.transactions)

pub returns-in_err-lists_refusal-clause-value : goal.returns-in_err-lists_refusal-clause-value
returns-in_err-lists_refusal-clause-value c = let p = err_from_is_err_and c.from_residual-in_err-lists_refusal.result c.from_residual-in_err-lists_refusal.ensures.1 in
    rw (p.1, p.2) (ends_there _ _ _ _ (passes (goal.at.returns-in_err-lists_refusal-clause-value c).After-read_header-header) _ c.read_header-header.ensures _ refl _ (number-not-zero _) c.in_err-lists_refusal.ensures)

pub returns-in_err-content_refusal-clause-value : goal.returns-in_err-content_refusal-clause-value
returns-in_err-content_refusal-clause-value c = let p = err_from_is_err_and c.from_residual-in_err-content_refusal.result c.from_residual-in_err-content_refusal.ensures.1 in
    rw (p.1, p.2) (c.in_err-content_refusal.ensures ∙ goes_on _ _ _ _ (passes (goal.at.returns-in_err-content_refusal-clause-value c).After-read_header-header) _ c.read_header-header.ensures _ refl 0 refl c.in_ok-lists_refusal.ensures)

pub put_lists-requires : goal.put_lists-requires
put_lists-requires c = lists-long _ _ _ _ (passes (goal.at.put_lists-requires c).After-read_header-header) _ c.read_header-header.ensures _ refl 0 refl c.in_ok-lists_refusal.ensures

pub returns-clause-value : goal.returns-clause-value
returns-clause-value c = c.in_ok-content_refusal.ensures ∙ goes_on _ _ _ _ (passes (goal.at.returns-clause-value c).After-read_header-header) _ c.read_header-header.ensures _ refl 0 refl c.in_ok-lists_refusal.ensures
