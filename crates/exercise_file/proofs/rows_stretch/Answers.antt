use Rattle.std.proofs.Common.{◌≡◌, Bool, true, false, refl, sym, ◌∙◌, arith}
use Rattle.std.specs.Prelude.{Result, Ok, Err, is_err, ⊤}
use Rattle.ints.proofs.Turns.{then-none}
use Rattle.refusals.specs.Number.{answer}
use Rattle.refusals.specs.declared.Refusal.{Refusal}
use Rattle.exercise.specs.Order.{frame_refusal}
use Rattle.exercise.proofs.Whole.{Found, found, whole, small-read}
use Rattle.exercise_file.proofs.rows_stretch.Goals as goal
use Rattle.exercise_file.proofs.rows_stretch.Goals.{After-places_of-rows, Else-is_err}

passed : (r : Result ⊤ Refusal) → is_err r ≡ false → answer r ≡ 0
passed (Ok x) e = refl
passed (Err refusal) e = absurd (let no : ◌≡◌ {A = Bool} true false = e in cc)

accepted : (c : Else-is_err) → frame_refusal c.args.file.now ≡ 0
accepted c = (then-none _ _ (sym c.check.ensures ∙ passed c.check.result (sym c.is_err.ensures.value ∙ c.if-is_err.false))).0

here : (c : After-places_of-rows) → Found c.args.file.now c.read_header.result c.places_of-rows.result
here c = found _ (accepted (goal.at.After-places_of-rows c).Else-is_err) _ c.read_header.ensures _ c.places_of-rows.ensures

pub read_header-requires : goal.read_header-requires
read_header-requires c = (whole _ (accepted c)).begun

pub places_of-rows-requires : goal.places_of-rows-requires
places_of-rows-requires c = small-read _ _ c.read_header.ensures

pub slice_bounds-result-count-2 : goal.slice_bounds-result-count-2
slice_bounds-result-count-2 c = let f = here c in omega arith

pub slice_bounds-result-start-2 : goal.slice_bounds-result-start-2
slice_bounds-result-start-2 c = let f = here c in omega arith

pub slice_bounds-result-end-2 : goal.slice_bounds-result-end-2
slice_bounds-result-end-2 c = let f = here c in omega arith
