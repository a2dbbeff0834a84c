use Rattle.std.proofs.Common.{◌≡◌, ℕ, List, length, ap, ap₂, ◌∙◌}
use Rattle.std.specs.Prelude.{ℤ, Ok}
use Rattle.std.proofs.lemmas.Result.{err_from_is_err_and}
use mir.Syntax.{w64}
use mir.Val.{to_z, of_z}
use mir.Facts.{to_z-of_z}
use Rattle.ints.proofs.Refusals.{kept, refused, done}
use Rattle.refusals.proofs.Numbers.{number-not-zero}
use Rattle.numbers.specs.Bytes.{encoded}
use Rattle.exercise.specs.Decoding.{decoded_row}
use Rattle.exercise.specs.File.{row_at}
use Rattle.exercise.specs.Lists.{row_numbers}
use Rattle.hour.specs.declared.Row.{Row}
use Rattle.exercise_probe.specs.Inside.{probe_refusal}
use Rattle.exercise_probe.proofs.Alone.{row-refused, no_room, row-accepted}
use Rattle.exercise_probe.proofs.read_alone.Goals as goal
use Rattle.exercise_probe.proofs.read_alone.Goals.{After-decode_row, In_ok-row}

-- the answer and the result by the definition
module _ (d : After-decode_row) where
  abbrev answered : ℕ
  answered = probe_refusal d.args.participants d.args.locations d.args.row.now (length d.args.fields.now)

  abbrev result : List ℕ
  result = encoded (row_numbers (row_at d.args.row.now 0))

  -- the counts as they were passed on
  counts : decoded_row (to_z w64 (of_z w64 d.args.participants)) (to_z w64 (of_z w64 d.args.locations)) d.args.row.now ≡ decoded_row d.args.participants d.args.locations d.args.row.now
  counts = ap₂ (λ (p l : ℤ). decoded_row p l d.args.row.now) (to_z-of_z d.ranges.participants) (to_z-of_z d.ranges.locations)

accepted : (d : In_ok-row) → Ok d.in_ok-row.row ≡ decoded_row d.args.participants d.args.locations d.args.row.now
accepted d = d.in_ok-row.ensures ∙ counts (goal.at.In_ok-row d).After-decode_row

pub returns-in_err-row : goal.returns-in_err-row
returns-in_err-row c = let p = err_from_is_err_and c.from_residual.result c.from_residual.ensures.1 in
    let d = (goal.at.returns-in_err-row c).After-decode_row in
    let made = kept (answered d) (result d) c.args.fields.now _ (number-not-zero _) (row-refused _ _ _ _ _ (c.in_err-row.ensures ∙ counts d)) in
    record { value = rw (p.1, p.2) made.0; fields_after = made.1 }

pub returns-then-fields-ne48 : goal.returns-then-fields-ne48
returns-then-fields-ne48 c = let d = (goal.at.returns-then-fields-ne48 c).After-decode_row in
    let i = (goal.at.returns-then-fields-ne48 c).In_ok-row in
    let made = refused (answered d) (result d) c.args.fields.now 0 (no_room _ _ _ _ _ (accepted i) c.if-fields-ne48.true) in
    record { value = made.0; fields_after = made.1 }

pub returns : goal.returns
returns c = let d = (goal.at.returns c).After-decode_row in
    let q = row-accepted _ _ _ (length c.args.fields.now) _ (accepted (goal.at.returns c).In_ok-row) c.if-fields-ne48.false in
    let made = done (answered d) (result d) c.args.fields.now _ q.0 (c.put_row.ensures ∙ ap (λ (row : Row). encoded (row_numbers row)) q.1) in
    record { value = made.0; fields_after = made.1 }
