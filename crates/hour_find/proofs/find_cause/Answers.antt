use mathlib.Core.Path.{◌≡◌, ap, sym, ◌∙◌}
use Rattle.hour.specs.Cause.{Cause}
use Rattle.exercise.specs.Order.{frame_refusal}
use Rattle.exercise.proofs.Causes.{frame-number, file-content-number}
use Rattle.hour_find.proofs.find_cause.Goals as goal
use Rattle.hour_find.proofs.find_cause.Goals.{In_ok-frame_cause}

-- the order to the length has passed
framed : (c : In_ok-frame_cause) → frame_refusal c.args.file.now ≡ 0
framed c = sym (frame-number _) ∙ ap (λ (x : Cause). x.refusal) (sym c.in_ok-frame_cause.ensures)

pub content_cause-requires : goal.content_cause-requires
content_cause-requires c = framed c

pub credits_cause-requires : goal.credits_cause-requires
credits_cause-requires c = record {
  file_value = framed (goal.at.credits_cause-requires c).In_ok-frame_cause;
  file_value_2 = sym (file-content-number _) ∙ ap (λ (x : Cause). x.refusal) (sym c.in_ok-content_cause.ensures);
}
