use mathlib.Core.Path.{◌≡◌, sym, ap, ◌∙◌}
use Prim.Native.Nat.{ℕ, ◌≤◌}
use lib.IntN.{pos}
use lib.ListN.{length, take, replicate}
use lib.Seq.{length-take-le}
use Rattle.ints.proofs.Ranges.{cut_range, zeros-range}
use Rattle.exercise.specs.File.{hour_of}
use Rattle.exercise.specs.declared.Header.{Header}
use Rattle.exercise.proofs.Whole.{whole, small-read}
use Rattle.hour_find.specs.Inside.{Empty}
use Rattle.hour_find.proofs.credits_cause.Goals as goal
use Rattle.hour_find.proofs.credits_cause.Goals.{After-read_header-n}

-- the front of a list as it is made
module _ (h : After-read_header-n) where
  abbrev count : ℕ
  count = h.read_header-n.result.participants

  few : count ≤ 64
  few = (small-read _ _ h.read_header-n.ensures).participants

  long : length (take count (replicate 64 (pos 0))) ≡ count
  long = length-take-le count (replicate 64 (pos 0)) few

  empty : Empty (hour_of h.args.file.now).participants (take count (replicate 64 (pos 0)))
  empty = record { each = long ∙ ap (λ (x : Header). x.participants) h.read_header-n.ensures; none = cut_range 0 count (zeros-range 64 0) }

pub read_header-n-requires : goal.read_header-n-requires
read_header-n-requires c = (whole _ c.requires.file_value).begun

pub slice_bounds-exact_congestion-end : goal.slice_bounds-exact_congestion-end
slice_bounds-exact_congestion-end c = few c

pub slice_bounds-charged_cause-end : goal.slice_bounds-charged_cause-end
slice_bounds-charged_cause-end c = sym (long (goal.at.slice_bounds-charged_cause-end c).After-read_header-n)

pub slice_bounds-exact_loss-end : goal.slice_bounds-exact_loss-end
slice_bounds-exact_loss-end c = few (goal.at.slice_bounds-exact_loss-end c).After-read_header-n

pub slice_bounds-charged_cause-end-2 : goal.slice_bounds-charged_cause-end-2
slice_bounds-charged_cause-end-2 c = sym (long (goal.at.slice_bounds-charged_cause-end-2 c).After-read_header-n)

pub slice_bounds-shares-end : goal.slice_bounds-shares-end
slice_bounds-shares-end c = few (goal.at.slice_bounds-shares-end c).After-read_header-n

pub slice_bounds-charged_cause-end-3 : goal.slice_bounds-charged_cause-end-3
slice_bounds-charged_cause-end-3 c = sym (long (goal.at.slice_bounds-charged_cause-end-3 c).After-read_header-n)

pub charged_cause-requires : goal.charged_cause-requires
charged_cause-requires c = record {
  file_value = c.requires.file_value;
  file_value_2 = c.requires.file_value_2;
  empty = (empty (goal.at.charged_cause-requires c).After-read_header-n, empty (goal.at.charged_cause-requires c).After-read_header-n, empty (goal.at.charged_cause-requires c).After-read_header-n);
}
