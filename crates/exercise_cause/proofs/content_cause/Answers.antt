use mathlib.Core.Path.{◌≡◌, ap, ap₂, sym, subst, ◌∙◌}
use mathlib.Core.List.{List}
use Prim.Native.Nat.{ℕ, ◌*◌, ◌≤◌}
use native.Mathlib.Omega.{arith}
use Rattle.std.proofs.lemmas.Result.{err_from_is_err_and}
use Rattle.hour.specs.Cause.{Cause, content_cause}
use Rattle.hour.specs.InsideCause.{first_from}
use Rattle.hour.specs.declared.Edition.{Edition}
use Rattle.hour.proofs.Told.{passed, stopped}
use Rattle.exercise.specs.File.{bytes_from, hour_of}
use Rattle.exercise.specs.Inside.{Small}
use Rattle.exercise.specs.Layout.{transaction_size}
use Rattle.exercise.specs.Order.{spare_of}
use Rattle.exercise.specs.declared.Header.{Header}
use Rattle.exercise.specs.declared.Item.{Item}
use Rattle.exercise.specs.declared.Places.{Places}
use Rattle.exercise.proofs.Whole.{Found, found, whole, small-read, some-participant, some-location}
use Rattle.exercise_cause.specs.Inside.{cause_at}
use Rattle.exercise_cause.proofs.Content.{stretches_cause, content-is}
use Rattle.exercise_cause.proofs.content_cause.Goals as goal
use Rattle.exercise_cause.proofs.content_cause.Goals.{After-edition_of-edition, Start}

-- the causes over a header and places that were read
abbrev read_cause : Header → Places → List ℕ → Cause
read_cause h p file = stretches_cause h (bytes_from p.prices p.rows file) (bytes_from p.rows p.transactions file) (bytes_from p.transactions p.end file)

abbrev start : After-edition_of-edition → Start
start c = (goal.at.After-edition_of-edition c).Start

abbrev head : After-edition_of-edition → Header
head c = c.read_header-header.result

abbrev laid : After-edition_of-edition → Places
laid c = c.places_of-prices.result

here : (c : After-edition_of-edition) → Found (start c).args.file.now (head c) (laid c)
here c = found _ (start c).requires _ c.read_header-header.ensures _ c.places_of-prices.ensures

counts : (c : After-edition_of-edition) → Small (head c)
counts c = small-read _ _ c.read_header-header.ensures

some : (c : After-edition_of-edition) → let h = head c in (1 ≤ h.participants) × (h.participants ≤ 64) × (1 ≤ h.locations) × (h.locations ≤ 64)
some c =
    let file = (start c).args.file.now in
    let same = sym c.read_header-header.ensures in
    (subst (λ (h : Header). 1 ≤ h.participants) same (some-participant file), (counts c).participants, subst (λ (h : Header). 1 ≤ h.locations) same (some-location file), (counts c).locations)

order : (c : After-edition_of-edition) → let file = (start c).args.file.now in read_cause (head c) (laid c) file ≡ content_cause (hour_of file) (spare_of file)
order c = ap₂ (λ (h : Header) (p : Places). read_cause h p (start c).args.file.now) c.read_header-header.ensures (here c).same ∙ content-is (start c).args.file.now

pub read_header-header-requires : goal.read_header-header-requires
read_header-header-requires c = (whole _ c.requires).begun

pub places_of-prices-requires : goal.places_of-prices-requires
places_of-prices-requires c = small-read _ _ c.read_header-header.ensures

pub slice_bounds-prices_cause-count : goal.slice_bounds-prices_cause-count
slice_bounds-prices_cause-count c = let f = here c in omega arith

pub slice_bounds-prices_cause-start : goal.slice_bounds-prices_cause-start
slice_bounds-prices_cause-start c = let f = here c in omega arith

pub slice_bounds-prices_cause-end : goal.slice_bounds-prices_cause-end
slice_bounds-prices_cause-end c = let f = here c in omega arith

pub overflow_mul-header : goal.overflow_mul-header
overflow_mul-header c = let f = here (goal.at.overflow_mul-header c).After-edition_of-edition in omega arith

pub prices_cause-requires : goal.prices_cause-requires
prices_cause-requires c = let f = here (goal.at.prices_cause-requires c).After-edition_of-edition in
    let m = counts (goal.at.prices_cause-requires c).After-edition_of-edition in
    (omega arith, omega (arith, m.locations))

pub returns-in_err-prices_cause : goal.returns-in_err-prices_cause
returns-in_err-prices_cause c = let p = err_from_is_err_and c.from_residual.result c.from_residual.ensures.1 in
    rw (p.1, p.2) (stopped _ _ _ c.in_err-prices_cause.ensures ∙ order (goal.at.returns-in_err-prices_cause c).After-edition_of-edition)

pub slice_bounds-first_cause-count : goal.slice_bounds-first_cause-count
slice_bounds-first_cause-count c = let f = here (goal.at.slice_bounds-first_cause-count c).After-edition_of-edition in omega arith

pub slice_bounds-first_cause-start : goal.slice_bounds-first_cause-start
slice_bounds-first_cause-start c = let f = here (goal.at.slice_bounds-first_cause-start c).After-edition_of-edition in omega arith

pub slice_bounds-first_cause-end : goal.slice_bounds-first_cause-end
slice_bounds-first_cause-end c = let f = here (goal.at.slice_bounds-first_cause-end c).After-edition_of-edition in omega arith

pub invariant_of-sizes : goal.invariant_of-sizes
invariant_of-sizes c = record { in_range = some (goal.at.invariant_of-sizes c).After-edition_of-edition }

pub first_cause-requires : goal.first_cause-requires
first_cause-requires c = let f = here (goal.at.first_cause-requires c).After-edition_of-edition in
    (omega arith, omega (arith, (counts (goal.at.first_cause-requires c).After-edition_of-edition).rows))

pub returns-in_err-first_cause : goal.returns-in_err-first_cause
returns-in_err-first_cause c = let p = err_from_is_err_and c.from_residual-in_err-first_cause.result c.from_residual-in_err-first_cause.ensures.1 in
    rw (p.1, p.2) (passed _ _ _ c.in_ok-prices_cause.ensures (stopped _ _ _ c.in_err-first_cause.ensures) ∙ order (goal.at.returns-in_err-first_cause c).After-edition_of-edition)

pub slice_bounds-first_cause-count-2 : goal.slice_bounds-first_cause-count-2
slice_bounds-first_cause-count-2 c = let f = here (goal.at.slice_bounds-first_cause-count-2 c).After-edition_of-edition in omega arith

pub slice_bounds-first_cause-start-2 : goal.slice_bounds-first_cause-start-2
slice_bounds-first_cause-start-2 c = let f = here (goal.at.slice_bounds-first_cause-start-2 c).After-edition_of-edition in omega arith

pub slice_bounds-first_cause-end-2 : goal.slice_bounds-first_cause-end-2
slice_bounds-first_cause-end-2 c = let f = here (goal.at.slice_bounds-first_cause-end-2 c).After-edition_of-edition in omega arith

pub first_cause-requires-2 : goal.first_cause-requires-2
first_cause-requires-2 c = let t = (goal.at.first_cause-requires-2 c).After-edition_of-edition in let f = here t in
    (omega (arith, ap (λ (e : Edition). transaction_size e * (head t).transactions) c.edition_of-edition.ensures), omega (arith, (counts t).transactions))

pub returns : goal.returns
returns c = let t = (goal.at.returns c).After-edition_of-edition in
    let h = head t in
    let named = ap (λ (e : Edition). first_from (cause_at (Item.Transaction e) h.participants h.locations (bytes_from (laid t).transactions (laid t).end (start t).args.file.now)) 0 h.transactions) c.edition_of-edition.ensures in
    passed _ _ _ c.in_ok-prices_cause.ensures (passed _ _ _ c.in_ok-first_cause.ensures (c.first_cause-2.ensures ∙ named)) ∙ order t
