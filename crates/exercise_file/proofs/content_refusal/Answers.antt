use mathlib.Core.Path.{◌≡◌, refl, ap, ap₂, ◌∙◌}
use mathlib.Core.List.{List}
use Prim.Native.Nat.{ℕ, ◌*◌}
use native.Mathlib.Omega.{arith}
use Rattle.std.proofs.lemmas.Result.{err_from_is_err_and}
use Rattle.ints.proofs.Turns.{then-ends, then-follows}
use Rattle.refusals.proofs.Numbers.{number-not-zero}
use Rattle.exercise.specs.Order.{spare_of}
use Rattle.exercise.specs.File.{bytes_from, hour_of}
use Rattle.exercise.specs.declared.Header.{Header}
use Rattle.exercise.specs.declared.Places.{Places}
use Rattle.exercise.proofs.Content.{content-is}
use Rattle.exercise.proofs.Whole.{Found, found, whole, small-read}
use Rattle.exercise.specs.Inside.{transactions_in_refusal, stretches_refusal}
use Rattle.exercise.specs.Layout.{transaction_size}
use Rattle.hour.specs.declared.Edition.{Edition}
use Rattle.hour.specs.Order.{content_refusal}
use Rattle.exercise_file.proofs.content_refusal.Goals as goal
use Rattle.exercise_file.proofs.content_refusal.Goals.{After-places_of-prices, Start}

-- the order over a header and places that were read
abbrev read_refusal : Header → Places → List ℕ → ℕ
read_refusal h p file = stretches_refusal h (bytes_from p.prices p.rows file) (bytes_from p.rows p.transactions file) (bytes_from p.transactions p.end file)

abbrev start : After-places_of-prices → Start
start c = (goal.at.After-places_of-prices c).Start

here : (c : After-places_of-prices) → Found (start c).args.file.now c.read_header-header.result c.places_of-prices.result
here c = found _ (start c).requires _ c.read_header-header.ensures _ c.places_of-prices.ensures

order : (c : After-places_of-prices) → let file = (start c).args.file.now in read_refusal c.read_header-header.result c.places_of-prices.result file ≡ content_refusal (hour_of file) (spare_of file)
order c = ap₂ (λ (h : Header) (p : Places). read_refusal h p (start c).args.file.now) c.read_header-header.ensures (here c).same ∙ content-is (start c).args.file.now

pub read_header-header-requires : goal.read_header-header-requires
read_header-header-requires c = (whole _ c.requires).begun

pub places_of-prices-requires : goal.places_of-prices-requires
places_of-prices-requires c = small-read _ _ c.read_header-header.ensures

pub slice_bounds-prices_refusal-count : goal.slice_bounds-prices_refusal-count
slice_bounds-prices_refusal-count c = let f = here c in omega arith

pub slice_bounds-prices_refusal-start : goal.slice_bounds-prices_refusal-start
slice_bounds-prices_refusal-start c = let f = here c in omega arith

pub slice_bounds-prices_refusal-end : goal.slice_bounds-prices_refusal-end
slice_bounds-prices_refusal-end c = let f = here c in omega arith

pub overflow_mul-header : goal.overflow_mul-header
overflow_mul-header c = let f = here (goal.at.overflow_mul-header c).After-places_of-prices in omega arith

pub prices_refusal-requires : goal.prices_refusal-requires
prices_refusal-requires c = let f = here (goal.at.prices_refusal-requires c).After-places_of-prices in omega arith

pub returns-in_err-prices_refusal : goal.returns-in_err-prices_refusal
returns-in_err-prices_refusal c = let p = err_from_is_err_and c.from_residual.result c.from_residual.ensures.1 in
    rw (p.1, p.2) (then-ends _ _ _ (number-not-zero _) c.in_err-prices_refusal.ensures ∙ order (goal.at.returns-in_err-prices_refusal c).After-places_of-prices)

pub slice_bounds-rows_refusal-count : goal.slice_bounds-rows_refusal-count
slice_bounds-rows_refusal-count c = let f = here (goal.at.slice_bounds-rows_refusal-count c).After-places_of-prices in omega arith

pub slice_bounds-rows_refusal-start : goal.slice_bounds-rows_refusal-start
slice_bounds-rows_refusal-start c = let f = here (goal.at.slice_bounds-rows_refusal-start c).After-places_of-prices in omega arith

pub slice_bounds-rows_refusal-end : goal.slice_bounds-rows_refusal-end
slice_bounds-rows_refusal-end c = let f = here (goal.at.slice_bounds-rows_refusal-end c).After-places_of-prices in omega arith

pub rows_refusal-requires : goal.rows_refusal-requires
rows_refusal-requires c = let f = here (goal.at.rows_refusal-requires c).After-places_of-prices in omega arith

pub returns-in_err-rows_refusal : goal.returns-in_err-rows_refusal
returns-in_err-rows_refusal c = let p = err_from_is_err_and c.from_residual-in_err-rows_refusal.result c.from_residual-in_err-rows_refusal.ensures.1 in
    rw (p.1, p.2)
    (then-ends _ _ _ (number-not-zero _) c.in_err-rows_refusal.ensures
    ∙ then-follows _ _ 0 refl c.in_ok-prices_refusal.ensures
    ∙ order (goal.at.returns-in_err-rows_refusal c).After-places_of-prices)

pub slice_bounds-transactions_refusal-count : goal.slice_bounds-transactions_refusal-count
slice_bounds-transactions_refusal-count c = let f = here (goal.at.slice_bounds-transactions_refusal-count c).After-places_of-prices in omega arith

pub slice_bounds-transactions_refusal-start : goal.slice_bounds-transactions_refusal-start
slice_bounds-transactions_refusal-start c = let f = here (goal.at.slice_bounds-transactions_refusal-start c).After-places_of-prices in omega arith

pub slice_bounds-transactions_refusal-end : goal.slice_bounds-transactions_refusal-end
slice_bounds-transactions_refusal-end c = let f = here (goal.at.slice_bounds-transactions_refusal-end c).After-places_of-prices in omega arith

pub transactions_refusal-requires : goal.transactions_refusal-requires
transactions_refusal-requires c = let f = here (goal.at.transactions_refusal-requires c).After-places_of-prices in
    omega (arith, ap (λ (e : Edition). transaction_size e * c.read_header-header.result.transactions) c.edition_of.ensures)

pub returns : goal.returns
returns c = let h = c.read_header-header.result in
    let at = c.places_of-prices.result in
    c.transactions_refusal.ensures
    ∙ ap (λ (e : Edition). transactions_in_refusal e h.participants h.locations (bytes_from at.transactions at.end (start (goal.at.returns c).After-places_of-prices).args.file.now) h.transactions) c.edition_of.ensures
    ∙ then-follows _ _ 0 refl c.in_ok-rows_refusal.ensures
    ∙ then-follows _ _ 0 refl c.in_ok-prices_refusal.ensures
    ∙ order (goal.at.returns c).After-places_of-prices
