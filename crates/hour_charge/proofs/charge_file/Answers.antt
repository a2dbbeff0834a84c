use native.Mathlib.Omega.{arith}
use Rattle.exercise.proofs.Whole.{Found, found, whole, small-read}
use Rattle.hour_charge.proofs.Stretches.{its-stretches, file-refusal}
use Rattle.hour_charge.proofs.charge_file.Goals as goal
use Rattle.hour_charge.proofs.charge_file.Goals.{After-places_of-prices, Start}

abbrev given : After-places_of-prices → Start
given p = (goal.at.After-places_of-prices p).Start

here : (p : After-places_of-prices) → Found (given p).args.file.now p.read_header-header.result p.places_of-prices.result
here p = found _ (given p).requires.file_value _ p.read_header-header.ensures _ p.places_of-prices.ensures

pub read_header-header-requires : goal.read_header-header-requires
read_header-header-requires c = (whole _ c.requires.file_value).begun

pub places_of-prices-requires : goal.places_of-prices-requires
places_of-prices-requires c = small-read _ _ c.read_header-header.ensures

pub slice_bounds-charge_stretches-count : goal.slice_bounds-charge_stretches-count
slice_bounds-charge_stretches-count c = let f = here c in omega arith

pub slice_bounds-charge_stretches-start : goal.slice_bounds-charge_stretches-start
slice_bounds-charge_stretches-start c = let f = here c in omega arith

pub slice_bounds-charge_stretches-end : goal.slice_bounds-charge_stretches-end
slice_bounds-charge_stretches-end c = let f = here c in omega arith

pub slice_bounds-charge_stretches-count-2 : goal.slice_bounds-charge_stretches-count-2
slice_bounds-charge_stretches-count-2 c = let f = here (goal.at.slice_bounds-charge_stretches-count-2 c).After-places_of-prices in omega arith

pub slice_bounds-charge_stretches-start-2 : goal.slice_bounds-charge_stretches-start-2
slice_bounds-charge_stretches-start-2 c = let f = here (goal.at.slice_bounds-charge_stretches-start-2 c).After-places_of-prices in omega arith

pub slice_bounds-charge_stretches-end-2 : goal.slice_bounds-charge_stretches-end-2
slice_bounds-charge_stretches-end-2 c = let f = here (goal.at.slice_bounds-charge_stretches-end-2 c).After-places_of-prices in omega arith

pub slice_bounds-charge_stretches-count-3 : goal.slice_bounds-charge_stretches-count-3
slice_bounds-charge_stretches-count-3 c = let f = here (goal.at.slice_bounds-charge_stretches-count-3 c).After-places_of-prices in omega arith

pub slice_bounds-charge_stretches-start-3 : goal.slice_bounds-charge_stretches-start-3
slice_bounds-charge_stretches-start-3 c = let f = here (goal.at.slice_bounds-charge_stretches-start-3 c).After-places_of-prices in omega arith

pub slice_bounds-charge_stretches-end-3 : goal.slice_bounds-charge_stretches-end-3
slice_bounds-charge_stretches-end-3 c = let f = here (goal.at.slice_bounds-charge_stretches-end-3 c).After-places_of-prices in omega arith

pub charge_stretches-requires-clause-stretches : goal.charge_stretches-requires-clause-stretches
charge_stretches-requires-clause-stretches c = its-stretches _ c.requires.file_value _ c.read_header-header.ensures _ c.places_of-prices.ensures

pub returns-clause-value : goal.returns-clause-value
returns-clause-value c = file-refusal _ c.requires.file_value _ c.read_header-header.ensures _ c.places_of-prices.ensures _ c.charge_stretches.ensures.value
