use mathlib.Core.Path.{◌≡◌, ap, ◌∙◌}
use Prim.Native.Nat.{◌*◌}
use native.Mathlib.Omega.{arith}
use Rattle.exercise_read.proofs.Answers.{prices-are, rows_are, transactions-are}
use Rattle.exercise.proofs.Whole.{Found, found, whole, small-read}
use Rattle.exercise.specs.declared.Header.{Header}
use Rattle.exercise.specs.File.{header}
use Rattle.exercise.specs.Layout.{transaction_size, edition_of}
use Rattle.exercise.specs.Lists.{transaction_length}
use Rattle.hour.specs.declared.Edition.{Edition}
use Rattle.exercise_read.proofs.put_lists.Goals as goal
use Rattle.exercise_read.proofs.put_lists.Goals.{After-places_of-prices_at, After-put_all, After-put_prices, Start}

abbrev start : After-places_of-prices_at → Start
start c = (goal.at.After-places_of-prices_at c).Start

-- from one list back to the places, and to the list before it
abbrev priced : After-put_prices → After-places_of-prices_at
priced c = (goal.at.After-put_prices c).After-places_of-prices_at

abbrev rowed : After-put_all → After-put_prices
rowed c = (goal.at.After-put_all c).After-put_prices

here : (c : After-places_of-prices_at) → Found (start c).args.file.now c.read_header-header.result c.places_of-prices_at.result
here c = found _ (start c).requires.frame _ c.read_header-header.ensures _ c.places_of-prices_at.ensures

-- the counts that were read
counts : (c : After-places_of-prices_at) → let h = c.read_header-header.result in let k = header (start c).args.file.now in (h.locations ≡ k.locations) × (h.rows ≡ k.rows) × (h.transactions ≡ k.transactions)
counts c = let e = c.read_header-header.ensures in
    (ap (λ (k : Header). k.locations) e, ap (λ (k : Header). k.rows) e, ap (λ (k : Header). k.transactions) e)

pub read_header-header-requires : goal.read_header-header-requires
read_header-header-requires c = (whole _ c.requires.frame).begun

pub places_of-prices_at-requires : goal.places_of-prices_at-requires
places_of-prices_at-requires c = small-read _ _ c.read_header-header.ensures

pub slice_bounds-put_prices-count : goal.slice_bounds-put_prices-count
slice_bounds-put_prices-count c = let f = here c in
    omega arith

pub slice_bounds-put_prices-start : goal.slice_bounds-put_prices-start
slice_bounds-put_prices-start c = let f = here c in
    omega arith

pub slice_bounds-put_prices-end : goal.slice_bounds-put_prices-end
slice_bounds-put_prices-end c = let f = here c in
    omega arith

pub put_prices-requires : goal.put_prices-requires
put_prices-requires c = let f = here (goal.at.put_prices-requires c).After-places_of-prices_at in
    let k = counts (goal.at.put_prices-requires c).After-places_of-prices_at in
    (omega arith, omega (arith, (start (goal.at.put_prices-requires c).After-places_of-prices_at).requires.prices-long))

pub slice_bounds-put_all-count : goal.slice_bounds-put_all-count
slice_bounds-put_all-count c = let f = here (priced (goal.at.slice_bounds-put_all-count c).After-put_prices) in
    omega arith

pub slice_bounds-put_all-start : goal.slice_bounds-put_all-start
slice_bounds-put_all-start c = let f = here (priced (goal.at.slice_bounds-put_all-start c).After-put_prices) in
    omega arith

pub slice_bounds-put_all-end : goal.slice_bounds-put_all-end
slice_bounds-put_all-end c = let f = here (priced (goal.at.slice_bounds-put_all-end c).After-put_prices) in
    omega arith

pub put_all-requires : goal.put_all-requires
put_all-requires c = let b = priced (goal.at.put_all-requires c).After-put_prices in
    let f = here b in
    let k = counts b in record {
      n_in_bounds = omega arith;
      list_len = omega (arith, (start b).requires.rows_long);
    }

pub slice_bounds-put_all-count-2 : goal.slice_bounds-put_all-count-2
slice_bounds-put_all-count-2 c = let f = here (priced (rowed (goal.at.slice_bounds-put_all-count-2 c).After-put_all)) in
    omega arith

pub slice_bounds-put_all-start-2 : goal.slice_bounds-put_all-start-2
slice_bounds-put_all-start-2 c = let f = here (priced (rowed (goal.at.slice_bounds-put_all-start-2 c).After-put_all)) in
    omega arith

pub slice_bounds-put_all-end-2 : goal.slice_bounds-put_all-end-2
slice_bounds-put_all-end-2 c = let f = here (priced (rowed (goal.at.slice_bounds-put_all-end-2 c).After-put_all)) in
    omega arith

pub put_all-requires-2 : goal.put_all-requires-2
put_all-requires-2 c = let b = priced (rowed (goal.at.put_all-requires-2 c).After-put_all) in
    let h = b.read_header-header.result in
    let f = here b in record {
      n_in_bounds = omega (arith, ap (λ (e : Edition). transaction_size e * h.transactions) c.edition_of-edition.ensures);
      list_len = omega (arith, (start b).requires.transactions-long, ap (λ (e : Edition). transaction_length e * h.transactions) c.edition_of-edition.ensures, ap (λ (k : Header). transaction_length (edition_of k.edition) * k.transactions) b.read_header-header.ensures);
    }

pub returns : goal.returns
returns c = let p = rowed (goal.at.returns c).After-put_all in
    let b = priced p in
    let file = (start b).args.file.now in
    let e = b.read_header-header.ensures in
    let s = (here b).same in record {
      prices_after = p.put_prices.ensures ∙ prices-are file _ _ e s;
      row_list_after = c.put_all.ensures ∙ rows_are file _ _ e s;
      transaction_list_after = c.put_all-2.ensures ∙ transactions-are file _ _ e s _ c.edition_of-edition.ensures;
    }
