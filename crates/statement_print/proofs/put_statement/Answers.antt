use mathlib.Core.Path.{◌≡◌, sym, ap, ◌∙◌}
use mathlib.Core.List.{List}
use Prim.Native.Nat.{ℕ, ◌≤◌}
use native.Mathlib.Omega.{arith}
use lib.IntN.{pos}
use lib.ListN.{length, take, replicate}
use lib.Seq.{length-take-le}
use borrow.Author.Rules.{rules}
use Rattle.ints.specs.InsideRange.{InRange}
use Rattle.ints.proofs.Ranges.{cut_range, zeros-range}
use Rattle.refusals.specs.Number.{answer}
use Rattle.refusals.proofs.Numbers.{number-not-zero}
use Rattle.text.proofs.Laws as laws
use Rattle.exercise.specs.Order.{frame_refusal}
use Rattle.exercise.specs.declared.Header.{Header}
use Rattle.exercise.proofs.Whole.{small, whole}
use Rattle.exercise.specs.File.{hour_of}
use Rattle.statement.specs.Statement.{refused_line}
use Rattle.statement_print.proofs.Hours.{refused-early}
use Rattle.statement_print.proofs.put_statement.Goals as goal
use Rattle.statement_print.proofs.put_statement.Goals.{After-read_header-n, Start}

-- the front of a list as it is made
front : {n : ℕ} → n ≤ 64 → length (take n (replicate 64 (pos 0))) ≡ n
front {n} h = length-take-le n (replicate 64 (pos 0)) h

module _ (h : After-read_header-n) where
  abbrev s : Start
  s = (goal.at.After-read_header-n h).Start

  abbrev file : List ℕ
  file = s.args.file.now

  passes : frame_refusal file ≡ 0
  passes = sym h.frame_refusal.ensures ∙ ap answer h.in_default.is

  count : h.read_header-n.result.participants ≡ (hour_of file).participants
  count = ap (λ (x : Header). x.participants) h.read_header-n.ensures

  few : h.read_header-n.result.participants ≤ 64
  few = omega (arith, count, (small file).participants)

  as_many : length (take h.read_header-n.result.participants (replicate 64 (pos 0))) ≡ (hour_of file).participants
  as_many = front few ∙ count

  empty : InRange (take h.read_header-n.result.participants (replicate 64 (pos 0))) 0
  empty = cut_range 0 h.read_header-n.result.participants (zeros-range 64 0)

pub returns-in-Err : goal.returns-in-Err
returns-in-Err c = let w = laws.told c.put_refused.ensures.written (ap refused_line c.from.ensures ∙ refused-early c.args.file.now _ (number-not-zero _) c.in-Err.ensures) in
    let f = laws.front w (omega (arith, w.ends, c.put_refused.ensures.upper_bound, c.well_formed)) in record {
      value = f.1;
      page_after = f.0;
    }

pub read_header-n-requires : goal.read_header-n-requires
read_header-n-requires c = (whole _ (sym c.frame_refusal.ensures ∙ ap answer c.in_default.is)).begun

pub slice_bounds-congestion-end : goal.slice_bounds-congestion-end
slice_bounds-congestion-end c = few (goal.at.slice_bounds-congestion-end c).After-read_header-n

pub slice_bounds-put_hour-end-2 : goal.slice_bounds-put_hour-end-2
slice_bounds-put_hour-end-2 c = sym (front (few (goal.at.slice_bounds-put_hour-end-2 c).After-read_header-n))

pub slice_bounds-loss-end : goal.slice_bounds-loss-end
slice_bounds-loss-end c = few (goal.at.slice_bounds-loss-end c).After-read_header-n

pub slice_bounds-put_hour-end-3 : goal.slice_bounds-put_hour-end-3
slice_bounds-put_hour-end-3 c = sym (front (few (goal.at.slice_bounds-put_hour-end-3 c).After-read_header-n))

pub slice_bounds-credit-end : goal.slice_bounds-credit-end
slice_bounds-credit-end c = few (goal.at.slice_bounds-credit-end c).After-read_header-n

pub slice_bounds-put_hour-end-4 : goal.slice_bounds-put_hour-end-4
slice_bounds-put_hour-end-4 c = sym (front (few (goal.at.slice_bounds-put_hour-end-4 c).After-read_header-n))

pub slice_bounds-net-end : goal.slice_bounds-net-end
slice_bounds-net-end c = few (goal.at.slice_bounds-net-end c).After-read_header-n

pub slice_bounds-put_hour-end-5 : goal.slice_bounds-put_hour-end-5
slice_bounds-put_hour-end-5 c = sym (front (few (goal.at.slice_bounds-put_hour-end-5 c).After-read_header-n))

pub put_hour-requires : goal.put_hour-requires
put_hour-requires c = record {
  file_value = (passes (goal.at.put_hour-requires c).After-read_header-n, search rules);
  outputs = record { congestion-each = as_many (goal.at.put_hour-requires c).After-read_header-n; loss-each = as_many (goal.at.put_hour-requires c).After-read_header-n; credit-each = as_many (goal.at.put_hour-requires c).After-read_header-n; net-each = as_many (goal.at.put_hour-requires c).After-read_header-n };
  cleared = record { congestion-empty = empty (goal.at.put_hour-requires c).After-read_header-n; loss-empty = empty (goal.at.put_hour-requires c).After-read_header-n; credit-empty = empty (goal.at.put_hour-requires c).After-read_header-n };
}

pub returns : goal.returns
returns c = let w = c.put_hour.ensures in
    let f = laws.front w.written (omega (arith, w.written.ends, w.upper_bound, c.well_formed)) in record {
      value = f.1;
      page_after = f.0;
    }
