use native.Mathlib.Omega.{arith}
use Rattle.split_parts.proofs.Quotients.{low-most, as-it-is, mended}
use Rattle.split_parts.proofs.cut_down.Goals as goal

pub overflow_sub-over : goal.overflow_sub-over
overflow_sub-over c = let a = c.args in
    low-most a.size a.share a.total a.ratio c.requires.size_bound.2 c.requires.size_bound.3 (omega arith) c.requires.ratio_value

pub returns-then-over-total : goal.returns-then-over-total
returns-then-over-total c = let a = c.args in
    as-it-is a.size a.share a.total a.ratio c.requires.size_bound.2 c.requires.size_bound.3 (omega arith) c.requires.ratio_value c.if-over-total.true

pub returns : goal.returns
returns c = let a = c.args in
    mended a.size a.share a.total a.ratio c.requires.size_bound.2 c.requires.size_bound.3 (omega arith) c.requires.ratio_value c.if-over-total.false
