use mathlib.Core.Path.{◌≡◌, sym, ap, ◌∙◌}
use mathlib.Core.Bool.{Bool, ◌&&◌}
use Prim.Native.Nat.{◌+◌}
use lib.IntN.{ℤ, pos}
use lib.ListN.{get_or, drop}
use mir.Syntax.{w64}
use mir.Val.{to_z, of_z}
use mir.Facts.{to_z-of_z}
use borrow.Author.Rules.{rules, sfits_of}
use Rattle.ints.specs.Number.{between}
use Rattle.ints.specs.Table.{all}
use Rattle.ints.proofs.Bools.{and-grouped, and_last}
use Rattle.ints.proofs.Tables.{all-next, all_none}
use Rattle.ints.proofs.all_between.Goals as goal
use Rattle.ints.proofs.all_between.Goals.{After-is_between, Start}

-- the range, of the bits that the two locals hold, and the test of an element
abbrev test : Start → ℤ → Bool
test s = between (to_z w64 (of_z w64 s.args.low)) (to_z w64 (of_z w64 s.args.high))

whole : (s : Start) → all (between s.args.low s.args.high) s.args.list.now ≡ all (test s) s.args.list.now
whole s = simp (to_z-of_z s.ranges.low, to_z-of_z s.ranges.high)

tested : (c : After-is_between) → let l = c in test (goal.at.After-is_between c).Start (get_or c.args.list.now l.loop-x.x-index (pos 0)) ≡ c.is_between.result
tested c =
    sym (c.is_between.ensures ∙ ap (test (goal.at.After-is_between c).Start) (to_z-of_z {w = w64} (sfits_of c.is_between-arg-1.given)))

pub loop-x-preserved : goal.loop-x-preserved
loop-x-preserved c = let t = (goal.at.loop-x-preserved c).After-is_between in let s = (goal.at.loop-x-preserved c).Start in let list = s.args.list.now in
    let rest = all (test s) (drop (c.loop-x.x-index + 1) list) in c.loop-x.invariant
    ∙ ap (λ (b : Bool). c.loop-x.passed && b) (all-next (test s) (pos 0) list c.loop-x.x-index (search rules) ∙ ap (λ (b : Bool). b && rest) (tested t))
    ∙ and-grouped c.loop-x.passed t.is_between.result rest
    ∙ ap (λ (b : Bool). b && rest) (sym c.both-passed.ensures)

pub returns : goal.returns
returns c = let s = (goal.at.returns c).Start in sym (whole s ∙ c.loop-x.invariant ∙ ap (λ (b : Bool). c.loop-x.passed && b) (all_none (test s) (pos 0) s.args.list.now c.loop-x.x-index (search rules)) ∙ and_last c.loop-x.passed)
