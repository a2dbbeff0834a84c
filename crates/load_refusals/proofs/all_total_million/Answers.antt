use Rattle.load.specs.Load.{parts_of}
use Rattle.split.specs.Split.{total}
use Rattle.ints.proofs.Eachs.{all_to-none, all_to-next, all_to-fails}
use lib.IntN.{ℤ}
use lib.Dec.{eqb}
use mathlib.Core.Bool.{Bool}
use mathlib.Core.List.{List}
use mathlib.Core.Path.{◌≡◌, sym, ap, ◌∙◌}
use Prim.Native.Nat.{ℕ}
use borrow.Author.Rules.{rules}
use Rattle.load_refusals.proofs.all_total_million.Goals as goal
use Rattle.load_refusals.proofs.all_total_million.Goals.{After-totals_million, Start}

abbrev test : Start → ℕ → Bool
test s a = eqb (total (parts_of s.args.n s.args.area_parts.now a)) 1000000

tested : (c : After-totals_million) → test (goal.at.After-totals_million c).Start c.loop-a.a ≡ c.totals_million.result
tested c = sym (c.totals_million.ensures ∙ ap (λ (list : List ℤ). eqb (total list) 1000000) c.parts_of.ensures.parts)

pub loop-a-init : goal.loop-a-init
loop-a-init c = all_to-none (test (goal.at.loop-a-init c).Start)

pub returns-then-not-totals_million : goal.returns-then-not-totals_million
returns-then-not-totals_million c = sym (all_to-fails (test (goal.at.returns-then-not-totals_million c).Start) c.args.areas c.loop-a.a (search rules) (tested (goal.at.returns-then-not-totals_million c).After-totals_million ∙ c.if-not-totals_million.true))

pub loop-a-preserved : goal.loop-a-preserved
loop-a-preserved c = all_to-next (test (goal.at.loop-a-preserved c).Start) c.loop-a.a c.loop-a.invariant (tested (goal.at.loop-a-preserved c).After-totals_million ∙ c.if-not-totals_million.false)
