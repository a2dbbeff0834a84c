use Rattle.load.specs.Load.{kw, contract_count}
use Rattle.ints.proofs.Eachs.{all_to-none, all_to-next, all_to-fails}
use Rattle.ints.specs.Number.{between}
use mir.Facts.{to_z-of_z}
use mir.Syntax.{w64}
use lib.IntN.{pos}
use mathlib.Core.Bool.{Bool}
use mathlib.Core.Path.{◌≡◌, sym, ap, ◌∙◌}
use Prim.Native.Nat.{ℕ}
use borrow.Author.Rules.{rules}
use Rattle.load_refusals.proofs.kw_between.Goals as goal
use Rattle.load_refusals.proofs.kw_between.Goals.{After-is_between, Start}

abbrev test : Start → ℕ → Bool
test s j = between (pos 0) (pos 20000000) (kw s.args.contracts.now j)

tested : (c : After-is_between) → test (goal.at.After-is_between c).Start c.loop-j.j ≡ c.is_between.result
tested c = sym (c.is_between.ensures ∙ ap (between (pos 0) (pos 20000000)) (to_z-of_z {w = w64} {z = c.contract_at.result.kw} (search rules) ∙ c.contract_at.ensures.kw_is))

pub loop-j-init : goal.loop-j-init
loop-j-init c = all_to-none (test (goal.at.loop-j-init c).Start)

pub returns-then-not-is_between : goal.returns-then-not-is_between
returns-then-not-is_between c = sym (all_to-fails (test (goal.at.returns-then-not-is_between c).Start) (contract_count c.args.contracts.now) c.loop-j.j (search rules) (tested (goal.at.returns-then-not-is_between c).After-is_between ∙ c.if-not-is_between.true))

pub loop-j-preserved : goal.loop-j-preserved
loop-j-preserved c = all_to-next (test (goal.at.loop-j-preserved c).Start) c.loop-j.j c.loop-j.invariant (tested (goal.at.loop-j-preserved c).After-is_between ∙ c.if-not-is_between.false)
