use mathlib.Core.Path.{◌≡◌, sym, ◌∙◌}
use Rattle.load.specs.Order.{named}
use Rattle.load.specs.Load.{contract_count}
use Rattle.ints.proofs.Eachs.{all_to-none, all_to-next, all_to-fails}
use Rattle.ints.specs.Each.{all_to}
use mir.Facts.{to_z-of_z}
use mir.Val.{to_z, of_z}
use mir.Syntax.{w64}
use mathlib.Core.Bool.{Bool}
use Prim.Native.Nat.{ℕ}
use borrow.Author.Rules.{rules}
use Rattle.load_refusals.proofs.all_named.Goals as goal
use Rattle.load_refusals.proofs.all_named.Goals.{After-is_named, Start}

abbrev test : Start → ℕ → Bool
test s = named (to_z w64 (of_z w64 s.args.areas)) s.args.contracts.now

whole : (s : Start) → all_to (named s.args.areas s.args.contracts.now) (contract_count s.args.contracts.now) ≡ all_to (test s) (contract_count s.args.contracts.now)
whole s = simp (to_z-of_z s.ranges.areas)

tested : (c : After-is_named) → test (goal.at.After-is_named c).Start c.loop-j.j ≡ c.is_named.result
tested c = sym c.is_named.ensures

pub loop-j-init : goal.loop-j-init
loop-j-init c = all_to-none (test (goal.at.loop-j-init c).Start)

pub returns-then-not-is_named : goal.returns-then-not-is_named
returns-then-not-is_named c = sym (whole (goal.at.returns-then-not-is_named c).Start ∙ all_to-fails (test (goal.at.returns-then-not-is_named c).Start) (contract_count c.args.contracts.now) c.loop-j.j (search rules) (tested (goal.at.returns-then-not-is_named c).After-is_named ∙ c.if-not-is_named.true))

pub loop-j-preserved : goal.loop-j-preserved
loop-j-preserved c = all_to-next (test (goal.at.loop-j-preserved c).Start) c.loop-j.j c.loop-j.invariant (tested (goal.at.loop-j-preserved c).After-is_named ∙ c.if-not-is_named.false)
