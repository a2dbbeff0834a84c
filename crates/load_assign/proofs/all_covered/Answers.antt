use Rattle.ints.proofs.Eachs.{all_to-none, all_to-next, all_to-fails}
use Rattle.ints.specs.Table.{◌at◌}
use mir.Facts.{to_z-of_z}
use mir.Syntax.{w64}
use lib.IntN.{ℤ, pos, negsuc}
use borrow.Author.Tests.{le-leb, lt-leb, ltb-true, ltb-false}
use Rattle.ints.proofs.Bools.{not-both}
use lib.ListN.{length}
use lib.Signed.{le_z, lt_z}
use mathlib.Core.Bool.{Bool, true, false}
use mathlib.Core.Path.{◌≡◌, refl, sym, ap₂, ◌∙◌}
use Prim.Native.Nat.{ℕ}
use borrow.Author.Rules.{rules}
use Rattle.load_assign.proofs.all_covered.Goals as goal
use Rattle.load_assign.proofs.all_covered.Goals.{Start}

abbrev test : Start → ℕ → Bool
test s b = le_z (s.args.contracted.now at b) (s.args.loads.now at b)

-- at most is not above
exceeds : (x y : ℤ) → lt_z y x ≡ true → le_z x y ≡ false
exceeds (pos a) (pos b) e = lt-leb a b (ltb-true b a e)
exceeds (pos a) (negsuc b) e = refl
exceeds (negsuc a) (pos b) e = absurd (not-both (sym e))
exceeds (negsuc a) (negsuc b) e = lt-leb b a (ltb-true a b e)

covers : (x y : ℤ) → lt_z y x ≡ false → le_z x y ≡ true
covers (pos a) (pos b) e = le-leb a b (ltb-false b a e)
covers (pos a) (negsuc b) e = absurd (not-both e)
covers (negsuc a) (pos b) e = refl
covers (negsuc a) (negsuc b) e = le-leb b a (ltb-false a b e)

pub loop-b-init : goal.loop-b-init
loop-b-init c = all_to-none (test (goal.at.loop-b-init c).Start)

pub returns-then-load-contracted : goal.returns-then-load-contracted
returns-then-load-contracted c =
    sym (all_to-fails (test (goal.at.returns-then-load-contracted c).Start) (length c.args.loads.now) c.loop-b.b c.loop-b-test.true (exceeds (c.args.contracted.now at c.loop-b.b) (c.args.loads.now at c.loop-b.b) (sym (ap₂ lt_z (to_z-of_z {w = w64} {z = c.args.loads.now at c.loop-b.b} (search rules)) (to_z-of_z {w = w64} {z = c.args.contracted.now at c.loop-b.b} (search rules))) ∙ c.if-load-contracted.true)))

pub loop-b-preserved : goal.loop-b-preserved
loop-b-preserved c =
    all_to-next (test (goal.at.loop-b-preserved c).Start) c.loop-b.b c.loop-b.invariant (covers (c.args.contracted.now at c.loop-b.b) (c.args.loads.now at c.loop-b.b) (sym (ap₂ lt_z (to_z-of_z {w = w64} {z = c.args.loads.now at c.loop-b.b} (search rules)) (to_z-of_z {w = w64} {z = c.args.contracted.now at c.loop-b.b} (search rules))) ∙ c.if-load-contracted.false))
