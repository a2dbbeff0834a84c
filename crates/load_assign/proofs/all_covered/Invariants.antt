use Rattle.ints.specs.Table.{◌at◌}
use Rattle.ints.specs.Each.{all_to}
use lib.Signed.{le_z}
use mathlib.Core.Bool.{true}
use mathlib.Core.Path.{◌≡◌}
use Prim.Native.Nat.{ℕ}
use Rattle.load_assign.proofs.all_covered.Given as goal

abbrev pub invariant-loop-b : goal.invariant-loop-b
invariant-loop-b l = all_to (λ (k : ℕ). le_z (l.contracted at k) (l.loads at k)) l.b ≡ true
