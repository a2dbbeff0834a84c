use mathlib.Core.Path.{sym, subst}
use Prim.Native.Nat.{◌≤◌}
use native.Mathlib.Omega.{arith}
use Rattle.exercise.specs.declared.Places.{Places}
use Rattle.exercise.proofs.Causes.{end-small}
use Rattle.exercise_cause.proofs.header_cause.Goals as goal

pub tested-requires-4 : goal.tested-requires-4
tested-requires-4 c = let h : c.places_of-end.result.end ≤ 9223372036854775807 = subst (λ (p : Places). p.end ≤ 9223372036854775807) (sym c.places_of-end.ensures) (end-small _ c.requires) in (omega arith, h)
