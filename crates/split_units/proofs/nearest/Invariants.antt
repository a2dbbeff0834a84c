use Rattle.std.proofs.Common.{◌≡◌, ℕ, ◌+◌, ◌-◌, ◌%◌, ◌<◌, min, Bool, List, get_or}
use Rattle.split_units.specs.Inside.{distance, least}
use Rattle.split_units.proofs.nearest.Given as goal

-- how far key i lies from the floor
abbrev pub far : Bool → ℕ → List ℕ → ℕ → ℕ
far up floor keys i = distance up floor (get_or keys i 0)

abbrev pub invariant-loop-j : goal.invariant-loop-j
invariant-loop-j l = (l.j < l.n + 4) × (l.j % 4 ≡ 0) × (min (min l.a l.b) (min l.c l.d) ≡ least (far l.up l.floor l.keys) l.j)

abbrev pub decreases-loop-j : goal.decreases-loop-j
decreases-loop-j l = l.n - l.j
