use Rattle.load.specs.Load.{parts_of}
use Rattle.split.specs.Split.{total}
use Rattle.ints.specs.Each.{all_to}
use lib.Dec.{eqb}
use mathlib.Core.Bool.{true}
use mathlib.Core.Path.{◌≡◌}
use Prim.Native.Nat.{ℕ}
use Rattle.load_refusals.proofs.all_total_million.Given as goal

abbrev pub invariant-loop-a : goal.invariant-loop-a
invariant-loop-a l = all_to (λ (k : ℕ). eqb (total (parts_of l.n l.area_parts k)) 1000000) l.a ≡ true
