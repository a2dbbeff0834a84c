use Rattle.load.specs.Load.{kw}
use Rattle.ints.specs.Number.{between}
use Rattle.ints.specs.Each.{all_to}
use lib.IntN.{pos}
use mathlib.Core.Bool.{true}
use mathlib.Core.Path.{◌≡◌}
use Prim.Native.Nat.{ℕ}
use Rattle.load_refusals.proofs.kw_between.Given as goal

abbrev pub invariant-loop-j : goal.invariant-loop-j
invariant-loop-j l = all_to (λ (k : ℕ). between (pos 0) (pos 20000000) (kw l.contracts k)) l.j ≡ true
