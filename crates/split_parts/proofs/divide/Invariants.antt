use mathlib.Core.Path.{◌≡◌}
use Prim.Native.Nat.{ℕ, ◌-◌}
use lib.IntN.{pos}
use Rattle.ints.specs.Sum.{sum_nat}
use Rattle.ints.proofs.Tables.{InPlace}
use Rattle.split.specs.Split.{cut_down, remainder}
use Rattle.split_parts.specs.Inside.{key_of}
use Rattle.split_parts.proofs.divide.Given as goal

abbrev pub invariant-loop-i : goal.invariant-loop-i
invariant-loop-i l = (l.left ≡ l.size - sum_nat (cut_down l.size l.initial.parts) l.i) × InPlace (pos 0) (λ (k : ℕ). pos (cut_down l.size l.initial.parts k)) l.initial.parts l.i l.parts × InPlace 0 (key_of (remainder l.size l.initial.parts)) l.initial.keys l.i l.keys
