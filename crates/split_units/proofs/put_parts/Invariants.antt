use Rattle.std.proofs.Common.{ℕ, ◌+◌, ltb, get_or, pos}
use Rattle.ints.specs.Number.{signed}
use Rattle.ints.specs.Sum.{one}
use Rattle.ints.proofs.Tables.{InPlace}
use Rattle.split.specs.Split.{share}
use Rattle.split_units.proofs.put_parts.Given as goal

abbrev pub invariant-loop-i : goal.invariant-loop-i
invariant-loop-i l = InPlace (pos 0) (λ (k : ℕ). signed l.neg (share l.initial.parts k + one (ltb l.floor (get_or l.keys k 0)))) l.initial.parts l.i l.parts
