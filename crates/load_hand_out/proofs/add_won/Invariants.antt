use lib.ListN.{get_or}
use mathlib.Core.List.{List}
use Rattle.load.specs.InsideTable.{Spread}
use Prim.Native.Nat.{ℕ, ◌+◌, ◌*◌}
use Rattle.load_hand_out.proofs.add_won.Given as goal

-- where part j is added
abbrev pub place : List ℕ → ℕ → ℕ → ℕ → ℕ
place winners n bus j = get_or winners j 0 * n + bus

abbrev pub invariant-loop-j : goal.invariant-loop-j
invariant-loop-j l = Spread l.initial.table (place l.winners l.n l.bus) l.parts l.j l.table
