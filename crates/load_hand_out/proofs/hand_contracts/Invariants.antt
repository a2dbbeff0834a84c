use Rattle.load.proofs.Handed.{first_load, first_all}
use Rattle.load.specs.InsideTable.{AddedCells}
use lib.ListN.{length}
use mathlib.Core.Path.{◌≡◌}
use Rattle.load_hand_out.proofs.hand_contracts.Given as goal

abbrev pub invariant-loop-j : goal.invariant-loop-j
invariant-loop-j l = AddedCells l.n (first_load l.n l.area_parts l.contracts l.j) l.initial.table l.table × AddedCells l.n (first_all l.n l.area_parts l.contracts l.j) l.initial.contracted l.contracted × (length l.made ≡ 64)
