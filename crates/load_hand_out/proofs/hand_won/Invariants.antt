use Rattle.load.proofs.Handed.{first_rest}
use Rattle.load.specs.Inside.{won_part}
use Rattle.load.specs.InsideTable.{AddedCells}
use lib.ListN.{length}
use mathlib.Core.Path.{◌≡◌}
use Rattle.load_hand_out.proofs.hand_won.Given as goal

abbrev pub invariant-loop-b : goal.invariant-loop-b
invariant-loop-b l = AddedCells l.n (first_rest (won_part l.auction.distributor l.auction.won.now l.auction.winners.now) l.n l.loads l.contracted l.b) l.initial.table l.table × (length l.made ≡ 64)
