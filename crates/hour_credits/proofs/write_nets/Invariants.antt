use mathlib.Core.Path.{◌≡◌}
use lib.ListN.{take}
use Rattle.ints.specs.Table.{tab}
use Rattle.hour.specs.InsideTotals.{net_at}
use Rattle.hour_credits.proofs.write_nets.Given as goal

abbrev pub invariant-loop-i : goal.invariant-loop-i
invariant-loop-i l = take l.i l.net ≡ tab (net_at l.congestion_charges l.loss_charges l.credit) l.i
