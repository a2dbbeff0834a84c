use mathlib.Core.Path.{sym, subst}
use native.Mathlib.Omega.{arith}
use lib.IntN.{pos}
use lib.ListN.{length, length-replicate}
use Rattle.load_bytes.specs.Inside.{Readable}
use Rattle.load_bytes.proofs.Lists.{ready}
use Rattle.load_bytes.proofs.assign_sized.Goals as goal

pub whole_as_slice-assign_read : goal.whole_as_slice-assign_read
whole_as_slice-assign_read g c = omega arith

pub whole_as_front-assign_read : goal.whole_as_front-assign_read
whole_as_front-assign_read g c = (c.requires.room.1, omega arith)

pub assign_read-requires : goal.assign_read-requires
assign_read-requires g c = (subst (Readable c.args.given) (sym (length-replicate g.row.LISTS (pos 0))) c.requires.readable, ready (length c.args.out.now) g.row.RESULT c.requires.room.0 c.requires.room.1)
