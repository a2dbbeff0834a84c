use Rattle.std.proofs.Common.{min, ◌∙◌, ap₂, rules}
use Rattle.split_units.proofs.Floors.{least-none, least-four}
use Rattle.split_units.proofs.nearest.Goals as goal
use Rattle.split_units.proofs.nearest.Invariants.{far}

pub loop-j-init : goal.loop-j-init
loop-j-init c = (search rules, search rules, least-none (far c.args.up c.args.floor c.args.keys.now))

pub loop-j-preserved : goal.loop-j-preserved
loop-j-preserved c = let a = c.args in (
  search rules,
  search rules,
  ap₂ min (ap₂ min c.closer-a.ensures c.closer-b.ensures) (ap₂ min c.closer-c.ensures c.closer-d.ensures)
      ∙ least-four (far a.up a.floor a.keys.now) c.loop-j.j c.loop-j.a c.loop-j.b c.loop-j.c c.loop-j.d c.loop-j.invariant.2,
)
