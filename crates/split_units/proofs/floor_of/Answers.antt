use Rattle.split_units.proofs.Floors.{floor-found}
use Rattle.split_units.proofs.floor_of.Goals as goal

pub returns : goal.returns
returns c = let a = c.args in
    floor-found a.keys.now a.n a.units c.loop-at.at c.loop-at.invariant c.loop-at-test.false
