use Rattle.std.proofs.Common.{◌<◌, arith}
use Rattle.split_units.proofs.Floors.{counted-most, lower}
use Rattle.split_units.proofs.between.Goals as goal

pub on_the_way-floor-requires : goal.on_the_way-floor-requires
on_the_way-floor-requires c = let first = c.nearer-first in
    let last = c.nearer-last in
    let many : c.args.units < first.result.count = c.if-first-units.false in
    let few : last.result.count < c.args.units = c.if-units-last.false in record {
      low_le_high = (omega (arith, lower c.args.keys.now c.args.n first.result last.result first.ensures.counted last.ensures.counted (omega (arith, many, few))), last.ensures.counted.low);
      part_le_whole = (omega (arith, few), omega (arith, many, few), omega (arith, counted-most c.args.keys.now c.args.n first.result first.ensures.counted, c.requires.0.few));
    }
