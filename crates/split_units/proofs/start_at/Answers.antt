use Rattle.std.proofs.Common.{arith, rules}
use Rattle.split_units.proofs.Floors.{counted-most, top, bottom}
use Rattle.split_units.proofs.start_at.Goals as goal

pub is_near-requires : goal.is_near-requires
is_near-requires c = (omega (arith, counted-most c.args.keys.now c.args.n c.level_at-half.result c.level_at-half.ensures, c.requires.0.few), search rules)

pub is_near-requires-2 : goal.is_near-requires-2
is_near-requires-2 c = (omega (arith, counted-most c.args.keys.now c.args.n c.level_at-mean.result c.level_at-mean.ensures, c.requires.0.few), search rules)

pub between-requires : goal.between-requires
between-requires c = (c.requires.0, c.level_at-mean.ensures, top c.args.keys.now c.args.n c.requires.0, c.requires.1)

pub between-requires-2 : goal.between-requires-2
between-requires-2 c = (c.requires.0, bottom c.args.keys.now c.args.n c.requires.0, c.level_at-mean.ensures, c.requires.1)
