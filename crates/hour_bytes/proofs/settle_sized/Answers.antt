use mathlib.Core.Path.{◌∙◌}
use native.Mathlib.Omega.{arith}
use lib.IntN.{pos}
use lib.ListN.{length-replicate}
use Rattle.hour_bytes.proofs.Fronts.{front, cleared}
use Rattle.hour_bytes.proofs.settle_sized.Goals as goal

pub whole_as_front-settle_into : goal.whole_as_front-settle_into
whole_as_front-settle_into g c = omega (arith, length-replicate g.row.N (pos 0))

pub whole_as_front-settle_into-2 : goal.whole_as_front-settle_into-2
whole_as_front-settle_into-2 g c = omega (arith, length-replicate g.row.N (pos 0))

pub whole_as_front-settle_into-3 : goal.whole_as_front-settle_into-3
whole_as_front-settle_into-3 g c = omega (arith, length-replicate g.row.N (pos 0))

pub whole_as_front-settle_into-4 : goal.whole_as_front-settle_into-4
whole_as_front-settle_into-4 g c = omega (arith, length-replicate g.row.N (pos 0))

pub settle_into-requires : goal.settle_into-requires
settle_into-requires g c = record {
  congestion_cents_len = (
    front g.row.N (omega arith) ∙ c.hourly_count-c.ensures.0,
    front g.row.N (omega arith) ∙ c.hourly_count-l.ensures.0,
    front g.row.N (omega arith) ∙ c.hourly_count-k.ensures.0,
    front g.row.N (omega arith) ∙ c.hourly_count-n.ensures.0,
  );
  cleared = cleared g.row.N c.hourly_count-c.result c.hourly_count-l.result c.hourly_count-k.result;
}
