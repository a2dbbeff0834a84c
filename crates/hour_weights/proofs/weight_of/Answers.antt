use mathlib.Core.Path.{◌≡◌, sym, ap, ◌∙◌, subst}
use mathlib.Core.List.{List}
use Prim.Native.Nat.{◌+◌}
use native.Mathlib.Omega.{arith}
use lib.IntN.{ℤ}
use lib.ListN.{length}
use Rattle.ints.specs.InsideRange.{Within}
use Rattle.ints.specs.Table.{◌at◌}
use Rattle.hour.proofs.Tested.{stage-below}
use Rattle.hour.specs.InsideParts.{weight_in}
use Rattle.hour_weights.proofs.Weights.{stage-length, stage_at, weight-range}
use Rattle.hour_weights.proofs.weight_of.Goals as goal
use Rattle.hour_weights.proofs.weight_of.Goals.{After-stage_prices, Start}

-- the weight, in its stage's stretch
module _ (p : After-stage_prices) where
  abbrev s : Start
  s = (goal.at.After-stage_prices p).Start

  abbrev stretch : List ℤ
  stretch = p.stage_prices.result.now

  long : length stretch ≡ s.args.locations
  long = ap length p.stage_prices.ensures.numbers ∙ stage-length s.args.locations s.args.table.now (s.args.market + s.args.interval) (stage-below s.requires.0) s.requires.2.long

  weight : stretch at s.args.location ≡ weight_in s.args.table.now s.args.locations s.args.market s.args.interval s.args.location
  weight = ap (λ (xs : List ℤ). xs at s.args.location) p.stage_prices.ensures.numbers ∙ stage_at s.args.locations s.args.table.now (s.args.market + s.args.interval) s.args.location s.requires.1

pub mills_at-requires : goal.mills_at-requires
mills_at-requires c = let a = s c in
    (omega (arith, long c, a.requires.1), subst (λ (z : ℤ). Within z 120000000) (sym (weight c)) (weight-range a.requires.2 a.args.market a.args.interval a.args.location))
