use mathlib.Core.Path.{◌≡◌, sym, ap, ◌∙◌, subst}
use mathlib.Core.List.{◌++◌}
use Prim.Native.Nat.{ℕ}
use native.Mathlib.Omega.{arith}
use lib.IntN.{ℤ}
use lib.ListN.{drop}
use Rattle.ints.specs.InsideRange.{Within}
use Rattle.ints.specs.Table.{tab}
use Rattle.ints.proofs.Tables.{place-start, place-next, place-front}
use Rattle.hour.specs.InsideParts.{ahead_weight, listed_prices}
use Rattle.hour_weights.proofs.Weights.{column, next-weight, sofar-range, sofar-all}
use Rattle.hour_weights.proofs.weigh.Goals as goal

pub loop-l-init : goal.loop-l-init
loop-l-init c = place-start _ _ _

pub put-requires : goal.put-requires
put-requires c = let k = column c.requires c.loop-l-test.true c.loop-l.invariant in
    (omega (arith, k.long, k.there, c.requires.few), subst (λ (z : ℤ). Within z 120000000) (sofar-all (listed_prices c.args.locations c.loop-l.list) c.loop-l.l ∙ sym c.ahead_weight-weight.ensures) (sofar-range k 12 (omega arith)))

pub loop-l-preserved : goal.loop-l-preserved
loop-l-preserved c = place-next _ _ _ _ _ _ _ c.loop-l.invariant (omega (arith, c.loop-l-test.true, c.requires.long)) (c.ahead_weight-weight.ensures ∙ next-weight c.requires c.loop-l-test.true c.loop-l.invariant) c.put.ensures

pub returns : goal.returns
returns c = let e : c.loop-l.l ≡ c.args.locations = omega arith in
    place-front _ _ _ _ _ c.loop-l.invariant ∙ ap (λ (l : ℕ). tab (ahead_weight (listed_prices c.args.locations c.args.list.now)) l ++ drop l c.args.list.now) e
