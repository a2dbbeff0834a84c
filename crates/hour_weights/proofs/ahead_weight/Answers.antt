use mathlib.Core.Path.{◌≡◌, sym, ap, ap₂, ◌∙◌, subst}
use mathlib.Core.List.{List}
use Prim.Native.Nat.{ℕ, ◌+◌, ◌*◌, ◌≤◌, ◌<◌}
use native.Mathlib.Nat.{zero-mul}
use native.Mathlib.Omega.{arith}
use lib.Dec.{lit≤}
use lib.IntN.{ℤ, ◌-ℤ◌}
use lib.ListN.{length}
use mir.Syntax.{w64}
use mir.Val.{SFits, to_z, of_z}
use mir.Facts.{to_z-of_z}
use Rattle.ints.specs.InsideRange.{Within}
use Rattle.ints.specs.Table.{◌at◌}
use Rattle.ints.proofs.Sizes.{w-up, w_fits, w-read}
use Rattle.units.specs.Inside.{whole_hour}
use Rattle.hour.specs.Charges.{C}
use Rattle.hour.specs.Hour.{Prices}
use Rattle.hour.specs.InsideParts.{listed_prices}
use Rattle.hour.proofs.Weighed.{ahead-at, real-at}
use Rattle.hour_weights.proofs.Weights.{sofar, sofar-none, sofar-next, sofar-all, sofar-range, stage-length, stage_at}
use Rattle.hour_weights.proofs.ahead_weight.Goals as goal
use Rattle.hour_weights.proofs.ahead_weight.Goals.{After-stage_prices, After-struct_told-in-loop-k-1, At-loop-k, Start}

-- what is read
module _ (s : Start) where
  abbrev prices : Prices
  prices = listed_prices s.args.locations s.args.list.now

  price : (k : ℕ) → k < 13 → Within (s.args.list.now at (k * s.args.locations + s.args.l)) 120000000
  price k m = w-up (s.requires.each k m) (lit≤ tt)

  first : Within (s.args.list.now at s.args.l) 5000000
  first = let e : 0 * s.args.locations + s.args.l ≡ s.args.l = omega (arith, zero-mul s.args.locations) in
      subst (λ (i : ℕ). Within (s.args.list.now at i) 5000000) e (s.requires.each 0 (omega arith))

-- an interval's price, in its own stretch
module _ (p : After-stage_prices) where
  abbrev at-loop : At-loop-k
  at-loop = (goal.at.After-stage_prices p).At-loop-k

  abbrev asked : Start
  asked = (goal.at.After-stage_prices p).Start

  abbrev stretch : List ℤ
  stretch = p.stage_prices.result.now

  in-hour : at-loop.loop-k.k + 1 < 13
  in-hour = omega (arith, p.loop-k-test.true)

  long : length stretch ≡ asked.args.locations
  long = ap length p.stage_prices.ensures.numbers ∙ stage-length asked.args.locations asked.args.list.now (at-loop.loop-k.k + 1) in-hour asked.requires.long

  stands : stretch at asked.args.l ≡ asked.args.list.now at ((at-loop.loop-k.k + 1) * asked.args.locations + asked.args.l)
  stands = ap (λ (xs : List ℤ). xs at asked.args.l) p.stage_prices.ensures.numbers ∙ stage_at asked.args.locations asked.args.list.now (at-loop.loop-k.k + 1) asked.args.l asked.requires.there

  small : Within (stretch at asked.args.l) 120000000
  small = subst (λ (z : ℤ). Within z 120000000) (sym stands) (price asked (at-loop.loop-k.k + 1) in-hour)

-- one interval more
module _ (c : After-struct_told-in-loop-k-1) where
  abbrev read : After-stage_prices
  read = (goal.at.After-struct_told-in-loop-k-1 c).After-stage_prices

  abbrev head : At-loop-k
  head = at-loop read

  abbrev given : Start
  given = asked read

  taken : to_z w64 (of_z w64 c.mills_at-weight.result.0) ≡ C (prices given) head.loop-k.k given.args.l
  taken =
      ap (λ (z : ℤ). to_z w64 (of_z w64 z)) c.mills_at-weight.ensures ∙ w-read (small read) tt
      ∙ stands read ∙ real-at given.args.locations given.args.list.now head.loop-k.k given.args.l given.requires.there

  less : to_z w64 head.loop-k.weight-bits -ℤ to_z w64 (of_z w64 c.mills_at-weight.result.0) ≡ sofar (prices given) (head.loop-k.k + 1) given.args.l
  less = ap₂ ◌-ℤ◌ head.loop-k.invariant taken ∙ sofar-next (prices given) given.args.l head.loop-k.k

  later : head.loop-k.k + 1 ≤ 12
  later = omega (arith, in-hour read)

  fits : SFits w64 (sofar (prices given) (head.loop-k.k + 1) given.args.l)
  fits = w_fits (sofar-range given.requires (head.loop-k.k + 1) later) tt

pub loop-k-init : goal.loop-k-init
loop-k-init c = let value = c.whole_hour-weight.ensures ∙ ap whole_hour (c.mills_at.ensures ∙ ahead-at c.args.locations c.args.list.now c.args.l c.requires.there) ∙ sofar-none (prices (goal.at.loop-k-init c).Start) c.args.l in
    ap (λ (z : ℤ). to_z w64 (of_z w64 z)) value ∙ w-read (sofar-range c.requires 0 (omega arith)) tt

pub mills_at-weight-requires : goal.mills_at-weight-requires
mills_at-weight-requires c = (omega (arith, long c, (asked c).requires.there), small c)

pub overflow_sub-weight : goal.overflow_sub-weight
overflow_sub-weight c = rw (less c) (fits c)

pub loop-k-preserved : goal.loop-k-preserved
loop-k-preserved c = ap (λ (z : ℤ). to_z w64 (of_z w64 z)) (less c) ∙ to_z-of_z (fits c)

pub returns : goal.returns
returns c = let e : c.loop-k.k ≡ 12 = omega arith in
    c.loop-k.invariant ∙ ap (λ (k : ℕ). sofar (prices (goal.at.returns c).Start) k c.args.l) e ∙ sofar-all (prices (goal.at.returns c).Start) c.args.l
