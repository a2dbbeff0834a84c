use Rattle.std.proofs.Common.{◌≡◌, ℕ, ◌+◌, ◌-◌, ◌<◌, ◌≤◌, true, false, ltb, arith, ltb-false, ltb-true, lt-ltb, le-ltb}
use Rattle.split_units.specs.Inside.{by_fours, Counted}
use Rattle.split_units.specs.declared.Level.{Level}
use Rattle.split_units.proofs.Floors.{raised-low, raised, lowered-low, lowered}
use Rattle.split_units.proofs.nearer.Goals as goal
use Rattle.split_units.proofs.nearer.Goals.{After-nearest-step, Start}

module _ (c : After-nearest-step) where
  abbrev s : Start
  s = (goal.at.After-nearest-step c).Start

  abbrev at : Level
  at = s.args.at

  abbrev step : ℕ
  step = c.nearest-step.result

  enough : s.args.n ≤ by_fours s.args.n
  enough = omega arith

  -- too many keys are above the floor
  module _ (e : ltb s.args.units at.count ≡ true) where
    many : s.args.units < at.count
    many = ltb-true s.args.units at.count e

    up-low : at.floor + 1 + step < 17592186044416
    up-low = raised-low s.args.keys.now s.args.n s.requires.0 at s.requires.1 (by_fours s.args.n) enough _ step c.nearest-step.ensures e (omega (arith, many))

    up : Counted s.args.keys.now s.args.n (record { floor = at.floor + 1 + step; count = at.count - 1 })
    up = raised s.args.keys.now s.args.n s.requires.0 at s.requires.1 (by_fours s.args.n) enough _ step c.nearest-step.ensures e (omega (arith, many))

  -- too few are
  module _ (e : ltb s.args.units at.count ≡ false) where
    few : at.count < s.args.units
    few = less (ltb-false s.args.units at.count e) c.if-at-units.false
      where
        less : {x y : ℕ} → x ≤ y → (x ≡ y → ⊥) → x < y
        less h ne = omega arith

    down-low : step < at.floor
    down-low = lowered-low s.args.keys.now s.args.n s.requires.0 at s.requires.1 (by_fours s.args.n) enough _ step c.nearest-step.ensures e (omega (arith, few, s.requires.2))

    down : Counted s.args.keys.now s.args.n (record { floor = at.floor - step - 1; count = at.count + 1 })
    down = lowered s.args.keys.now s.args.n s.requires.0 at s.requires.1 (by_fours s.args.n) enough _ step c.nearest-step.ensures e (omega (arith, few, s.requires.2))

pub overflow_add-result-then-up : goal.overflow_add-result-then-up
overflow_add-result-then-up c = record { fits = omega (arith, up-low (goal.at.overflow_add-result-then-up c).After-nearest-step (lt-ltb _ _ c.if-up.true)) }

pub returns-then-up : goal.returns-then-up
returns-then-up c = record {
  counted = up (goal.at.returns-then-up c).After-nearest-step (lt-ltb _ _ c.if-up.true);
  units_value = omega (arith, many (goal.at.returns-then-up c).After-nearest-step (lt-ltb _ _ c.if-up.true));
}

pub overflow_sub-result-2 : goal.overflow_sub-result-2
overflow_sub-result-2 c = omega (arith, down-low (goal.at.overflow_sub-result-2 c).After-nearest-step (le-ltb _ _ c.if-up.false))

pub overflow_sub-result-3 : goal.overflow_sub-result-3
overflow_sub-result-3 c = omega (arith, down-low (goal.at.overflow_sub-result-3 c).After-nearest-step (le-ltb _ _ c.if-up.false))

pub returns : goal.returns
returns c = record {
  counted = down (goal.at.returns c).After-nearest-step (le-ltb _ _ c.if-up.false);
  units_value = omega (arith, few (goal.at.returns c).After-nearest-step (le-ltb _ _ c.if-up.false));
}
