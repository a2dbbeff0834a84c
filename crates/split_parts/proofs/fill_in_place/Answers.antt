use mathlib.Core.Path.{◌≡◌, sym, ◌∙◌, subst}
use mathlib.Core.List.{List}
use Prim.Native.Nat.{ℕ, ◌<◌}
use native.Mathlib.Omega.{arith}
use lib.IntN.{ℤ}
use lib.ListN.{length}
use Rattle.split.proofs.Laws.{left-most, total-most}
use Rattle.split_units.specs.Inside.{Keys}
use Rattle.split_parts.proofs.Parts.{with-total, some, someone, cuts-length, cuts-tested, keys-ranged, parts-made, zeros-made}
use Rattle.split_parts.proofs.fill_in_place.Goals as goal
use Rattle.split_parts.proofs.fill_in_place.Goals.{After-divide-units, Start}

-- where the size is divided: the arguments, and what the two lists then hold
module _ (d : After-divide-units) where
  abbrev s : Start
  s = (goal.at.After-divide-units d).Start

  abbrev shares : List ℤ
  shares = s.args.parts.now

  abbrev cuts : List ℤ
  cuts = d.divide-units.new.parts

  abbrev keys : List ℕ
  keys = d.divide-units.new.keys

  positive : 0 < s.args.total
  positive = with-total s.args.size shares s.args.total s.requires d.if-size-eq0.false

  long : length cuts ≡ length shares
  long = cuts-length s.args.size shares s.args.total s.requires positive cuts d.divide-units.ensures.parts_after

pub returns-then-size-eq0 : goal.returns-then-size-eq0
returns-then-size-eq0 c = c.clear.ensures ∙ zeros-made c.args.size c.args.parts.now c.args.neg c.if-size-eq0.true

pub give_units-requires : goal.give_units-requires
give_units-requires c = let a = (s (goal.at.give_units-requires c).After-divide-units).args in
    let given = (s (goal.at.give_units-requires c).After-divide-units).requires in
    let total = some a.size (shares (goal.at.give_units-requires c).After-divide-units) a.total given (positive (goal.at.give_units-requires c).After-divide-units) in
    let e = c.divide-units.ensures in record {
      shares = (
        cuts-tested a.size (shares (goal.at.give_units-requires c).After-divide-units) a.total given (positive (goal.at.give_units-requires c).After-divide-units) (cuts (goal.at.give_units-requires c).After-divide-units) e.parts_after,
        subst (Keys (keys (goal.at.give_units-requires c).After-divide-units)) (sym (long (goal.at.give_units-requires c).After-divide-units)) (keys-ranged a.size (shares (goal.at.give_units-requires c).After-divide-units) a.total given (positive (goal.at.give_units-requires c).After-divide-units) (cuts (goal.at.give_units-requires c).After-divide-units) e.parts_after (keys (goal.at.give_units-requires c).After-divide-units) e.keyed),
      );
      units_in_bounds = (
        omega (arith, e.value, long (goal.at.give_units-requires c).After-divide-units, left-most a.size (shares (goal.at.give_units-requires c).After-divide-units) total),
        omega (arith, long (goal.at.give_units-requires c).After-divide-units, someone a.size (shares (goal.at.give_units-requires c).After-divide-units) a.total given (positive (goal.at.give_units-requires c).After-divide-units)),
        omega (arith, given.is, total-most (shares (goal.at.give_units-requires c).After-divide-units) given.tested),
      );
    }

pub returns : goal.returns
returns c = let a = (s (goal.at.returns c).After-divide-units).args in
    c.give_units.ensures ∙ rw (long (goal.at.returns c).After-divide-units) (parts-made a.size (shares (goal.at.returns c).After-divide-units) a.total (s (goal.at.returns c).After-divide-units).requires (positive (goal.at.returns c).After-divide-units) (cuts (goal.at.returns c).After-divide-units) c.divide-units.ensures.parts_after (keys (goal.at.returns c).After-divide-units) c.divide-units.ensures.keyed a.neg c.divide-units.result c.divide-units.ensures.value)
