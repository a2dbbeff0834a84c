use Rattle.load.proofs.Handed.{rests-next, rests-small, won-within}
use Rattle.load.specs.Inside.{Ranged, won_part}
use Rattle.load.specs.InsideTable.{AddedCells}
use Rattle.ints.proofs.Sizes.{w_fits}
use Rattle.ints.specs.Table.{◌at◌}
use Rattle.ints.specs.Sum.{only}
use mir.Facts.{to_z-of_z}
use mir.Val.{SFits, to_z, of_z}
use mir.Syntax.{w64}
use lib.IntN.{ℤ, ◌-ℤ◌}
use lib.Dec.{eqb}
use lib.ListN.{length}
use Prim.Native.Nat.{ℕ}
use mathlib.Core.Path.{◌≡◌, sym, ap, ap₂, ◌∙◌, subst}
use borrow.Author.Rules.{sfits_of}
use Rattle.load_hand_out.proofs.hand_won.Goals as goal
use Rattle.load_hand_out.proofs.hand_won.Goals.{After-remaining-in-loop-b-1, At-loop-b, Start}

abbrev start : At-loop-b → Start
start l = (goal.at.At-loop-b l).Start

-- what participant p gets of what remains at a bus
abbrev give : Start → ℤ → ℕ → ℤ
give s = won_part s.args.auction.distributor s.args.auction.won.now s.args.auction.winners.now

-- what remains at a bus, as it is read
module _ (c : After-remaining-in-loop-b-1) where
  abbrev l : At-loop-b
  l = (goal.at.After-remaining-in-loop-b-1 c).At-loop-b

  abbrev left : ℤ
  left = (start l).args.loads.now at l.loop-b.b -ℤ (start l).args.contracted.now at l.loop-b.b

  abbrev read : ℤ
  read = to_z w64 (of_z w64 ((start l).args.loads.now at l.loop-b.b)) -ℤ to_z w64 (of_z w64 ((start l).args.contracted.now at l.loop-b.b))

  difference : read ≡ left
  difference = ap₂ ◌-ℤ◌ (to_z-of_z {w = w64} {z = (start l).args.loads.now at l.loop-b.b} (sfits_of c.remaining-1.given)) (to_z-of_z {w = w64} {z = (start l).args.contracted.now at l.loop-b.b} (sfits_of c.remaining-in-loop-b-1.given))

  fits : SFits w64 left
  fits = w_fits {k = 20000000} (record { within = ((start l).requires.won.2.each l.loop-b.b c.loop-b-test.true).small }) tt

  remaining : to_z w64 (of_z w64 read) ≡ left
  remaining = ap (λ (z : ℤ). to_z w64 (of_z w64 z)) difference ∙ to_z-of_z fits

pub hand_rest-requires : goal.hand_rest-requires
hand_rest-requires c = let s = start (goal.at.hand_rest-requires c).At-loop-b in record {
  won = (s.requires.won.0, s.requires.won.1, c.loop-b.invariant.1);
  ranged = (
    subst Ranged (sym (remaining (goal.at.hand_rest-requires c).After-remaining-in-loop-b-1)) (s.requires.won.2.each c.loop-b.b c.loop-b-test.true),
    c.loop-b-test.true,
    s.requires.n_bound.0,
    c.loop-b.invariant.0.same ∙ s.requires.n_bound.1,
    rests-small (give (goal.at.hand_rest-requires c).Start) s.args.n s.args.loads.now s.args.contracted.now c.loop-b.b (λ z p g. won-within s.args.auction.distributor s.args.auction.won.now s.args.auction.winners.now z p s.requires.won.0 g) s.requires.won.2 s.requires.n_bound.2 c.loop-b.invariant.0,
  );
}

pub loop-b-preserved : goal.loop-b-preserved
loop-b-preserved c = let s = start (goal.at.loop-b-preserved c).At-loop-b in (
  rests-next (give (goal.at.loop-b-preserved c).Start) s.args.n s.args.loads.now s.args.contracted.now c.loop-b.b c.loop-b.invariant.0
      (subst (λ (z : ℤ). AddedCells s.args.n (λ p b. only (eqb c.loop-b.b b) (give (goal.at.loop-b-preserved c).Start z p)) c.loop-b.table c.hand_rest.new.table) (remaining (goal.at.loop-b-preserved c).After-remaining-in-loop-b-1) c.hand_rest.ensures),
  c.hand_rest.auto.made ∙ c.loop-b.invariant.1,
)
