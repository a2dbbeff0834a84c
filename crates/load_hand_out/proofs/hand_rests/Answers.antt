use Rattle.load.proofs.Tables.{added-same}
use Rattle.load.proofs.Tranches.{packed-front, won-is}
use Rattle.load.specs.Inside.{Packed}
use Rattle.ints.specs.Table.{◌at◌}
use lib.IntN.{ℤ, ◌-ℤ◌}
use lib.ListN.{length, take}
use lib.Seq.{length-take-le}
use native.Mathlib.Omega.{arith}
use Prim.Native.Nat.{ℕ}
use mathlib.Core.List.{List}
use mathlib.Core.Path.{◌≡◌, sym, ◌∙◌, subst}
use Rattle.load_hand_out.proofs.hand_rests.Goals as goal
use Rattle.load_hand_out.proofs.hand_rests.Goals.{After-pack-m, Start}

-- the tranches that were packed, as they are handed on
module _ (k : After-pack-m) where
  abbrev start : Start
  start = (goal.at.After-pack-m k).Start

  abbrev m : ℕ
  m = k.pack-m.result

  abbrev won : List ℤ
  won = take m k.pack-m.new.won

  abbrev winners : List ℕ
  winners = take m k.pack-m.new.winners

  won-long : length won ≡ m
  won-long = length-take-le m k.pack-m.new.won (omega (arith, k.pack-m.ensures.few, k.pack-m.auto.won))

  winners-long : length winners ≡ m
  winners-long = length-take-le m k.pack-m.new.winners (omega (arith, k.pack-m.ensures.few, k.pack-m.auto.winners))

  packed : Packed start.args.tranches.now 64 won winners (length won)
  packed = subst (Packed start.args.tranches.now 64 won winners) (sym won-long) (packed-front k.pack-m.ensures)

  beside : length winners ≡ length won
  beside = winners-long ∙ sym won-long

pub returns : goal.returns
returns c = let s = start (goal.at.returns c).After-pack-m in
    added-same _ c.hand_won.ensures (λ p b u l. won-is s.requires.auction.0 (packed (goal.at.returns c).After-pack-m) (beside (goal.at.returns c).After-pack-m) (s.args.loads.now at b -ℤ s.args.contracted.now at b) (s.requires.auction.1.each b l) p u)
