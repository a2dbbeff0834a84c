use Rattle.load.proofs.Handed.{splits-over, won-stays, won-shared}
use Rattle.load.proofs.Tables.{rows_fit, cell-added, column-added, column-room, added-same}
use Rattle.load.proofs.Splits.{parts-range}
use Rattle.split.proofs.Laws.{length-parts}
use Rattle.split.specs.Split.{parts}
use Rattle.load.specs.Inside.{Splittable}
use Rattle.load.specs.InsideTable.{FrontWithin, AddedCells}
use Rattle.ints.proofs.Sums.{sum_to-ext}
use Rattle.ints.specs.Sum.{sum_to, only}
use Rattle.ints.specs.Table.{◌at◌}
use mir.Facts.{to_z-of_z}
use mir.Val.{to_z, of_z}
use mir.Syntax.{w64}
use lib.IntN.{ℤ}
use lib.ListN.{length, get_or}
use lib.Dec.{eqb}
use lib.Seq.{length-take-le}
use native.Mathlib.Omega.{arith}
use Prim.Native.Nat.{ℕ, ◌+◌, ◌*◌, ◌<◌}
use mathlib.Core.List.{List}
use mathlib.Core.Path.{◌≡◌, sym, ap, ◌∙◌, subst}
use Rattle.load_hand_out.proofs.hand_rest.Goals as goal
use Rattle.load_hand_out.proofs.hand_rest.Goals.{After-portion, Else-auction-eq0, Start}

-- ---- with no tranche
in_table : (s : Start) → s.args.auction.distributor * s.args.n + s.args.bus < 64 * s.args.n
in_table s = rows_fit s.args.n s.args.auction.distributor s.args.bus s.requires.won.0.distributed s.requires.ranged.1

-- ---- with tranches
splits : (e : Else-auction-eq0) → Splittable e.args.remaining e.args.auction.won.now
splits e = splits-over e.requires.won.0.tested e.requires.ranged.0 (λ z. e.if-auction-eq0.false (e.requires.won.1 ∙ z))

module _ (x : After-portion) where
  abbrev s : Start
  s = (goal.at.After-portion x).Start

  -- who gets part j
  abbrev row : ℕ → ℕ
  row j = get_or s.args.auction.winners.now j 0

  named : (j : ℕ) → j < length s.args.auction.winners.now → row j < 64
  named j l = s.requires.won.0.named j (omega (arith, s.requires.won.0.beside))

  abbrev made : List ℤ
  made = x.portion.new.made

  made-is : made ≡ parts s.args.remaining s.args.auction.won.now
  made-is = x.portion.ensures ∙ ap (λ (z : ℤ). parts z s.args.auction.won.now) (to_z-of_z s.ranges.remaining)

  long : length made ≡ length s.args.auction.won.now
  long = ap length made-is ∙ length-parts s.args.remaining s.args.auction.won.now

  range : FrontWithin made (length s.args.auction.winners.now) 1000000000000
  range = subst (λ (n : ℕ). FrontWithin made n 1000000000000) (sym s.requires.won.0.beside) (subst (λ (list : List ℤ). FrontWithin list (length s.args.auction.won.now) 1000000000000) (sym made-is) (parts-range (splits (goal.at.After-portion x).Else-auction-eq0)))

pub returns-then-auction-eq0 : goal.returns-then-auction-eq0
returns-then-auction-eq0 c = added-same _
    (subst (AddedCells c.args.n (λ p b. only (eqb c.args.bus b) (only (eqb c.args.auction.distributor p) (to_z w64 (of_z w64 c.args.remaining)))) c.args.table.now) (sym c.add_at.ensures)
    (cell-added c.args.n c.args.auction.distributor c.args.bus (to_z w64 (of_z w64 c.args.remaining)) c.requires.won.0.distributed c.requires.ranged.1 (omega (arith, in_table (goal.at.returns-then-auction-eq0 c).Start, c.requires.ranged.3))))
    (λ p b _ _. ap (only (eqb c.args.bus b)) (ap (only (eqb c.args.auction.distributor p)) (to_z-of_z c.ranges.remaining) ∙ sym (won-stays c.args.auction.distributor c.args.auction.won.now c.args.auction.winners.now c.args.remaining p (sym c.requires.won.1 ∙ c.if-auction-eq0.true))))

pub portion-requires : goal.portion-requires
portion-requires c = record {
  splittable = (subst (λ (z : ℤ). Splittable z c.args.auction.won.now) (sym (to_z-of_z c.ranges.remaining)) (splits (goal.at.portion-requires c).Else-auction-eq0), c.requires.won.1);
  made_len = length-take-le (length c.args.auction.won.now) c.args.made.now (omega (arith, c.requires.won.0.tested.few, c.requires.won.2));
}

pub add_won-requires : goal.add_won-requires
add_won-requires c = let t = s (goal.at.add_won-requires c).After-portion in
    column-room t.args.n t.requires.ranged.2 t.requires.ranged.4 t.args.bus t.requires.ranged.1 t.requires.ranged.3 (row (goal.at.add_won-requires c).After-portion) (length t.args.auction.winners.now) (omega (arith, t.requires.won.0.tested.few, t.requires.won.0.beside)) (named (goal.at.add_won-requires c).After-portion) (omega (arith, long (goal.at.add_won-requires c).After-portion, t.requires.won.0.beside)) (range (goal.at.add_won-requires c).After-portion)

pub returns : goal.returns
returns c = let t = s (goal.at.returns c).After-portion in
    added-same _ (column-added t.args.n t.args.bus t.requires.ranged.1 (row (goal.at.returns c).After-portion) (length t.args.auction.winners.now) (named (goal.at.returns c).After-portion) c.add_won.ensures)
    (λ p b _ _. ap (only (eqb t.args.bus b))
    (ap (sum_to (λ j. only (eqb (row (goal.at.returns c).After-portion j) p) (made (goal.at.returns c).After-portion at j))) t.requires.won.0.beside ∙ sum_to-ext _ _ (length t.args.auction.won.now) (λ j _. ap (λ (list : List ℤ). only (eqb (row (goal.at.returns c).After-portion j) p) (list at j)) (made-is (goal.at.returns c).After-portion))
    ∙ sym (won-shared t.args.auction.distributor t.args.auction.won.now t.args.auction.winners.now t.args.remaining p (λ z. c.if-auction-eq0.false (t.requires.won.1 ∙ z)))))
