use Rattle.load.proofs.Tables.{row-added, row_room, added-same}
use Rattle.load.proofs.Splits.{parts-range}
use Rattle.load.specs.Inside.{Splittable}
use Rattle.load.specs.InsideTable.{FrontWithin, Room, Spread, AddedCells}
use Rattle.split.proofs.Accepted.{accepted}
use Rattle.split.proofs.Laws.{length-parts}
use Rattle.split.specs.Split.{parts}
use Rattle.ints.specs.Table.{◌at◌}
use Rattle.ints.proofs.Ranges.{room}
use Rattle.ints.specs.Sum.{only}
use mir.Facts.{to_z-of_z}
use lib.ListN.{length}
use lib.Seq.{length-take-le}
use lib.IntN.{ℤ}
use lib.Dec.{eqb}
use native.Mathlib.Omega.{arith}
use native.Mathlib.Nat.{zero-mul}
use Prim.Native.Nat.{ℕ, ◌+◌, ◌*◌, ◌≤◌, ◌<◌}
use mathlib.Core.List.{List}
use mathlib.Core.Path.{◌≡◌, sym, ap, ◌∙◌, subst}
use Rattle.load_hand_out.proofs.hand_parts.Goals as goal
use Rattle.load_hand_out.proofs.hand_parts.Goals.{After-portion, Start}

abbrev n : Start → ℕ
n s = length s.args.shares.now

few : (s : Start) → n s ≤ 64
few s = (accepted s.args.kw s.args.shares.now (n s) s.requires.splittable.0.accepted).tested.few

-- the parts as they are made, and added along a row
module _ (x : After-portion) where
  abbrev s : Start
  s = (goal.at.After-portion x).Start

  abbrev made : List ℤ
  made = x.portion.new.made

  made-is : made ≡ parts s.args.kw s.args.shares.now
  made-is = x.portion.ensures ∙ ap (λ (z : ℤ). parts z s.args.shares.now) (to_z-of_z s.ranges.kw)

  long : length made ≡ n s
  long = ap length made-is ∙ length-parts s.args.kw s.args.shares.now

  small : FrontWithin made (n s) 1000000000000
  small = subst (λ (list : List ℤ). FrontWithin list (n s) 1000000000000) (sym made-is) (parts-range s.requires.splittable.0)

  given : (q : ℕ) {before after : List ℤ} → q < 64 → Spread before (λ i. q * n s + i) made (length made) after → AddedCells (n s) (λ p b. only (eqb q p) (parts s.args.kw s.args.shares.now at b)) before after
  given q {before} {after} h w =
      added-same _ (row-added (n s) q h (subst (λ (m : ℕ). Spread before (λ i. q * n s + i) made m after) long w))
      (λ p b _ l. ap (λ (list : List ℤ). only (eqb q p) (list at b)) made-is)

  added : {table : List ℤ} {place : ℕ → ℕ} → Room table place made (n s) → Room table place made (length made)
  added {table} {place} r = subst (Room table place made) (sym long) r

pub slice_bounds-parts-end : goal.slice_bounds-parts-end
slice_bounds-parts-end c = omega (arith, few (goal.at.slice_bounds-parts-end c).Start, c.requires.room_in_tables.1)

pub slice_bounds-parts-end-2 : goal.slice_bounds-parts-end-2
slice_bounds-parts-end-2 c = sym (length-take-le (length c.args.shares.now) c.args.made.now (omega (arith, few (goal.at.slice_bounds-parts-end-2 c).Start, c.requires.room_in_tables.1)))

pub portion-requires : goal.portion-requires
portion-requires c = record {
  splittable = (subst (λ (z : ℤ). Splittable z c.args.shares.now) (sym (to_z-of_z c.ranges.kw)) c.requires.splittable.0, sym c.requires.splittable.1);
  made_len = length-take-le (n (goal.at.portion-requires c).Start) c.args.made.now (omega (arith, few (goal.at.portion-requires c).Start, c.requires.room_in_tables.1));
}

pub add-requires : goal.add-requires
add-requires c = let s = (goal.at.add-requires c).Start in let x = (goal.at.add-requires c).After-portion in
    added x (row_room (n s) (few s) c.requires.room_in_tables.0.table-small c.args.supplier c.requires.splittable.2 (omega (arith, room c.args.supplier 64 (n s) c.requires.splittable.2, few s, c.requires.room_in_tables.0.table-long)) (omega (arith, long x)) (small x))

pub add-requires-2 : goal.add-requires-2
add-requires-2 c = let s = (goal.at.add-requires-2 c).Start in let x = (goal.at.add-requires-2 c).After-portion in
    added x (subst (λ (k : ℕ). Room c.args.contracted.now (λ i. k + i) (made x) (n s)) (zero-mul (n s))
    (row_room (n s) (few s) c.requires.room_in_tables.0.contracted-small 0 (omega arith) (omega (arith, zero-mul (n s), few s, c.requires.room_in_tables.0.contracted-long)) (omega (arith, long x)) (small x)))

pub returns : goal.returns
returns c = let s = (goal.at.returns c).Start in let x = (goal.at.returns c).After-portion in record {
  added_cells = given x c.args.supplier c.requires.splittable.2 c.add.ensures;
  added_cells_2 = given x 0 (omega arith) (subst (λ (k : ℕ). Spread c.args.contracted.now (λ i. k + i) (made x) (length (made x)) c.add-2.new.table) (sym (zero-mul (n s))) c.add-2.ensures);
}
