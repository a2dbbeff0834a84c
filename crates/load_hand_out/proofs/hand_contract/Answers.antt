use Rattle.load.proofs.Splits.{length-stretch}
use Rattle.load.proofs.Tables.{added-same}
use Rattle.load.specs.Inside.{RoomInTables}
use Rattle.load.specs.InsideTable.{AddedCells}
use Rattle.load.specs.Load.{identity, supplier, area, kw, parts_of, contract_at}
use Rattle.split.specs.Split.{total, parts}
use Rattle.ints.specs.Table.{◌at◌}
use Rattle.ints.specs.Sum.{only}
use mir.Facts.{to_z-of_z}
use mir.Val.{to_z, of_z}
use mir.Syntax.{w64}
use lib.ListN.{length}
use lib.IntN.{ℤ, nat_abs}
use lib.Dec.{eqb}
use mathlib.Core.List.{List}
use mathlib.Core.Path.{◌≡◌, refl, sym, ap, ap₂, ◌∙◌, subst}
use Prim.Native.Nat.{ℕ, ◌<◌}
use borrow.Author.Rules.{rules}
use Rattle.load_hand_out.proofs.hand_contract.Goals as goal
use Rattle.load_hand_out.proofs.hand_contract.Goals.{After-hand_parts, After-parts_of-shares, Start}

-- the shares are the area's parts
module _ (x : After-parts_of-shares) where
  abbrev s : Start
  s = (goal.at.After-parts_of-shares x).Start

  abbrev shares : List ℤ
  shares = x.parts_of-shares.result.now

  supplier-is : x.size-supplier.result ≡ identity (supplier s.args.contracts.now s.args.j)
  supplier-is = x.size-supplier.ensures ∙ ap nat_abs (to_z-of_z {w = w64} {z = x.contract_at-contract.result.supplier} (search rules) ∙ x.contract_at-contract.ensures.supplier_is)

  area-is : x.size-area.result ≡ identity (area s.args.contracts.now s.args.j)
  area-is = x.size-area.ensures ∙ ap nat_abs (to_z-of_z {w = w64} {z = x.contract_at-contract.result.area} (search rules) ∙ x.contract_at-contract.ensures.area_is)

  kw-is : to_z w64 (of_z w64 x.contract_at-contract.result.kw) ≡ kw s.args.contracts.now s.args.j
  kw-is = to_z-of_z {w = w64} {z = x.contract_at-contract.result.kw} (search rules) ∙ x.contract_at-contract.ensures.kw_is

  shares-are : shares ≡ parts_of s.args.n s.args.area_parts.now (identity (area s.args.contracts.now s.args.j))
  shares-are = x.parts_of-shares.ensures.parts ∙ ap (parts_of s.args.n s.args.area_parts.now) area-is

  long : length shares ≡ s.args.n
  long = ap length shares-are ∙ length-stretch s.args.n s.args.area_parts.now (identity (area s.args.contracts.now s.args.j)) (s.requires.contracts.0.placed s.args.j s.requires.contracts.1)

  -- what was handed on is what the contract comes to
  given : (q : ℕ) {r : ℕ} {before after : List ℤ} → q ≡ r → AddedCells (length shares) (λ p b. only (eqb q p) (parts (to_z w64 (of_z w64 x.contract_at-contract.result.kw)) shares at b)) before after
      → AddedCells s.args.n (λ p b. only (eqb r p) (contract_at s.args.n s.args.area_parts.now s.args.contracts.now s.args.j b)) before after
  unfolding contract_at
  given q {r} {before} {after} e a =
      added-same _ (subst (λ (n : ℕ). AddedCells n (λ p b. only (eqb q p) (parts (to_z w64 (of_z w64 x.contract_at-contract.result.kw)) shares at b)) before after) long a)
      (λ p b _ _. ap₂ (λ (q : ℕ) (list : List ℤ). only (eqb q p) (list at b)) e (ap₂ parts kw-is shares-are))

pub hand_parts-requires-clause-splittable : goal.hand_parts-requires-clause-splittable
hand_parts-requires-clause-splittable c =
    let x = (goal.at.hand_parts-requires-clause-splittable c).After-parts_of-shares in
    let given = c.requires.contracts.0 in (
      rw (kw-is x, shares-are x) (given.splits c.args.j c.requires.contracts.1),
      ap total (shares-are x) ∙ given.whole c.args.j c.requires.contracts.1,
      subst (λ (p : ℕ). p < 64) (sym (supplier-is x)) (given.supplied c.args.j c.requires.contracts.1),
    )

pub hand_parts-requires-clause-room_in_tables : goal.hand_parts-requires-clause-room_in_tables
hand_parts-requires-clause-room_in_tables c = (
  subst (λ (n : ℕ). RoomInTables n c.args.table.now c.args.contracted.now) (sym (long (goal.at.hand_parts-requires-clause-room_in_tables c).After-parts_of-shares)) c.requires.room_in_tables.0,
  c.requires.room_in_tables.1,
)

pub returns : goal.returns
returns c = let x = (goal.at.returns c).After-parts_of-shares in record {
  added_cells = given x _ (supplier-is x) c.hand_parts.ensures.added_cells;
  added_cells_2 = given x 0 refl c.hand_parts.ensures.added_cells_2;
}
