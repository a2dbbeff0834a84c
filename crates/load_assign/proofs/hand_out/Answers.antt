use Rattle.load.proofs.Tables.{added-zeros, zero-cells, added_then, added-cells}
use Rattle.ints.specs.Sum.{only}
use lib.Dec.{eqb}
use Rattle.load.proofs.Handed.{load-within, left-ranged, contracted-natural}
use Rattle.load.specs.Inside.{Ranged}
use Rattle.load.specs.InsideTable.{Cells, AddedCells}
use Rattle.load.specs.Order.{contracts_refusal}
use Rattle.load.specs.Load.{identity, contracted as Load·contracted, contract_load, contract_count, auctioned}
use Rattle.ints.proofs.Eachs.{all_to-ext, all_to-at}
use Rattle.ints.specs.Table.{◌at◌}
use Rattle.ints.specs.Refusal.{unless}
use Rattle.ints.specs.Each.{all_to}
use mir.Facts.{to_z-of_z}
use mir.Syntax.{w64}
use lib.Signed.{le_z}
use lib.IntN.{ℤ, pos, nat_abs, ◌+ℤ◌, ◌-ℤ◌}
use lib.ListN.{length, length-replicate}
use borrow.Author.Rules.{rules}
use native.Mathlib.Omega.{arith}
use native.Mathlib.Nat.{zero-mul}
use Prim.Native.Nat.{ℕ, ◌+◌, ◌*◌, ◌<◌}
use mathlib.Core.Bool.{Bool, true, false}
use mathlib.Core.List.{List}
use mathlib.Core.Path.{◌≡◌, refl, sym, ap, ◌∙◌, subst}
use Rattle.load_assign.proofs.hand_out.Goals as goal
use Rattle.load_assign.proofs.hand_out.Goals.{After-all_covered, After-hand_contracts, After-size-distributor, Else-not-all_covered, Start}

-- after the contracts
module _ (x : After-hand_contracts) where
  abbrev s : Start
  s = (goal.at.After-hand_contracts x).Start

  abbrev n : ℕ
  n = length s.args.given.loads.now

  abbrev loads : List ℤ
  loads = s.args.loads.now

  same : length loads ≡ n
  same = s.requires.loads.1

  abbrev summed : List ℤ
  summed = x.hand_contracts.new.contracted

  abbrev all : ℕ → ℤ
  all = Load·contracted n s.args.given.area_parts.now s.args.given.contracts.now

  abbrev refusal : ℕ
  refusal = contracts_refusal n s.args.given.area_parts.now s.args.given.contracts.now (λ b. loads at b)

  abbrev covered : Bool
  covered = all_to (λ b. le_z (all b) (loads at b)) n

  summed_at : (b : ℕ) → b < n → summed at b ≡ all b
  summed_at b l =
      let first : b ≡ 0 * n + b = omega (arith, zero-mul n) in
      ap (λ (k : ℕ). summed at k) first ∙ added-zeros 64 refl {f = λ p b. only (eqb 0 p) (all b)} x.hand_contracts.ensures.added_cells_2 0 b (omega arith) l

  -- 8, or no refusal
  exceeds : covered ≡ false → refusal ≡ 8
  unfolding contracts_refusal
  exceeds e = ap (λ (t : Bool). unless t 8 0) e

  covers : covered ≡ true → refusal ≡ 0
  unfolding contracts_refusal
  covers e = ap (λ (t : Bool). unless t 8 0) e

tested : (v : After-all_covered) → v.all_covered.result ≡ covered (goal.at.After-all_covered v).After-hand_contracts
tested v =
    let x = (goal.at.After-all_covered v).After-hand_contracts in
    v.all_covered.ensures ∙ ap (all_to (λ b. le_z (summed x at b) (loads x at b))) (same x)
    ∙ all_to-ext _ _ (n x) (λ b l. ap (λ (z : ℤ). le_z z (loads x at b)) (summed_at x b l))

-- the loads cover the contracts
module _ (e : Else-not-all_covered) where
  abbrev y : After-hand_contracts
  y = (goal.at.Else-not-all_covered e).After-hand_contracts

  passed : covered y ≡ true
  passed = sym (tested (goal.at.Else-not-all_covered e).After-all_covered) ∙ e.if-not-all_covered.false

  left : (b : ℕ) → b < n y → Ranged (loads y at b -ℤ summed y at b)
  left b l =
      subst (λ (z : ℤ). Ranged (loads y at b -ℤ z)) (sym (summed_at y b l))
      (left-ranged (loads y at b) (all y b) ((s y).requires.loads.0.each b l) (contracted-natural (n y) (s y).args.given.area_parts.now (s y).args.given.contracts.now (s y).requires.contracts.0 b l) (all_to-at (λ b. le_z (all y b) (loads y at b)) (n y) passed b l))

named : (z : After-size-distributor) → z.size-distributor.result ≡ identity z.args.given.distributor
named z = z.size-distributor.ensures ∙ ap nat_abs (to_z-of_z {w = w64} {z = z.args.given.distributor} (search rules))

pub returns-then-not-all_covered-clause-value : goal.returns-then-not-all_covered-clause-value
returns-then-not-all_covered-clause-value c =
    let v = (goal.at.returns-then-not-all_covered-clause-value c).After-all_covered in
    sym (exceeds (goal.at.After-all_covered v).After-hand_contracts (sym (tested v) ∙ c.if-not-all_covered.true))

pub hand_rests-requires : goal.hand_rests-requires
hand_rests-requires c =
    let e = (goal.at.hand_rests-requires c).Else-not-all_covered in
    let x = (goal.at.hand_rests-requires c).After-hand_contracts in
    let t = s x in
    let cells : Cells (n x) x.hand_contracts.new.table 100000000000 =
    added-cells 100000000000 x.hand_contracts.ensures.added_cells (zero-cells (64 * n x) t.requires.loads.2 (n x)) (load-within (n x) t.args.given.area_parts.now t.args.given.contracts.now t.requires.contracts.0 (contract_count t.args.given.contracts.now) (omega arith)) (omega arith) in
    record {
      auction = (
        rw (named (goal.at.hand_rests-requires c).After-size-distributor) t.requires.contracts.1,
        record {
          loads-there = t.requires.loads.0.there;
          contracted-there = omega (arith, x.hand_contracts.ensures.added_cells_2.same, t.requires.contracts.0.buses);
          each = left e;
        },
      );
      table_len = (x.hand_contracts.ensures.added_cells.same ∙ ap length t.requires.loads.2 ∙ length-replicate (64 * n x) (pos 0), cells);
    }

pub returns-clause-value : goal.returns-clause-value
returns-clause-value c = let e = (goal.at.returns-clause-value c).Else-not-all_covered in sym (covers (y e) (passed e))

pub returns-clause-added_cells : goal.returns-clause-added_cells
returns-clause-added_cells c =
    let x = (goal.at.returns-clause-added_cells c).After-hand_contracts in
    let t = s x in
    let rests : AddedCells (n x) (λ p b. auctioned (identity t.args.given.distributor) t.args.given.tranches.now (loads x at b -ℤ summed x at b) p) x.hand_contracts.new.table c.hand_rests.new.table =
    subst (λ (q : ℕ). AddedCells (n x) (λ p b. auctioned q t.args.given.tranches.now (loads x at b -ℤ summed x at b) p) x.hand_contracts.new.table c.hand_rests.new.table) (named (goal.at.returns-clause-added_cells c).After-size-distributor) c.hand_rests.ensures in
    λ _. added_then _ x.hand_contracts.ensures.added_cells rests
    (λ p b _ l. ap (λ (z : ℤ). contract_load (n x) t.args.given.area_parts.now t.args.given.contracts.now p b +ℤ auctioned (identity t.args.given.distributor) t.args.given.tranches.now (loads x at b -ℤ z) p) (summed_at x b l))
