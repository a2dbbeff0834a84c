use Rattle.wunzelihle.proofs.Loads.{not_listed, all_listed}
use Rattle.wunzelihle.specs.Load.{load_bytes_given, load_bytes_refusal}
use Rattle.load_bytes.specs.Inside.{AllListed}
use Rattle.load.specs.Order.{load_refusal}
use Rattle.load.specs.Load.{LoadGiven, assignment}
use Rattle.numbers.specs.Bytes.{encoded}
use Rattle.refusals.specs.Number.{answer as told}
use Rattle.ints.proofs.Refusals.{refused}
use Rattle.ints.proofs.Bools.{not-both}
use Rattle.ints.specs.Refusal.{lent}
use mir.Facts.{to_z-of_z}
use mir.Val.{to_z, of_z}
use mir.Syntax.{w64}
use lib.ListN.{length}
use Prim.Native.Nat.{ℕ, ◌/◌}
use mathlib.Core.Bool.{Bool, true, false}
use mathlib.Core.Path.{◌≡◌, sym, ap, ap₂, ◌∙◌}
use Rattle.wunzelihle.proofs.wz_assign_load.Goals as goal
use Rattle.wunzelihle.proofs.wz_assign_load.Goals.{After-assign_listed, Else-not-is_list-7, Start}

abbrev answer : Start → ℕ
answer s = load_bytes_refusal s.args.metered s.args.distributor s.args.loads.now s.args.imports.now s.args.generation.now s.args.areas s.args.area_parts.now s.args.contracts.now s.args.tranches.now (length s.args.out.now)

abbrev d : Start → LoadGiven
d s = load_bytes_given s.args.metered s.args.distributor s.args.loads.now s.args.imports.now s.args.generation.now s.args.areas s.args.area_parts.now s.args.contracts.now s.args.tranches.now

-- the slices are lists, and not too long
abbrev Lists : Start → Type 0
Lists s = AllListed s.args.loads.now s.args.imports.now s.args.generation.now s.args.area_parts.now s.args.contracts.now s.args.tranches.now (length s.args.out.now)

-- one of them is not
ragged : (s : Start) → (Lists s → ⊥) → (1 ≡ answer s) × (s.args.out.now ≡ lent (answer s) (encoded (assignment (d s))) s.args.out.now)
ragged s e =
    refused (answer s) (encoded (assignment (d s))) s.args.out.now 0
    (sym (not_listed s.args.metered s.args.distributor s.args.loads.now s.args.imports.now s.args.generation.now s.args.areas s.args.area_parts.now s.args.contracts.now s.args.tranches.now (length s.args.out.now) e))

-- a test that fails, of a slice that is a list
contrary : {r t : Bool} → r ≡ t → r ≡ false → t ≡ true → ⊥
contrary e f g = not-both (sym g ∙ sym e ∙ f)

abbrev start : Else-not-is_list-7 → Start
start e = (goal.at.Else-not-is_list-7 e).Start

lists : (e : Else-not-is_list-7) → Lists (start e)
lists e = record {
  loads-listed = sym e.is_list.ensures ∙ e.if-not-is_list.false;
  imports-listed = sym e.is_list-2.ensures ∙ e.if-not-is_list-2.false;
  generation-listed = sym e.is_list-3.ensures ∙ e.if-not-is_list-3.false;
  parts-listed = sym e.is_list-4.ensures ∙ e.if-not-is_list-4.false;
  contracts-listed = sym e.is_list-5.ensures ∙ e.if-not-is_list-5.false;
  tranches-listed = sym e.is_list-6.ensures ∙ e.if-not-is_list-6.false;
  result-listed = sym e.is_list-7.ensures ∙ e.if-not-is_list-7.false;
}

-- what was handed on
module _ (a : After-assign_listed) where
  abbrev s : Start
  s = start (goal.at.After-assign_listed a).Else-not-is_list-7

  -- the numbers are handed on as they are
  read : load_bytes_given (to_z w64 (of_z w64 s.args.metered)) (to_z w64 (of_z w64 s.args.distributor)) s.args.loads.now s.args.imports.now s.args.generation.now (to_z w64 (of_z w64 s.args.areas)) s.args.area_parts.now s.args.contracts.now s.args.tranches.now ≡ d s
  read = simp (to_z-of_z s.ranges.metered, to_z-of_z s.ranges.distributor, to_z-of_z s.ranges.areas)

  answered : told a.assign_listed.result ≡ answer s
  answered =
      a.assign_listed.ensures.value ∙ ap (λ (g : LoadGiven). load_refusal g (length s.args.out.now / 8)) read
      ∙ sym (all_listed s.args.metered s.args.distributor s.args.loads.now s.args.imports.now s.args.generation.now s.args.areas s.args.area_parts.now s.args.contracts.now s.args.tranches.now (length s.args.out.now) (lists (goal.at.After-assign_listed a).Else-not-is_list-7))

pub returns-then-not-is_list : goal.returns-then-not-is_list
returns-then-not-is_list c = let made = ragged (goal.at.returns-then-not-is_list c).Start (λ l. contrary c.is_list.ensures c.if-not-is_list.true l.loads-listed) in record { value = made.0; out_after = made.1 }

pub returns-then-not-is_list-2 : goal.returns-then-not-is_list-2
returns-then-not-is_list-2 c = let made = ragged (goal.at.returns-then-not-is_list-2 c).Start (λ l. contrary c.is_list-2.ensures c.if-not-is_list-2.true l.imports-listed) in record { value = made.0; out_after = made.1 }

pub returns-then-not-is_list-3 : goal.returns-then-not-is_list-3
returns-then-not-is_list-3 c = let made = ragged (goal.at.returns-then-not-is_list-3 c).Start (λ l. contrary c.is_list-3.ensures c.if-not-is_list-3.true l.generation-listed) in record { value = made.0; out_after = made.1 }

pub returns-then-not-is_list-4 : goal.returns-then-not-is_list-4
returns-then-not-is_list-4 c = let made = ragged (goal.at.returns-then-not-is_list-4 c).Start (λ l. contrary c.is_list-4.ensures c.if-not-is_list-4.true l.parts-listed) in record { value = made.0; out_after = made.1 }

pub returns-then-not-is_list-5 : goal.returns-then-not-is_list-5
returns-then-not-is_list-5 c = let made = ragged (goal.at.returns-then-not-is_list-5 c).Start (λ l. contrary c.is_list-5.ensures c.if-not-is_list-5.true l.contracts-listed) in record { value = made.0; out_after = made.1 }

pub returns-then-not-is_list-6 : goal.returns-then-not-is_list-6
returns-then-not-is_list-6 c = let made = ragged (goal.at.returns-then-not-is_list-6 c).Start (λ l. contrary c.is_list-6.ensures c.if-not-is_list-6.true l.tranches-listed) in record { value = made.0; out_after = made.1 }

pub returns-then-not-is_list-7 : goal.returns-then-not-is_list-7
returns-then-not-is_list-7 c = let made = ragged (goal.at.returns-then-not-is_list-7 c).Start (λ l. contrary c.is_list-7.ensures c.if-not-is_list-7.true l.result-listed) in record { value = made.0; out_after = made.1 }

pub returns : goal.returns
returns c = record {
  value = c.answer.ensures ∙ answered (goal.at.returns c).After-assign_listed;
  out_after = c.assign_listed.ensures.out_after ∙ ap₂ (λ (r : ℕ) (g : LoadGiven). lent r (encoded (assignment g)) (s (goal.at.returns c).After-assign_listed).args.out.now) (answered (goal.at.returns c).After-assign_listed) (read (goal.at.returns c).After-assign_listed);
}
