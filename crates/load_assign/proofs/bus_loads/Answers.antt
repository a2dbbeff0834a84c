use Rattle.load.proofs.Meters.{unmetered-answer, unmetered-loads, metered-loads, metered-outside, metered-inside, sum-within}
use Rattle.load.proofs.Splits.{last_line}
use Rattle.load.specs.Inside.{Ranged}
use Rattle.load.specs.Load.{is_metered, metered_load}
use Rattle.split.specs.Split.{split_refusal, parts}
use Rattle.ints.proofs.Tables.{tab-copy}
use Rattle.ints.proofs.Tests.{between-natural}
use Rattle.ints.proofs.Sizes.{w-add, w_fits}
use Rattle.ints.specs.Refusal.{lent}
use Rattle.ints.specs.Number.{between}
use Rattle.refusals.specs.Number.{answer}
use mir.Facts.{to_z-of_z}
use mir.Val.{SFits, to_z, of_z}
use mir.Syntax.{w64}
use lib.ListN.{length}
use lib.IntN.{ℤ, pos, ◌+ℤ◌}
use Prim.Native.Nat.{ℕ}
use mathlib.Core.Bool.{true, false}
use mathlib.Core.List.{List}
use mathlib.Core.Path.{◌≡◌, sym, ap, ap₂, ◌∙◌, subst}
use borrow.Author.Rules.{rules, sfits_of}
use Rattle.load_assign.proofs.bus_loads.Goals as goal
use Rattle.load_assign.proofs.bus_loads.Goals.{After-is_between, After-is_between-2, After-sum-2, Else-not-is_between-2, Start}

metered-is : (c : After-is_between) → c.is_between.result ≡ is_metered c.args.given.metered
metered-is c = c.is_between.ensures ∙ ap is_metered (to_z-of_z {w = w64} {z = c.args.given.metered} (search rules))

-- the metered load
module _ (x : After-sum-2) where
  abbrev start : Start
  start = (goal.at.After-sum-2 x).Start

  abbrev imports : List ℤ
  imports = start.args.given.imports.now

  abbrev generation : List ℤ
  generation = start.args.given.generation.now

  sums : to_z w64 (of_z w64 x.sum.result) +ℤ to_z w64 (of_z w64 x.sum-2.result) ≡ metered_load imports generation
  sums = ap₂ ◌+ℤ◌ (to_z-of_z {w = w64} (sfits_of x.sum.type_inv) ∙ x.sum.ensures) (to_z-of_z {w = w64} (sfits_of x.sum-2.type_inv) ∙ x.sum-2.ensures)

  fits : SFits w64 (metered_load imports generation)
  fits = w_fits (w-add (sum-within start.requires.0.imports-short) (sum-within start.requires.0.generation-short)) tt

  load_is : to_z w64 (of_z w64 (to_z w64 (of_z w64 x.sum.result) +ℤ to_z w64 (of_z w64 x.sum-2.result))) ≡ metered_load imports generation
  load_is = ap (λ (z : ℤ). to_z w64 (of_z w64 z)) sums ∙ to_z-of_z fits

  on : is_metered start.args.given.metered ≡ true
  on = sym (metered-is (goal.at.After-sum-2 x).After-is_between) ∙ x.if-not-is_between.false

tested : (b : After-is_between-2) → let x = (goal.at.After-is_between-2 b).After-sum-2 in b.is_between-2.result ≡ between (pos 0) (pos 20000000) (metered_load (imports x) (generation x))
tested b = b.is_between-2.ensures ∙ ap (between (pos 0) (pos 20000000)) (load_is (goal.at.After-is_between-2 b).After-sum-2)

-- it is in its range
module _ (e : Else-not-is_between-2) where
  abbrev x : After-sum-2
  x = (goal.at.Else-not-is_between-2 e).After-sum-2

  inside : between (pos 0) (pos 20000000) (metered_load (imports x) (generation x)) ≡ true
  inside = sym (tested (goal.at.Else-not-is_between-2 e).After-is_between-2) ∙ e.if-not-is_between-2.false

  ranged : Ranged (metered_load (imports x) (generation x))
  ranged = let r = between-natural (metered_load (imports x) (generation x)) 20000000 inside in record { natural = r.0; small = r.1 }

pub returns-then-not-is_between : goal.returns-then-not-is_between
returns-then-not-is_between c =
    let d = c.args.given in
    let off : is_metered d.metered ≡ false = sym (metered-is (goal.at.returns-then-not-is_between c).After-is_between) ∙ c.if-not-is_between.true in
    record {
      value = sym (unmetered-answer d.metered d.loads.now d.imports.now d.generation.now off);
      served_after = c.copy.ensures ∙ tab-copy (pos 0) d.loads.now c.requires.1 ∙ sym (unmetered-loads d.metered d.loads.now d.imports.now d.generation.now off);
    }

pub overflow_add-load : goal.overflow_add-load
overflow_add-load c = subst (SFits w64) (sym (sums c)) (fits c)

pub returns-then-not-is_between-2-clause-value : goal.returns-then-not-is_between-2-clause-value
returns-then-not-is_between-2-clause-value c =
    let d = c.args.given in
    let b = (goal.at.returns-then-not-is_between-2-clause-value c).After-is_between-2 in
    sym (metered-outside d.metered d.loads.now d.imports.now d.generation.now (on (goal.at.After-is_between-2 b).After-sum-2) (sym (tested b) ∙ c.if-not-is_between-2.true))

pub returns : goal.returns
returns c =
    let d = c.args.given in
    let e = (goal.at.returns c).Else-not-is_between-2 in
    record {
      value = c.split.ensures.value ∙ ap (λ (z : ℤ). split_refusal z d.loads.now (length c.args.served.now)) (load_is (x e)) ∙ ap (split_refusal (metered_load d.imports.now d.generation.now) d.loads.now) c.requires.1
          ∙ last_line (metered_load d.imports.now d.generation.now) d.loads.now (ranged e) c.requires.0.tested c.requires.0.some
          ∙ sym (metered-inside d.metered d.loads.now d.imports.now d.generation.now (on (x e)) (inside e));
      served_after = c.split.ensures.parts_after
          ∙ ap (λ (k : ℕ). lent k (parts (to_z w64 (of_z w64 (to_z w64 (of_z w64 c.sum.result) +ℤ to_z w64 (of_z w64 c.sum-2.result)))) d.loads.now) c.args.served.now) (sym c.split.ensures.value)
          ∙ ap (λ (list : List ℤ). lent (answer c.split.result) list c.args.served.now) (ap (λ (z : ℤ). parts z d.loads.now) (load_is (x e)) ∙ sym (metered-loads d.metered d.loads.now d.imports.now d.generation.now (on (x e))));
    }
