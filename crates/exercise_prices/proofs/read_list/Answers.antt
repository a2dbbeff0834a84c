use mathlib.Core.Path.{◌≡◌, refl, sym, ap, ap₂, ◌∙◌, subst}
use mathlib.Core.Bool.{Bool, ◌&&◌}
use Prim.Native.Nat.{ℕ, ◌+◌}
use native.Mathlib.Omega.{arith}
use lib.IntN.{ℤ}
use lib.ListN.{length}
use mir.Syntax.{w64}
use mir.Val.{to_z, of_z}
use mir.Facts.{to_z-of_z}
use borrow.Author.Rules.{rules, sfits_of}
use Rattle.ints.specs.InsideRange.{Within}
use Rattle.ints.specs.Refusal.{unless}
use Rattle.ints.specs.Table.{tab, all}
use Rattle.ints.specs.Twos.{twos}
use Rattle.ints.proofs.Sizes.{w-read32}
use Rattle.ints.proofs.Tables.{tab-none, tab-store, all-last}
use Rattle.exercise.specs.File.{price_at, prices_from}
use Rattle.exercise.specs.Inside.{prices_from_refusal}
use Rattle.exercise.proofs.Prices.{list-refusal}
use Rattle.hour.specs.Order.{is_price}
use Rattle.exercise_prices.proofs.read_list.Goals as goal
use Rattle.exercise_prices.proofs.read_list.Goals.{After-from_bits-price, At-loop-i, Start}

abbrev from : Start → ℕ → ℤ
from c i = price_at c.args.prices.now (c.args.j + i)

-- the price that is read
module _ (c : After-from_bits-price) where
  abbrev head : At-loop-i
  head = (goal.at.After-from_bits-price c).At-loop-i

  abbrev given : Start
  given = (goal.at.After-from_bits-price c).Start

  price : to_z w64 (of_z w64 c.from_bits-price.result) ≡ from given head.loop-i.i
  price = to_z-of_z {w = w64} (sfits_of c.from_bits-price.type_inv) ∙ c.from_bits-price.ensures.0 ∙ ap (twos 24) c.bytes_at.ensures.0

  small : Within (to_z w64 (of_z w64 c.from_bits-price.result)) 8388608
  small = subst (λ (z : ℤ). Within z 8388608) (sym (to_z-of_z {w = w64} (sfits_of c.from_bits-price.type_inv))) c.from_bits-price.ensures.1

-- the refusal at the loop's end
refusal : (a : At-loop-i) → a.loop-i.i ≡ length a.args.list.now → unless a.loop-i.passed 2 0 ≡ prices_from_refusal a.args.prices.now a.args.j (length a.args.list.now)
refusal a end =
    let asked = a.args in
    ap (λ (b : Bool). unless b 2 0) (a.loop-i.invariant.tested ∙ ap (λ (n : ℕ). all is_price (prices_from asked.prices.now asked.j n)) end)
    ∙ list-refusal asked.prices.now asked.j (length asked.list.now)

pub loop-i-init : goal.loop-i-init
unfolding tab all
loop-i-init c = record { read = tab-none (from (goal.at.loop-i-init c).Start); tested = refl }

pub loop-i-preserved : goal.loop-i-preserved
loop-i-preserved c = let p = (goal.at.loop-i-preserved c).After-from_bits-price in
    let a = head p in record {
      read = tab-store (from (given p)) a.loop-i.list a.loop-i.i _ (search rules) (w-read32 (small p) tt ∙ price p) a.loop-i.invariant.read;
      tested = c.both-passed.ensures ∙ ap₂ ◌&&◌ a.loop-i.invariant.tested (c.is_between.ensures ∙ ap is_price (price p)) ∙ all-last is_price (from (given p)) a.loop-i.i;
    }

pub returns-then-not-passed-clause-value : goal.returns-then-not-passed-clause-value
returns-then-not-passed-clause-value c = let e : c.loop-i.i ≡ length c.args.list.now = omega arith in
    sym (ap (λ (b : Bool). unless b 2 0) c.if-not-passed.true) ∙ refusal (goal.at.returns-then-not-passed-clause-value c).At-loop-i e

pub returns-clause-value : goal.returns-clause-value
returns-clause-value c = let e : c.loop-i.i ≡ length c.args.list.now = omega arith in
    sym (ap (λ (b : Bool). unless b 2 0) c.if-not-passed.false) ∙ refusal (goal.at.returns-clause-value c).At-loop-i e
