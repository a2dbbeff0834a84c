use mathlib.Core.Path.{◌≡◌, sym, ap, ap₂, ◌∙◌}
use mathlib.Core.List.{List}
use Prim.Native.Nat.{ℕ, ◌+◌, ◌*◌}
use native.Mathlib.Omega.{arith}
use lib.Seq.{sets}
use Rattle.ints.specs.Table.{tab}
use borrow.Author.Rules.{rules}
use Rattle.exercise.specs.Written.{packed, bytes_high, run}
use Rattle.exercise_write.specs.Inside.{fields_given}
use Rattle.exercise_write.proofs.Stores.{run_none, run-next}
use Rattle.exercise_write.proofs.put_packed.Goals as goal

pub loop-i-init : goal.loop-i-init
loop-i-init c = let a = c.args in
    (search rules, run_none c.item_size-size.result packed (fields_given a.item a.list.now) a.out.now a.k)

pub loop-i-preserved : goal.loop-i-preserved
loop-i-preserved c = let a = c.args in
    let size = c.item_size-size.result in
    let i = c.loop-i.i in
    (omega arith, c.put_item.ensures ∙ ap (λ (n : ℕ). sets c.loop-i.out (a.k + size * i) (bytes_high n c.packed_at.result)) (sym c.item_size-size.ensures.0) ∙ ap₂ (λ (o : List ℕ) (v : ℕ). sets o (a.k + size * i) (bytes_high size v)) c.loop-i.invariant.1 c.packed_at.ensures ∙ run-next size packed (fields_given a.item a.list.now) a.out.now a.k i)

pub returns : goal.returns
returns c = let a = c.args in
    let here : c.loop-i.i ≡ a.n = omega arith in
    c.loop-i.invariant.1 ∙ ap₂ (λ (size n : ℕ). sets a.out.now a.k (run size packed (tab (fields_given a.item a.list.now) n))) c.item_size-size.ensures.0 here
