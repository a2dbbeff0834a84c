use mathlib.Core.Path.{◌≡◌, sym, ap, ◌∙◌}
use mathlib.Core.List.{List}
use Prim.Native.Nat.{ℕ}
use native.Mathlib.Omega.{arith}
use lib.IntN.{pos}
use lib.ListN.{length}
use mir.Val.{to_z, of_z}
use mir.Facts.{to_z-of_z}
use mir.Syntax.{w64}
use borrow.Author.Rules.{rules, sfits_of}
use Rattle.ints.proofs.Tables.{length-tab, get_or-tab}
use Rattle.ints.specs.Table.{tab}
use Rattle.numbers.proofs.Laws.{fill_none, fill-next, fill_done}
use Rattle.numbers.specs.Inside.{with_number}
use Rattle.exercise.specs.File.{price_at}
use Rattle.exercise_read.proofs.put_prices.Goals as goal

pub loop-j-init : goal.loop-j-init
loop-j-init c = let a = c.args in
    (search rules, fill_none (tab (price_at a.stretch.now) a.n) a.list.now)

pub loop-j-preserved : goal.loop-j-preserved
loop-j-preserved c = let a = c.args in
    let j = c.loop-j.j in
    let all = tab (price_at a.stretch.now) a.n in
    let long : length all ≡ a.n = length-tab (price_at a.stretch.now) a.n in
    let here = to_z-of_z {w = w64} (sfits_of c.struct_told-1.given.0.1) ∙ c.price_at.ensures ∙ sym (get_or-tab (price_at a.stretch.now) (pos 0) a.n j (search rules)) in
    (omega arith, c.put_number.ensures ∙ ap (λ (o : List ℕ). with_number o j (to_z w64 (of_z w64 c.price_at.result.0))) c.loop-j.invariant.1 ∙ fill-next all a.list.now j _ (omega arith) (omega arith) here)

pub returns : goal.returns
returns c = let a = c.args in
    let long : length (tab (price_at a.stretch.now) a.n) ≡ a.n = length-tab (price_at a.stretch.now) a.n in
    c.loop-j.invariant.1 ∙ fill_done (tab (price_at a.stretch.now) a.n) a.list.now c.loop-j.j (omega arith) (omega arith)
