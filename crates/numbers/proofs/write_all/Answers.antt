use mathlib.Core.Path.{◌≡◌, ap, ◌∙◌}
use mathlib.Core.List.{List}
use Prim.Native.Nat.{ℕ}
use native.Mathlib.Omega.{arith}
use mir.Syntax.{w64}
use mir.Val.{to_z, of_z}
use mir.Facts.{to_z-of_z}
use borrow.Author.Rules.{rules, sfits_of}
use Rattle.ints.specs.Table.{◌at◌}
use Rattle.numbers.specs.Inside.{with_number}
use Rattle.numbers.proofs.Laws.{fill_none, fill-next}
use Rattle.numbers.proofs.write_all.Goals as goal

pub loop-i-init : goal.loop-i-init
loop-i-init c = (search rules, fill_none c.args.list.now c.args.out.now)

pub loop-i-preserved : goal.loop-i-preserved
loop-i-preserved c = let list = c.args.list.now in
    let i = c.loop-i.i in
    let z = to_z w64 (of_z w64 (list at i)) in
    let v : z ≡ list at i = to_z-of_z {w = w64} (sfits_of c.put_number-arg-in-loop-i-1.given) in
    (omega arith, c.put_number.ensures ∙ (ap (λ (o : List ℕ). with_number o i z) c.loop-i.invariant.1 ∙ fill-next list c.args.out.now i z (omega arith) (omega arith) v))
