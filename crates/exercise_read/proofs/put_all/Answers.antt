use mathlib.Core.Path.{◌≡◌, ap, ◌∙◌}
use mathlib.Core.List.{List, ◌++◌}
use Prim.Native.Nat.{ℕ, ◌+◌, ◌*◌, ◌≤◌}
use native.Mathlib.Omega.{arith}
use lib.ListN.{length, take, drop}
use borrow.Rule.Slice.PartMut.{Post-is}
use borrow.Author.Rules.{rules}
use Rattle.exercise.specs.Inside.{item_length}
use Rattle.exercise.proofs.Runs.{in-turn}
use Rattle.exercise_read.proofs.Fill.{fill_none, fill-next}
use Rattle.exercise_read.proofs.put_all.Goals as goal
use Rattle.exercise_read.proofs.put_all.Goals.{After-item_length-each, In-loop-i}

-- the bytes of one, and of all
abbrev size : After-item_length-each → ℕ
size t = 8 * t.item_length-each.result

sized : (t : After-item_length-each) → let a = t.args in size t ≡ 8 * item_length a.item
sized t = ap (λ (k : ℕ). 8 * k) t.item_length-each.ensures.0

all-long : (t : After-item_length-each) → let a = t.args in length a.list.now ≡ size t * a.n
all-long t = omega (arith, t.requires.list_len, ap (λ (k : ℕ). k * t.args.n) t.item_length-each.ensures.0)

-- those of one more are there
room : (c : In-loop-i) → size (goal.at.In-loop-i c).After-item_length-each * c.loop-i.i + size (goal.at.In-loop-i c).After-item_length-each ≤ length c.loop-i.list
room c = omega (arith, all-long (goal.at.In-loop-i c).After-item_length-each, c.loop-i.invariant.0, in-turn (size (goal.at.In-loop-i c).After-item_length-each) c.loop-i.i c.args.n (search rules))

pub loop-i-init : goal.loop-i-init
loop-i-init c = let a = c.args in
    (search rules, fill_none a.item (size c) (sized c) a.stretch.now a.list.now)

pub loop-i-preserved : goal.loop-i-preserved
loop-i-preserved c = let a = c.args in
    let xs = c.loop-i.list in
    let k = size (goal.at.loop-i-preserved c).After-item_length-each * c.loop-i.i in
    let m = room (goal.at.loop-i-preserved c).In-loop-i in
    (omega arith, ap (λ (u : List ℕ). take k xs ++ (c.put_at.new.list ++ u)) (Post-is k (k + size (goal.at.loop-i-preserved c).After-item_length-each) xs (omega arith)) ∙ ap (λ (u : List ℕ). take k xs ++ (u ++ drop (k + size (goal.at.loop-i-preserved c).After-item_length-each) xs)) c.put_at.ensures ∙ fill-next a.item (size (goal.at.loop-i-preserved c).After-item_length-each) (sized (goal.at.loop-i-preserved c).After-item_length-each) a.stretch.now a.list.now c.loop-i.i xs c.loop-i.invariant.1)
