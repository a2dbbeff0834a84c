use mathlib.Core.Path.{◌≡◌, sym, ap₂, ◌∙◌, subst}
use mathlib.Core.List.{List}
use Prim.Native.Nat.{◌+◌, ◌*◌}
use native.Mathlib.Omega.{arith}
use lib.IntN.{ℤ, ◌+ℤ◌}
use mir.Syntax.{w64}
use mir.Val.{SFits, to_z, of_z}
use mir.Facts.{to_z-of_z}
use Rattle.ints.specs.Sum.{sum_to}
use Rattle.ints.specs.Table.{◌at◌}
use Rattle.ints.proofs.Sizes.{w-fits', w-read}
use Rattle.ints.proofs.Sums.{sum_to-zero, sum_to-next, sum_to-abs}
use Rattle.ints.proofs.sum.Goals as goal
use Rattle.ints.proofs.sum.Goals.{After-total-1, At-loop-x}

-- one number more
module _ (c : After-total-1) where
  abbrev l : At-loop-x
  l = (goal.at.After-total-1 c).At-loop-x

  abbrev list : List ℤ
  list = l.args.list.now

  next : to_z w64 l.loop-x.total-bits +ℤ to_z w64 (of_z w64 (list at l.loop-x.x-index)) ≡ sum_to (λ k. list at k) (l.loop-x.x-index + 1)
  next = ap₂ ◌+ℤ◌ l.loop-x.invariant (w-read (l.requires.each.each l.loop-x.x-index) tt) ∙ sym (sum_to-next (λ k. list at k) l.loop-x.x-index)

  more : SFits w64 (to_z w64 l.loop-x.total-bits +ℤ to_z w64 (of_z w64 (list at l.loop-x.x-index)))
  more =
      subst (SFits w64) (sym next)
      (w-fits' {k = (l.loop-x.x-index + 1) * 230584300921368} (record { within = sum_to-abs (λ k. list at k) 230584300921368 (l.loop-x.x-index + 1) (λ k _. (l.requires.each.each k).within) }) (omega (arith, l.requires.few)))

pub loop-x-init : goal.loop-x-init
loop-x-init c = (sym (sum_to-zero (λ k. c.args.list.now at k)))

pub overflow_add-total : goal.overflow_add-total
overflow_add-total c = more c

pub loop-x-preserved : goal.loop-x-preserved
loop-x-preserved c = to_z-of_z (more c) ∙ next c
