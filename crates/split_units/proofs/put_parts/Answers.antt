use Rattle.std.proofs.Common.{◌≡◌, ℕ, ◌+◌, ℤ, pos, nat_abs, refl, ◌∙◌, ap₂, arith, to_z-of_z, w64, to_z, of_z}
use borrow.Author.Rules.{sfits_of}
use Rattle.ints.specs.Number.{signed}
use Rattle.ints.specs.Table.{◌at◌}
use Rattle.ints.proofs.Tables.{place-start, place-next}
use Rattle.split.specs.Split.{share}
use Rattle.split_units.proofs.put_parts.Goals as goal
use Rattle.split_units.proofs.put_parts.Goals.{After-with_unit-arg-1}

-- what is read at i is what was cut down
read_is : (c : After-with_unit-arg-1) → let l = c in to_z w64 (of_z w64 (l.loop-i.parts at l.loop-i.i)) ≡ pos (share c.args.parts.now l.loop-i.i)
read_is c = to_z-of_z {w = w64} (sfits_of c.with_unit-arg-1.given) ∙ (c.loop-i.invariant.rest c.loop-i.i (omega arith) ∙ c.requires.0.natural c.loop-i.i)

pub loop-i-init : goal.loop-i-init
loop-i-init c = place-start (pos 0) _ _

pub loop-i-preserved : goal.loop-i-preserved
loop-i-preserved c = let p = c.loop-i.invariant in
    place-next (pos 0) _ _ c.loop-i.parts _ c.loop-i.i _ p (omega (arith, p.long)) (to_z-of_z {w = w64} (sfits_of c.with_unit.type_inv) ∙ (c.with_unit.ensures ∙ ap₂ (λ (z : ℤ) (u : ℕ). signed c.args.neg (nat_abs z + u)) (read_is (goal.at.loop-i-preserved c).After-with_unit-arg-1) c.is_above.ensures)) refl
