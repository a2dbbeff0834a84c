use Rattle.std.proofs.Common.{◌≡◌, ◌-ℤ◌, ◌&&◌, ℤ, Bool, true, pos, sym, ap, ap₂, ◌∙◌, to_z-of_z, to_z, of_z, w64, rules}
use Rattle.ints.specs.Number.{between}
use Rattle.load.specs.Load.{supplier, area}
use Rattle.load_refusals.proofs.is_named.Goals as goal

-- the supplier has passed, and the area's test is the answer
pub returns-then-is_between : goal.returns-then-is_between
returns-then-is_between c =
    let contracts = c.args.contracts.now in
    let d = c.contract_at-contract in
    let named : between (pos 0) (pos 63) (supplier contracts c.args.j) ≡ true = sym (c.if-is_between.ensures ∙ ap (between (pos 0) (pos 63)) (to_z-of_z {w = w64} {z = d.result.supplier} (search rules) ∙ d.ensures.supplier_is)) in
    let last : to_z w64 (of_z w64 (to_z w64 (of_z w64 c.args.areas) -ℤ pos 1)) ≡ c.args.areas -ℤ pos 1 = to_z-of_z {w = w64} {z = to_z w64 (of_z w64 c.args.areas) -ℤ pos 1} (search rules) ∙ ap (λ (z : ℤ). z -ℤ pos 1) (to_z-of_z c.ranges.areas) in
    c.is_between-then-is_between.ensures
    ∙ ap₂ (between (pos 0)) last (to_z-of_z {w = w64} {z = d.result.area} (search rules) ∙ d.ensures.area_is)
    ∙ sym (ap (λ (t : Bool). t && between (pos 0) (c.args.areas -ℤ pos 1) (area contracts c.args.j)) named)
