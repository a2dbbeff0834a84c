use Rattle.std.proofs.Common.{◌+◌, Bool, length, ap, ◌∙◌}
use Rattle.ints.specs.Number.{signed}
use Rattle.ints.specs.Sum.{one}
use Rattle.ints.proofs.Tables.{tab-ext}
use Rattle.split.specs.Split.{share}
use Rattle.split_units.proofs.give_units.Goals as goal

pub returns : goal.returns
returns c = let a = c.args in
    c.put_parts.ensures ∙ tab-ext _ _ (length a.parts.now) (λ i l. ap (λ (b : Bool). signed a.neg (share a.parts.now i + one b)) (c.floor_of-floor.ensures.each i l))
