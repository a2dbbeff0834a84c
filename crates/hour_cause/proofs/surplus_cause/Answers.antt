use mathlib.Core.Path.{ap, sym, ◌∙◌}
use lib.IntN.{pos}
use Rattle.ints.specs.Number.{between}
use Rattle.ints.specs.Table.{all}
use Rattle.ints.proofs.Refusals.{passed}
use Rattle.split.proofs.Accepted.{shares_of}
use Rattle.hour.specs.Cause.{Cause}
use Rattle.hour.proofs.Causes.{shares-number}
use Rattle.hour_cause.proofs.surplus_cause.Goals as goal

pub unshared_cause-requires : goal.unshared_cause-requires
unshared_cause-requires c = let xs = c.args.shares.now in
    shares_of xs c.requires (passed (all (between (pos 0) (pos 4000000000)) xs) 9 0 (sym (shares-number xs) ∙ ap (λ (x : Cause). x.refusal) (sym c.in_ok-shares_cause.ensures))).0
