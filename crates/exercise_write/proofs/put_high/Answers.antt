use Rattle.std.proofs.Common.{◌∙◌, ◌-◌, ap, List, ℕ, take, drop}
use Rattle.exercise_write.proofs.Stores.{mid-high, be-high}
use Rattle.exercise_write.proofs.put_high.Goals as goal

pub returns : goal.returns
returns g c = mid-high c.args.out.now _ c.args.k g.row.N c.args.v c.requires.0 (c.copy_from_slice.ensures.after ∙ ap (λ (l : List ℕ). take (8 - (8 - g.row.N)) (drop (8 - g.row.N) l)) c.to_be_bytes.ensures ∙ be-high g.row.N c.args.v c.requires.1)
