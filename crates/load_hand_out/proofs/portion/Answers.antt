use Rattle.load.proofs.Splits.{not-below}
use Rattle.split_parts.proofs.Parts.{amount-made}
use Rattle.split_amount.proofs.Given.{size-given}
use mir.Facts.{to_z-of_z}
use lib.ListN.{length}
use lib.IntN.{nat_abs}
use mathlib.Core.Path.{◌≡◌, sym, ap, ◌∙◌}
use Rattle.load_hand_out.proofs.portion.Goals as goal
use Rattle.load_hand_out.proofs.portion.Goals.{After-size}

size_is : (c : After-size) → c.size.result ≡ nat_abs c.args.amount
size_is c = c.size.ensures ∙ ap nat_abs (to_z-of_z c.ranges.amount)

pub fill-requires : goal.fill-requires
fill-requires c = record {
  size_given = size-given c.args.amount c.args.shares.now (length c.args.shares.now) c.args.total c.size.result c.requires.splittable.0.accepted c.requires.splittable.1 (size_is (goal.at.fill-requires c).After-size);
  parts_len = c.requires.made_len;
}

pub returns : goal.returns
returns c = c.fill.ensures ∙ amount-made c.args.amount c.args.shares.now _ _ (sym (not-below c.requires.splittable.0)) (size_is (goal.at.returns c).After-size)
