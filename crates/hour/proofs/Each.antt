-- The output lists of an hour, participant by participant. Assumes nothing.
use mathlib.Core.Path.{◌≡◌}
use Prim.Native.Nat.{ℕ, ◌<◌}
use lib.IntN.{pos, ◌+ℤ◌, ◌-ℤ◌}
use Rattle.ints.specs.Table.{◌at◌}
use Rattle.ints.proofs.Tables.{get_or-tab}
use Rattle.hour.specs.Charges.{congestion_charge, loss_charge, congestion_charges_of, loss_charges_of}
use Rattle.hour.specs.Hour.{Hour}
use Rattle.hour.specs.Surplus.{credits, nets}

module _ (hour : Hour) (p : ℕ) (l : p < hour.participants) where
  pub congestion-at : congestion_charges_of hour at p ≡ congestion_charge hour p
  unfolding congestion_charges_of
  congestion-at = get_or-tab (congestion_charge hour) (pos 0) hour.participants p l

  pub loss-at : loss_charges_of hour at p ≡ loss_charge hour p
  unfolding loss_charges_of
  loss-at = get_or-tab (loss_charge hour) (pos 0) hour.participants p l

  pub net-at : nets hour at p ≡ congestion_charge hour p +ℤ loss_charge hour p -ℤ credits hour at p
  unfolding nets
  net-at = get_or-tab (λ p. congestion_charge hour p +ℤ loss_charge hour p -ℤ credits hour at p) (pos 0) hour.participants p l
