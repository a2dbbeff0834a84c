-- The surplus, its credits and the nets of one hour (document 01, "Surplus and credits"). Assumes nothing.
use Rattle.std.specs.Prelude.{Bool, ◌||◌, ◌&&◌, List, ℕ, eqb, ℤ, pos, ◌+ℤ◌, ◌-ℤ◌}
use Rattle.ints.specs.Sum.{Σℤ, sum_to, only}
use Rattle.ints.specs.Table.{◌at◌, tab}
use Rattle.split.specs.Split.{parts}
use Rattle.hour.specs.Hour.{real_time, load, export, Hour}
use Rattle.hour.specs.Charges.{congestion_charge, loss_charge}
use Rattle.hour.specs.declared.Row.{Row}

-- "The surplus is the sum of all rounded loss charges."
unfoldable pub surplus : Hour → ℤ
surplus hour = sum_to (loss_charge hour) hour.participants

-- "It is split over the participants by real-time load and exports (document 002: load plus exports)". Decrement bids are neither, and document 02, ticket 2: "Legs aren't
-- load or exports in the surplus", which goes by the rows
abbrev pub is_share : ℕ → ℕ → Bool
is_share market kind = eqb market real_time && (eqb kind load || eqb kind export)

-- "added up in kW over the rows": what a row counts, participant p's share, and each participant's
abbrev pub share_kw : Row → ℤ
share_kw r = only (is_share r.market r.kind) (pos r.kw.0)

abbrev pub share_of : Hour → ℕ → ℤ
share_of hour p = Σℤ (λ r. only (eqb r.participant p) (share_kw r)) hour.rows

unfoldable pub shares : Hour → List ℤ
shares hour = tab (share_of hour) hour.participants

-- each participant's credit
unfoldable pub credits : Hour → List ℤ
credits hour = parts (surplus hour) (shares hour)

-- "net (charges less credit)"
unfoldable pub nets : Hour → List ℤ
nets hour = tab (λ p. congestion_charge hour p +ℤ loss_charge hour p -ℤ credits hour at p) hour.participants
