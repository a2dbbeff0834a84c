-- The sizes of what rows and transactions add. Assumes nothing.
use mathlib.Core.List.{List}
use Prim.Native.Nat.{ℕ}
use lib.Dec.{lit≤}
use lib.IntN.{ℤ, pos, ◌*ℤ◌}
use Rattle.ints.specs.InsideRange.{Within}
use Rattle.ints.proofs.Sizes.{w-mul, w-up}
use Rattle.hour.specs.InsideTested.{RowTested, TransactionTested}
use Rattle.hour.specs.declared.Row.{Row}
use Rattle.hour.specs.Hour.{withdraws}
use Rattle.hour.proofs.Sign.{sign-within}
use Rattle.hour_weights.specs.Inside.{Table}
use Rattle.hour_weights.proofs.Weights.{weight-range}
use Rattle.hour.specs.declared.Edition.TheVariants as Edition
use Rattle.hour.specs.declared.Transaction.{Transaction}
use Rattle.hour.specs.InsideParts.{sign, weight_in, buyer_part, seller_part}
use Rattle.hour.proofs.Legs.{buyer-range}
use Rattle.hour_totals.specs.Inside.{part_in}

-- a row's kW with their sign
pub kw-range : {participants locations : ℕ} {r : Row} → RowTested participants locations r → Within (sign (withdraws r.kind) *ℤ pos r.kw.0) 20000000
kw-range {r = r} t = let kw : Within (pos r.kw.0) 20000000 = record { within = t.kw } in w-up (w-mul (sign-within (withdraws r.kind)) kw) (lit≤ tt)

module _ {locations : ℕ} {table : List ℤ} (h : Table locations table) where
  -- a weight is at most 120,000,000 in size, so a row's part is at most 2,400,000,000,000,000
  pub part-range : {participants : ℕ} {r : Row} → RowTested participants locations r → Within (part_in table locations r) 2400000000000000
  part-range {r = r} t = w-mul (kw-range t) (weight-range h r.market r.interval r.location)

  -- what the path of a transaction adds is at most twice that, and what a sale adds as much as a row
  pub path-range : {participants : ℕ} {t : Transaction} → TransactionTested participants locations t → Within (buyer_part Edition.PathOnly (weight_in table locations) t) 4800000000000000
  path-range {t = t} q = buyer-range (weight_in table locations) (weight-range h) Edition.PathOnly t q.kw

  pub sale-range : {participants : ℕ} {t : Transaction} → TransactionTested participants locations t → Within (seller_part Edition.WithSeller (weight_in table locations) t) 2400000000000000
  unfolding seller_part
  sale-range {t = t} q =
      let kw : Within (pos t.kw.0) 20000000 = record { within = q.kw } in
      w-mul kw (weight-range h t.market t.interval t.source)
