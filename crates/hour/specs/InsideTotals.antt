-- Totals, shares and charges as lists with a number for each participant, and how large they are. Assumes nothing.
use Rattle.std.specs.Prelude.{◌≡◌, true, List, map, ◌++◌, ℕ, ℤ, pos, ◌+ℤ◌, ◌-ℤ◌, length}
use Rattle.std.specs.Int.Signed.{le_z}
use Rattle.ints.specs.Each.{Every}
use Rattle.ints.specs.InsideEvery.{owed}
use Rattle.ints.specs.Table.{◌at◌, tab}
use Rattle.units.specs.Units.{cents_of}
use Rattle.hour.specs.Charges.{charge}
use Rattle.hour.specs.Hour.{Prices, position_of, legs}
use Rattle.hour.specs.Surplus.{share_kw}
use Rattle.hour.specs.declared.Edition.{Edition}
use Rattle.hour.specs.declared.Row.{Row}
use Rattle.hour.specs.declared.Transaction.{Transaction}

-- every participant's total is what the tariff charges it, and its share what its rows count
pub record Charged (edition : Edition) (prices : Prices) (rows : List Row) (transactions : List Transaction) (totals : List ℤ) : Type 0 where
  pub each : (p : ℕ) → totals at p ≡ charge prices (map position_of rows ++ legs edition transactions) transactions p

pub record Shared (rows : List Row) (shares : List ℤ) : Type 0 where
  pub each : (p : ℕ) → shares at p ≡ owed (λ r. r.participant) share_kw rows p

-- exact totals, rounded to cents
unfoldable pub rounded : List ℤ → List ℤ
rounded exact = tab (λ p. cents_of (exact at p)) (length exact)

-- participant p's charges less its credit
abbrev pub net_at : List ℤ → List ℤ → List ℤ → ℕ → ℤ
net_at congestion loss credit p = congestion at p +ℤ loss at p -ℤ credit at p

unfoldable pub netted : List ℤ → List ℤ → List ℤ → List ℤ
netted congestion loss credit = tab (net_at congestion loss credit) (length congestion)

-- no number is below 0
abbrev pub Natural : List ℤ → Type 0
Natural list = Every (λ z. le_z (pos 0) z ≡ true) list

-- ---- the most that there can be

-- of a share: 2,048 rows of at most 20,000,000 kW each
abbrev pub shares_most : ℕ
shares_most = 40960000000

-- of a total: these at a weight of at most 120,000,000
abbrev pub rows_most : ℕ
rows_most = 4915200000000000000

-- .. and 256 transactions, which have two weights each, of their path or of buyer and seller: below 2 ^ 63
abbrev pub hour_most : ℕ
hour_most = 6144000000000000000

-- of cents, from twelfths of 64 bits
abbrev pub most_cents : ℕ
most_cents = 76861433640456

-- of a net, two charges less a credit: 64 of them fit 64 bits too
abbrev pub most_net : ℕ
most_net = 230584300921368
