-- What a market allows: kinds up to the increment offer, in real time two fewer; and interval 0, in real time those up to 11. Assumes nothing.
use mathlib.Core.Path.{◌≡◌, refl, sym, ap}
use mathlib.Core.Bool.{false}
use Prim.Native.Nat.{ℕ, zero, suc, ◌+◌, ◌*◌, ◌≤◌, ◌<◌}
use native.Mathlib.Omega.{arith}
use borrow.Author.Tests.{le-leb, lt-leb, leb-true, eq-eqb, ne_eqb, eqb-true}
use lib.Dec.{leb, eqb}
use Rattle.ints.proofs.Bools.{same}
use Rattle.hour.specs.Order.{has_kind, has_interval}

-- a market that is neither
module _ (market : ℕ) (l : 1 < market) where
  day-ahead : eqb market 0 ≡ false
  day-ahead = ne_eqb market 0 (omega (arith, l))

  real-time : eqb market 1 ≡ false
  real-time = ne_eqb market 1 (omega (arith, l))

  pub no_kind : (kind : ℕ) → false ≡ has_kind market kind
  no_kind kind = simp (day-ahead, real-time)

  pub no-interval : (interval : ℕ) → false ≡ has_interval market interval
  no-interval interval = simp (day-ahead, real-time)

pub its-kinds : (market kind : ℕ) → market ≤ 1 → leb (kind + 2 * market) 5 ≡ has_kind market kind
its-kinds zero kind l = let e : kind + 0 ≡ kind = omega arith in ap (λ (k : ℕ). leb k 5) e
its-kinds (suc zero) kind l = same (leb (kind + 2) 5) (leb kind 3) (λ e. le-leb kind 3 (omega (arith, leb-true (kind + 2) 5 e))) (λ e. le-leb (kind + 2) 5 (omega (arith, leb-true kind 3 e)))
its-kinds (suc (suc market)) kind l = absurd (omega arith)

-- a kind that no market has
pub beyond : (market kind : ℕ) → market ≤ 1 → 7 < kind → false ≡ has_kind market kind
beyond zero kind l h = sym (lt-leb kind 5 (omega arith))
beyond (suc zero) kind l h = sym (lt-leb kind 3 (omega arith))
beyond (suc (suc market)) kind l h = absurd (omega arith)

pub its-intervals : (market interval : ℕ) → market ≤ 1 → leb interval (11 * market) ≡ has_interval market interval
its-intervals zero interval l = same (leb interval 0) (eqb interval 0) (λ e. eq-eqb interval 0 (omega (arith, leb-true interval 0 e))) (λ e. le-leb interval 0 (omega (arith, eqb-true interval 0 e)))
its-intervals (suc zero) interval l = refl
its-intervals (suc (suc market)) interval l = absurd (omega arith)
