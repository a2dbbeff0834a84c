-- A row, and a transaction, that has no refusal has passed the tests. Assumes nothing.
use mathlib.Core.Path.{◌≡◌, refl}
use mathlib.Core.Logic.{inl, inr}
use mathlib.Core.Bool.{Bool, true, false, ◌&&◌}
use Prim.Native.Nat.{ℕ, ◌+◌, ◌≤◌, ◌<◌}
use native.Mathlib.Omega.{arith}
use lib.Dec.{ltb, leb, eqb}
use borrow.Author.Tests.{ltb-true, leb-true, eqb-true}
use Rattle.ints.specs.Refusal.{pick}
use Rattle.ints.proofs.Bools.{and-true}
use Rattle.ints.proofs.Refusals.{passed}
use Rattle.hour.specs.InsideTested.{Timed, RowTested, TransactionTested}
use Rattle.hour.specs.Order.{has_kind, has_interval, row_refusal, transaction_refusal}
use Rattle.hour.specs.declared.Row.{Row}
use Rattle.hour.specs.declared.Transaction.{Transaction}

-- ---- markets

timed : (market interval : ℕ) → has_interval market interval ≡ true → Timed market interval
timed market interval = by (eqb market 0) refl
  where
    by : (t : Bool) → eqb market 0 ≡ t → pick t (eqb interval 0) (eqb market 1 && leb interval 11) ≡ true → Timed market interval
    by true t e = inl (eqb-true market 0 t, eqb-true interval 0 e)
    by false t e = let b = and-true (eqb market 1) (leb interval 11) e in inr (eqb-true market 1 b.0, omega (arith, leb-true interval 11 b.1))

kinds : (market kind : ℕ) → has_kind market kind ≡ true → (kind < 6) × (market ≡ 1 → kind < 4)
kinds market kind = by (eqb market 0) refl
  where
    by : (t : Bool) → eqb market 0 ≡ t → pick t (leb kind 5) (eqb market 1 && leb kind 3) ≡ true → (kind < 6) × (market ≡ 1 → kind < 4)
    by true t e = (omega (arith, leb-true kind 5 e), λ m. absurd (omega (arith, eqb-true market 0 t)))
    by false t e = let k = leb-true kind 3 (and-true (eqb market 1) (leb kind 3) e).1 in (omega (arith, k), λ m. omega (arith, k))

pub interval-below : {market interval : ℕ} → Timed market interval → interval < 12
interval-below (inl h) = omega arith
interval-below (inr h) = h.1

-- day-ahead, then each interval
pub stage-below : {market interval : ℕ} → Timed market interval → market + interval < 13
stage-below (inl h) = omega arith
stage-below (inr h) = omega arith

-- ---- a row, a transaction

module _ (participants locations : ℕ) where
  pub row-tested : (r : Row) → row_refusal participants locations r ≡ 0 → RowTested participants locations r
  unfolding row_refusal
  row-tested r e =
      let p1 = passed (has_kind r.market r.kind) 3 _ e in
      let p2 = passed (has_interval r.market r.interval) 3 _ p1.1 in
      let p3 = passed (ltb r.participant participants) 2 _ p2.1 in
      let p4 = passed (ltb r.location locations) 2 _ p3.1 in
      let p5 = passed (leb r.kw.0 20000000) 1 0 p4.1 in
      let k = kinds r.market r.kind p1.0 in
      record {
        timed = timed r.market r.interval p2.0;
        kind = k.0;
        real = k.1;
        participant = ltb-true r.participant participants p3.0;
        location = ltb-true r.location locations p4.0;
        kw = leb-true r.kw.0 20000000 p5.0;
      }

  pub transaction-tested : (t : Transaction) → transaction_refusal participants locations t ≡ 0 → TransactionTested participants locations t
  unfolding transaction_refusal
  transaction-tested t e =
      let p1 = passed (has_interval t.market t.interval) 3 _ e in
      let p2 = passed (ltb t.participant participants) 2 _ p1.1 in
      let ps = passed (ltb t.seller participants) 2 _ p2.1 in
      let p3 = passed (ltb t.source locations) 2 _ ps.1 in
      let p4 = passed (ltb t.sink locations) 2 _ p3.1 in
      let p5 = passed (leb t.kw.0 20000000) 1 0 p4.1 in
      record {
        timed = timed t.market t.interval p1.0;
        participant = ltb-true t.participant participants p2.0;
        seller = ltb-true t.seller participants ps.0;
        source = ltb-true t.source locations p3.0;
        sink = ltb-true t.sink locations p4.0;
        kw = leb-true t.kw.0 20000000 p5.0;
      }

-- ---- with so many participants, or more

pub row-wider : {participants most locations : ℕ} {r : Row} → participants ≤ most → RowTested participants locations r → RowTested most locations r
row-wider h t = record { timed = t.timed; kind = t.kind; real = t.real; participant = omega (arith, t.participant); location = t.location; kw = t.kw }

pub transaction-wider : {participants most locations : ℕ} {t : Transaction} → participants ≤ most → TransactionTested participants locations t → TransactionTested most locations t
transaction-wider h t = record { timed = t.timed; participant = omega (arith, t.participant); seller = omega (arith, t.seller); source = t.source; sink = t.sink; kw = t.kw }
