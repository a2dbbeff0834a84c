-- An hour whose content passes: its fields hold it, and its file is accepted and holds it. Assumes nothing.
use mathlib.Core.Path.{◌≡◌, refl, ◌∙◌}
use mathlib.Core.Logic.{inl, inr}
use mathlib.Core.Bool.{true}
use mathlib.Core.List.{List, [], ◌∷◌}
use Prim.Native.Nat.{ℕ, ◌≤◌, ◌<◌}
use native.Mathlib.Omega.{arith}
use lib.IntN.{ℤ, pos, negsuc, nat_abs}
use lib.ListN.{length}
use borrow.Author.Tests.{le-leb}
use Rattle.ints.specs.Each.{Every}
use Rattle.ints.specs.Table.{all}
use Rattle.ints.specs.Twos.{InBits}
use Rattle.ints.proofs.Eachs.{all-every}
use Rattle.ints.proofs.Refusals.{passed}
use Rattle.ints.proofs.Tests.{between-size}
use Rattle.ints.proofs.Turns.{then-none, order-none}
use Rattle.hour.specs.Hour.{Hour, all_prices}
use Rattle.hour.specs.InsideTested.{Timed, TransactionTested}
use Rattle.hour.specs.Order.{is_price, row_refusal, packed_row_refusal, transaction_refusal, packed_transaction_refusal, prices_refusal, rows_refusal, transactions_refusal, content_refusal}
use Rattle.hour.specs.declared.Edition.{Edition}
use Rattle.hour.specs.declared.Row.{Row}
use Rattle.hour.specs.declared.Transaction.{Transaction}
use Rattle.hour.proofs.Tested.{row-tested, transaction-tested, interval-below}
use Rattle.exercise.specs.Layout.{price_width}
use Rattle.exercise.specs.Lists.{no_spare}
use Rattle.exercise.specs.Order.{file_refusal}
use Rattle.exercise.specs.Written.{row_fields, transaction_fields, file_of, Fit, FitsFields}
use Rattle.exercise.proofs.Content.{Priced}
use Rattle.exercise.proofs.Whole.{numbered}
use Rattle.exercise.proofs.Written.{written-refusal}

-- ---- what passes fits its fields

price-passes : (price : ℤ) → is_price price ≡ true → InBits price_width price
price-passes price e = sized price (between-size price 5000000 e)
  where
    sized : (price : ℤ) → nat_abs price ≤ 5000000 → InBits price_width price
    sized (pos n) h = omega arith
    sized (negsuc n) h = omega arith

market-below : {market interval : ℕ} → Timed market interval → market < 2
market-below (inl h) = omega arith
market-below (inr h) = omega arith

-- transactions of an edition without sellers have none
abbrev pub Unsold : Edition → List Transaction → Type 0
Unsold Edition.PathOnly ts = Every (λ t. t.seller ≡ 0) ts
Unsold Edition.WithSeller ts = Unit {0}

module _ (participants locations : ℕ) (few-participants : participants ≤ 64) (few-locations : locations ≤ 64) where
  row-passes : (i : ℕ) (r : Row) → packed_row_refusal participants locations r 0 ≡ 0 → Fit (row_fields r)
  unfolding packed_row_refusal
  row-passes i r e =
      let t = row-tested participants locations r (then-none (row_refusal participants locations r) _ e).0 in
      (market-below t.timed, (omega (arith, t.kind), (omega (arith, interval-below t.timed), (omega (arith, t.participant), (omega (arith, t.location), (omega (arith, t.kw), (omega arith, tt)))))))

  transaction-passes : (i : ℕ) (t : Transaction) → packed_transaction_refusal participants locations t 0 ≡ 0 → TransactionTested participants locations t
  unfolding packed_transaction_refusal
  transaction-passes i t e = transaction-tested participants locations t (then-none (transaction_refusal participants locations t) _ e).0

  -- without a seller there are no bits for one
  tested-fits : (edition : Edition) (ts : List Transaction) → Unsold edition ts → Every (TransactionTested participants locations) ts → Every (λ t. Fit (transaction_fields edition t)) ts
  tested-fits edition [] u e = tt
  tested-fits Edition.PathOnly (t ∷ ts) u e = (
    (market-below e.0.timed, (omega (arith, interval-below e.0.timed), (omega (arith, e.0.participant), (omega (arith, u.0), (omega (arith, e.0.source), (omega (arith, e.0.sink), (omega (arith, e.0.kw), (omega arith, tt)))))))),
    tested-fits Edition.PathOnly ts u.1 e.1,
  )
  tested-fits Edition.WithSeller (t ∷ ts) u e = (
    (market-below e.0.timed, (omega (arith, interval-below e.0.timed), (omega (arith, e.0.participant), (omega (arith, e.0.seller), (omega (arith, e.0.source), (omega (arith, e.0.sink), (omega (arith, e.0.kw), (omega arith, tt)))))))),
    tested-fits Edition.WithSeller ts u e.1,
  )

-- ---- an hour within its counts, its price lists as long as they should be

pub record Counts (hour : Hour) : Type 0 where
  pub some-participants : 1 ≤ hour.participants
  pub few-participants : hour.participants ≤ 64
  pub some-locations : 1 ≤ hour.locations
  pub few-locations : hour.locations ≤ 64
  pub few-rows : length hour.rows ≤ 2048
  pub few-transactions : length hour.transactions ≤ 256
  pub unsold : Unsold hour.edition hour.transactions
  pub priced : Priced hour.locations hour.congestion_ahead hour.congestion_real hour.loss_ahead hour.loss_real

module _ (hour : Hour) (k : Counts hour) where
  pub passes-fits : content_refusal hour no_spare ≡ 0 → FitsFields hour
  unfolding content_refusal prices_refusal rows_refusal transactions_refusal
  passes-fits e =
      let q = then-none (prices_refusal hour) _ e in
      let r = then-none (rows_refusal hour no_spare) (transactions_refusal hour no_spare) q.1 in
      let tested = order-none (λ i t. packed_transaction_refusal hour.participants hour.locations t (no_spare.transaction i)) (TransactionTested hour.participants hour.locations) (transaction-passes hour.participants hour.locations k.few-participants k.few-locations) 0 hour.transactions r.1 in
      record {
        some-participants = k.some-participants;
        some-locations = k.some-locations;
        header = (omega (arith, k.few-participants), (omega (arith, k.few-locations), (omega (arith, k.few-rows), (omega (arith, k.few-transactions), (omega (arith, numbered hour.edition), tt)))));
        congestion-ahead = k.priced.congestion-ahead;
        congestion-real = k.priced.congestion-real;
        loss-ahead = k.priced.loss-ahead;
        loss-real = k.priced.loss-real;
        prices = all-every is_price (InBits price_width) price-passes (all_prices hour) (passed (all is_price (all_prices hour)) 1 0 q.0).0;
        rows = order-none (λ i row. packed_row_refusal hour.participants hour.locations row (no_spare.row i)) (λ row. Fit (row_fields row)) (row-passes hour.participants hour.locations k.few-participants k.few-locations) 0 hour.rows r.0;
        transactions = tested-fits hour.participants hour.locations k.few-participants k.few-locations hour.edition hour.transactions k.unsold tested;
      }

  -- of what fits, its file is refused as its content is
  pub file-refused : FitsFields hour → file_refusal (file_of hour) ≡ content_refusal hour no_spare
  file-refused f =
      written-refusal hour f
      ∙ rw (le-leb (length hour.rows) 2048 k.few-rows, le-leb (length hour.transactions) 256 k.few-transactions) refl

  -- what is written passes the check
  pub file-accepted : content_refusal hour no_spare ≡ 0 → file_refusal (file_of hour) ≡ 0
  file-accepted e = file-refused (passes-fits e) ∙ e
