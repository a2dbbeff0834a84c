-- What the order of refusals tells of a file that it accepts: the hour that it holds is within all its limits, and no spare bit is set. Assumes nothing.
use mathlib.Core.Path.{◌≡◌, ◌∙◌}
use mathlib.Core.List.{List}
use Prim.Native.Nat.{ℕ, ◌+◌, ◌*◌, ◌≤◌, ◌<◌}
use native.Mathlib.Omega.{arith}
use Rattle.ints.specs.InsideRange.{InRange}
use Rattle.ints.proofs.Tables.{length-tab}
use Rattle.ints.proofs.Turns.{then-none}
use Rattle.hour.specs.InsideTested.{Sound}
use Rattle.hour.specs.Order.{outputs_refusal, credits_refusal}
use Rattle.exercise.specs.File.{header, price_count, prices_from, packed_row, row_spare, row_at, packed_transaction, transaction_spare, transaction_at, price_bytes, row_bytes, transaction_bytes, edition_in, hour_of}
use Rattle.exercise.specs.Order.{frame_refusal, spare_of, file_refusal, settled_refusal, hour_refusal}
use Rattle.exercise.proofs.Prices.{prices-within}
use Rattle.exercise.proofs.Tested.{rows-tested, rows-spare, transactions-tested, transactions-spare}
use Rattle.exercise.proofs.Whole.{Whole, small, whole, some-participant}
use Rattle.exercise.specs.Inside.{prices_in_refusal, rows_in_refusal, transactions_in_refusal, both_refusal}
use Rattle.exercise.proofs.Content.{content-is}
use Rattle.hour.specs.Order.{content_refusal}

module _ (file : List ℕ) (frame : frame_refusal file ≡ 0) (content : content_refusal (hour_of file) (spare_of file) ≡ 0) where
  abbrev n : ℕ
  n = (header file).locations

  -- as loops go through it
  prices-pass : (prices_in_refusal (price_bytes file) (price_count (header file)) ≡ 0) × (both_refusal (header file) (row_bytes file) (transaction_bytes file) ≡ 0)
  prices-pass = then-none (prices_in_refusal (price_bytes file) (price_count (header file))) _ (content-is file ∙ content)

  rows_pass : (rows_in_refusal (header file).participants n (row_bytes file) (header file).rows ≡ 0) × (transactions_in_refusal (edition_in file) (header file).participants n (transaction_bytes file) (header file).transactions ≡ 0)
  rows_pass = then-none (rows_in_refusal (header file).participants n (row_bytes file) (header file).rows) _ prices-pass.1

  in-range : (j m : ℕ) → j + m ≤ price_count (header file) → InRange (prices_from (price_bytes file) j m) 5000000
  in-range j m l = record { each = prices-within (price_bytes file) (price_count (header file)) prices-pass.0 j m l }

  pub sound : Sound (hour_of file)
  sound =
      let w = whole file frame in
      record {
        some = some-participant file;
        few = (small file).participants;
        few-locations = (small file).locations;
        congestion-ahead-long = length-tab _ _;
        congestion-real-long = length-tab _ _;
        loss-ahead-long = length-tab _ _;
        loss-real-long = length-tab _ _;
        congestion-ahead = in-range 0 n (omega arith);
        congestion-real = in-range n (12 * n) (omega arith);
        loss-ahead = in-range (13 * n) n (omega arith);
        loss-real = in-range (14 * n) (12 * n) (omega arith);
        few-rows = omega (arith, length-tab (row_at (row_bytes file)) (header file).rows, w.rows);
        few-transactions = omega (arith, length-tab (transaction_at (edition_in file) (transaction_bytes file)) (header file).transactions, w.transactions);
        each_row = rows-tested (header file).participants n (row_bytes file) (header file).rows rows_pass.0;
        each-transaction = transactions-tested (edition_in file) (header file).participants n (transaction_bytes file) (header file).transactions rows_pass.1;
      }

  -- "All spare bits are 0": those of row i, and those of transaction i
  pub no-spare : (i : ℕ) → i < (header file).rows → row_spare (packed_row (row_bytes file) i) ≡ 0
  no-spare = rows-spare (header file).participants n (row_bytes file) (header file).rows rows_pass.0

  pub no-spare-beside : (i : ℕ) → i < (header file).transactions → transaction_spare (edition_in file) (packed_transaction (edition_in file) (transaction_bytes file) i) ≡ 0
  no-spare-beside = transactions-spare (edition_in file) (header file).participants n (transaction_bytes file) (header file).transactions rows_pass.1

-- a file that the check answers 0 for
pub accepted : (file : List ℕ) → file_refusal file ≡ 0 → Whole file × Sound (hour_of file)
accepted file e = let p = then-none _ _ e in (whole file p.0, sound file p.0 p.1)

-- an hour that is settled: its file is whole, it is within its limits, and its surplus is accepted
module _ (counted : ℕ → ℕ) (file lengths : List ℕ) (accepts : hour_refusal counted file lengths ≡ 0) where
  passes : (frame_refusal file ≡ 0) × (content_refusal (hour_of file) (spare_of file) ≡ 0) × (credits_refusal (hour_of file) ≡ 0)
  unfolding hour_refusal
  passes =
      let a = then-none (frame_refusal file) _ accepts in
      let b = then-none (outputs_refusal (counted (hour_of file).participants) lengths) (settled_refusal file) a.1 in
      let c = then-none (content_refusal (hour_of file) (spare_of file)) _ b.1 in
      (a.0, c.0, c.1)

  pub settled-sound : Sound (hour_of file)
  settled-sound = sound file passes.0 passes.1

  pub settled-accepts : credits_refusal (hour_of file) ≡ 0
  settled-accepts = passes.2
