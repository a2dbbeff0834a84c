-- The exercise file (document 01, "The exercise file"; document 02, ticket 2): its header, prices, rows and transactions, packed by the widths of Layout.antt, where they
-- stand, and the hour that a file holds. Assumes nothing.
use Rattle.std.specs.Prelude.{List, ℕ, ◌+◌, ◌*◌, ◌-◌, ℤ, take, drop}
use Rattle.ints.specs.Table.{tab}
use Rattle.ints.specs.Twos.{twos}
use Rattle.hour.specs.Hour.{Hour}
use Rattle.hour.specs.declared.Edition.{Edition}
use Rattle.hour.specs.declared.Row.{Row}
use Rattle.hour.specs.declared.Transaction.{Transaction}
use Rattle.exercise.specs.Layout.{header_widths, header_size, price_width, price_size, row_widths, row_size, transaction_widths, transaction_size, edition_of}
use Rattle.exercise.specs.Packed.{bytes_at, field_at}
use Rattle.exercise.specs.declared.Header.{Header}
use Rattle.exercise.specs.declared.Places.{Places}

-- ---- "Header, 40 bits: participants less 1, locations less 1, rows, transactions", edition

abbrev pub header_of : ℕ → Header
header_of v =
    record {
      participants = field_at header_widths v 0 + 1;
      locations = field_at header_widths v 1 + 1;
      rows = field_at header_widths v 2;
      transactions = field_at header_widths v 3;
      edition = field_at header_widths v 4;
    }

unfoldable pub header : List ℕ → Header
header file = header_of (bytes_at file 0 header_size)

-- ---- "Prices, 24 bits each, two's complement"

-- price j of a stretch of prices, and the n prices from price j on
abbrev pub price_at : List ℕ → ℕ → ℤ
price_at s j = twos price_width (bytes_at s (price_size * j) price_size)

abbrev pub prices_from : List ℕ → ℕ → ℕ → List ℤ
prices_from s j n = tab (λ i. price_at s (j + i)) n

-- "congestion day-ahead for each location, congestion real time interval by interval, then loss the same way": 1 + 12 + 1 + 12 prices for each location
abbrev pub price_count : Header → ℕ
price_count h = 26 * h.locations

-- ---- "Row, 48 bits: market, kind, interval, participant, location, kW, spare"

abbrev pub row_of : ℕ → Row
row_of v =
    record {
      market = field_at row_widths v 0;
      kind = field_at row_widths v 1;
      interval = field_at row_widths v 2;
      participant = field_at row_widths v 3;
      location = field_at row_widths v 4;
      kw = record { 0 = field_at row_widths v 5 };
    }

abbrev pub row_spare : ℕ → ℕ
row_spare v = field_at row_widths v 6

-- row i of a stretch of rows, packed and read, and the first n rows
abbrev pub packed_row : List ℕ → ℕ → ℕ
packed_row s i = bytes_at s (row_size * i) row_size

abbrev pub row_at : List ℕ → ℕ → Row
row_at s i = row_of (packed_row s i)

abbrev pub rows_in : List ℕ → ℕ → List Row
rows_in s n = tab (row_at s) n

-- ---- "Transaction: market, interval, participant", seller, "source, sink, kW", spare; in edition 0 seller and spare have no bits, and are 0

abbrev pub transaction_of : Edition → ℕ → Transaction
transaction_of edition v =
    record {
      market = field_at (transaction_widths edition) v 0;
      interval = field_at (transaction_widths edition) v 1;
      participant = field_at (transaction_widths edition) v 2;
      seller = field_at (transaction_widths edition) v 3;
      source = field_at (transaction_widths edition) v 4;
      sink = field_at (transaction_widths edition) v 5;
      kw = record { 0 = field_at (transaction_widths edition) v 6 };
    }

abbrev pub transaction_spare : Edition → ℕ → ℕ
transaction_spare edition v = field_at (transaction_widths edition) v 7

-- transaction i of a stretch of transactions, packed and read, and the first n transactions
abbrev pub packed_transaction : Edition → List ℕ → ℕ → ℕ
packed_transaction edition s i = bytes_at s (transaction_size edition * i) (transaction_size edition)

abbrev pub transaction_at : Edition → List ℕ → ℕ → Transaction
transaction_at edition s i = transaction_of edition (packed_transaction edition s i)

abbrev pub transactions_in : Edition → List ℕ → ℕ → List Transaction
transactions_in edition s n = tab (transaction_at edition s) n

-- ---- where prices, rows and transactions start, and where the file ends

unfoldable pub places_of : Header → Places
places_of h =
    let rows = header_size + price_size * price_count h in
    let transactions = rows + row_size * h.rows in
    record {
      prices = header_size;
      rows = rows;
      transactions = transactions;
      end = transactions + transaction_size (edition_of h.edition) * h.transactions;
    }

abbrev pub places : List ℕ → Places
places file = places_of (header file)

-- the bytes from one place to another: the stretches of prices, rows and transactions
abbrev pub bytes_from : ℕ → ℕ → List ℕ → List ℕ
bytes_from from to file = take (to - from) (drop from file)

abbrev pub price_bytes : List ℕ → List ℕ
price_bytes file = bytes_from (places file).prices (places file).rows file

abbrev pub row_bytes : List ℕ → List ℕ
row_bytes file = bytes_from (places file).rows (places file).transactions file

abbrev pub transaction_bytes : List ℕ → List ℕ
transaction_bytes file = bytes_from (places file).transactions (places file).end file

-- ---- the hour that a file holds

abbrev pub edition_in : List ℕ → Edition
edition_in file = edition_of (header file).edition

abbrev pub hour_of : List ℕ → Hour
hour_of file =
    let n = (header file).locations in
    record {
      participants = (header file).participants;
      locations = n;
      congestion_ahead = prices_from (price_bytes file) 0 n;
      congestion_real = prices_from (price_bytes file) n (12 * n);
      loss_ahead = prices_from (price_bytes file) (13 * n) n;
      loss_real = prices_from (price_bytes file) (14 * n) (12 * n);
      rows = rows_in (row_bytes file) (header file).rows;
      edition = edition_in file;
      transactions = transactions_in (edition_in file) (transaction_bytes file) (header file).transactions;
    }
