-- The exercise file that is written (document 02, tickets 1 and 2): the bytes of an hour, packed as document 01, "The exercise file", has it, by the widths of Layout.antt.
-- File.antt reads it; the two can be laid side by side. Assumes nothing.
use Rattle.std.specs.Prelude.{◌≡◌, List, [], ◌∷◌, ◌++◌, ℕ, zero, suc, ◌+◌, ◌*◌, ◌-◌, ◌/◌, ◌%◌, ◌^◌, ◌≤◌, ◌<◌, ℤ, length}
use Rattle.ints.specs.Each.{Every}
use Rattle.ints.specs.Twos.{bits_of, InBits}
use Rattle.hour.specs.Hour.{Hour, all_prices}
use Rattle.hour.specs.declared.Edition.{Edition}
use Rattle.hour.specs.declared.Row.{Row}
use Rattle.hour.specs.declared.Transaction.{Transaction}
use Rattle.exercise.specs.Layout.{header_widths, header_size, price_width, price_size, row_widths, row_size, transaction_widths, transaction_size, edition_number}

-- ---- "Fields are packed, most significant bit first."

-- a field: what it holds, and its width in bits
abbrev pub Field : Type 0
Field = ℕ × ℕ

-- what fields hold, beside their widths
abbrev pub in_widths : List ℕ → List ℕ → List Field
in_widths [] values = []
in_widths (width ∷ widths) [] = []
in_widths (width ∷ widths) (value ∷ values) = (value, width) ∷ in_widths widths values

-- fields one after the other as one number; `before` is what those before them make
abbrev pub packed_after : ℕ → List Field → ℕ
packed_after before [] = before
packed_after before (field ∷ fields) = packed_after (before * 2 ^ field.1 + field.0) fields

abbrev pub packed : List Field → ℕ
packed fields = packed_after 0 fields

-- the `size` lowest bytes of a number, the highest first
unfoldable pub bytes_high : ℕ → ℕ → List ℕ
bytes_high zero v = []
bytes_high (suc size) v = bytes_high size (v / 256) ++ (v % 256 ∷ [])

-- things one after the other, `size` bytes each
unfoldable pub run : {A : Type 0} → ℕ → (A → ℕ) → List A → List ℕ
run size bits [] = []
run size bits (x ∷ xs) = bytes_high size (bits x) ++ run size bits xs

-- ---- "Header: participants less 1, locations less 1, rows, transactions", edition

-- of so many participants, locations, rows and transactions, and the edition of a number
abbrev pub count_fields : ℕ → ℕ → ℕ → ℕ → ℕ → List Field
count_fields p l r t e = in_widths header_widths ((p - 1) ∷ (l - 1) ∷ r ∷ t ∷ e ∷ [])

abbrev pub header_fields : Hour → List Field
header_fields hour = count_fields hour.participants hour.locations (length hour.rows) (length hour.transactions) (edition_number hour.edition)

-- ---- "Prices, 24 bits each, two's complement"

abbrev pub price_bits : ℤ → ℕ
price_bits price = bits_of price_width price

-- ---- "Row: market, kind, interval, participant, location, kW, spare"

abbrev pub row_fields : Row → List Field
row_fields row = in_widths row_widths (row.market ∷ row.kind ∷ row.interval ∷ row.participant ∷ row.location ∷ row.kw.0 ∷ 0 ∷ [])

abbrev pub row_bits : Row → ℕ
row_bits row = packed (row_fields row)

-- ---- "Transaction: market, interval, participant", seller, "source, sink, kW", spare

abbrev pub transaction_fields : Edition → Transaction → List Field
transaction_fields edition t =
    in_widths (transaction_widths edition) (t.market ∷ t.interval ∷ t.participant ∷ t.seller ∷ t.source ∷ t.sink ∷ t.kw.0 ∷ 0 ∷ [])

abbrev pub transaction_bits : Edition → Transaction → ℕ
transaction_bits edition t = packed (transaction_fields edition t)

-- ---- the file

abbrev pub file_of : Hour → List ℕ
file_of hour =
    bytes_high header_size (packed (header_fields hour))
    ++ (run price_size price_bits (all_prices hour)
    ++ (run row_size row_bits hour.rows
    ++ run (transaction_size hour.edition) (transaction_bits hour.edition) hour.transactions))

-- ---- an hour that its file's fields can hold, whether or not the reader accepts it (said in a theorem, not in a contract)

abbrev pub Fit : List Field → Type 0
Fit [] = Unit {0}
Fit (field ∷ fields) = (field.0 < 2 ^ field.1) × Fit fields

pub record FitsFields (hour : Hour) : Type 0 where
  pub some-participants : 1 ≤ hour.participants
  pub some-locations : 1 ≤ hour.locations
  pub header : Fit (header_fields hour)
  -- its price lists are as long as its locations are many
  pub congestion-ahead : length hour.congestion_ahead ≡ hour.locations
  pub congestion-real : length hour.congestion_real ≡ 12 * hour.locations
  pub loss-ahead : length hour.loss_ahead ≡ hour.locations
  pub loss-real : length hour.loss_real ≡ 12 * hour.locations
  pub prices : Every (InBits price_width) (all_prices hour)
  pub rows : Every (λ row. Fit (row_fields row)) hour.rows
  pub transactions : Every (λ t. Fit (transaction_fields hour.edition t)) hour.transactions
