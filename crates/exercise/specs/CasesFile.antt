-- The file of document 01, "Cases", and the longest file, computed by the definitions. Assumes nothing.
use Rattle.std.specs.Prelude.{◌≡◌, refl, true, false, List, [], ◌∷◌, ◌++◌, ℕ, zero, suc, ℤ, pos, negsuc, length}
use Rattle.ints.specs.Table.{tab, all}
use Rattle.ints.specs.Turn.{in_order}
use Rattle.exercise.specs.Packed.{bytes_at}
use Rattle.hour.specs.Order.{row_refusal, transaction_refusal}
use Rattle.exercise.specs.File.{hour_of, header, places_of, places, price_at}
use Rattle.exercise.specs.Order.{header_refusal, frame_refusal, spare_of, file_refusal}
use Rattle.exercise.specs.Reader.{stretch, stretch_start}
use Rattle.hour.specs.Order.{is_price, packed_row_refusal, packed_transaction_refusal, prices_refusal, rows_refusal, transactions_refusal, content_refusal}

-- the order from the prices to the last transaction
abbrev content : List ℕ → ℕ
content file = content_refusal (hour_of file) (spare_of file)

-- so many times the same bytes
abbrev pub times : ℕ → List ℕ → List ℕ
times zero s = []
times (suc n) s = s ++ times n s

-- "The file is 04 10 03 00 00; 78 zero bytes; 00 00 78 00 02 58 thirteen times; 80 00 10 18 6A 00, 90 04 00 0D 6D 80, A0 04 10 0C 35 00"
abbrev pub statement : List ℕ
statement =
    (0x04 ∷ 0x10 ∷ 0x03 ∷ 0x00 ∷ 0x00 ∷ [])
    ++ times 78 (0x00 ∷ [])
    ++ times 13 (0x00 ∷ 0x00 ∷ 0x78 ∷ 0x00 ∷ 0x02 ∷ 0x58 ∷ [])
    ++ (0x80 ∷ 0x00 ∷ 0x10 ∷ 0x18 ∷ 0x6A ∷ 0x00 ∷ 0x90 ∷ 0x04 ∷ 0x00 ∷ 0x0D ∷ 0x6D ∷ 0x80 ∷ 0xA0 ∷ 0x04 ∷ 0x10 ∷ 0x0C ∷ 0x35 ∷ 0x00 ∷ [])

counts : header statement ≡ record { participants = 2; locations = 2; rows = 3; transactions = 0; edition = 0 }
unfolding header bytes_at
counts = refl

passes : file_refusal statement ≡ 0
unfolding header bytes_at places_of header_refusal frame_refusal content_refusal prices_refusal rows_refusal transactions_refusal in_order tab all packed_row_refusal row_refusal packed_transaction_refusal transaction_refusal
passes = refl

loss-prices : (hour_of statement).loss_ahead ≡ pos 120 ∷ pos 600 ∷ []
unfolding header bytes_at places_of tab
loss-prices = refl

congestion-prices : length (hour_of statement).congestion_real ≡ 24
unfolding header bytes_at places_of tab
congestion-prices = refl

positions : (hour_of statement).rows
    ≡ record { market = 1; kind = 0; interval = 0; participant = 0; location = 1; kw = record { 0 = 200000 } }
    ∷ record { market = 1; kind = 1; interval = 0; participant = 1; location = 0; kw = record { 0 = 110000 } }
    ∷ record { market = 1; kind = 2; interval = 0; participant = 1; location = 1; kw = record { 0 = 100000 } }
    ∷ []
unfolding header bytes_at places_of tab
positions = refl

-- "The longest file has 18,821 bytes"
longest : (places_of (record { participants = 64; locations = 64; rows = 2048; transactions = 256; edition = 0 })).end ≡ 18821
unfolding places_of
longest = refl

-- ---- a file of 1 participant and 2 locations, no row and no transaction, whose 52 prices are 1, 2, .. 52 mills

abbrev price_bytes : ℕ → List ℕ
price_bytes zero = []
price_bytes (suc n) = price_bytes n ++ (0x00 ∷ 0x00 ∷ suc n ∷ [])

abbrev rising : List ℕ
rising = (0x00 ∷ 0x10 ∷ 0x00 ∷ 0x00 ∷ 0x00 ∷ []) ++ price_bytes 52

-- n prices from m mills on, each a mill higher
abbrev run : ℕ → ℕ → List ℤ
run m zero = []
run m (suc n) = pos m ∷ run (suc m) n

rising-passes : file_refusal rising ≡ 0
unfolding header bytes_at places_of header_refusal frame_refusal content_refusal prices_refusal rows_refusal transactions_refusal in_order tab all
rising-passes = refl

-- 1 and 2
first-prices : (hour_of rising).congestion_ahead ≡ run 1 2
unfolding header bytes_at places_of tab
first-prices = refl

-- 3 to 26
second-prices : (hour_of rising).congestion_real ≡ run 3 24
unfolding header bytes_at places_of tab
second-prices = refl

-- 27 and 28
third-prices : (hour_of rising).loss_ahead ≡ run 27 2
unfolding header bytes_at places_of tab
third-prices = refl

-- 29 to 52
last-prices : (hour_of rising).loss_real ≡ run 29 24
unfolding header bytes_at places_of tab
last-prices = refl

-- ---- files of 2 participants and 1 location, whose prices are 0 but for the last one, with one row and one transaction

abbrev one_row : List ℕ → List ℕ → List ℕ → List ℕ
one_row price row transaction = (0x04 ∷ 0x00 ∷ 0x01 ∷ 0x00 ∷ 0x40 ∷ []) ++ times 75 (0x00 ∷ []) ++ price ++ row ++ transaction

abbrev no_price : List ℕ
no_price = 0x00 ∷ 0x00 ∷ 0x00 ∷ []

-- real-time export in interval 11: participant 1, location 0, 5 kW
abbrev export : List ℕ
export = 0xAB ∷ 0x04 ∷ 0x00 ∷ 0x00 ∷ 0x00 ∷ 0x28 ∷ []

-- real time, interval 9, participant 1, from location 0 to it, 7 kW
abbrev circle : List ℕ
circle = 0xC8 ∷ 0x20 ∷ 0x00 ∷ 0x00 ∷ 0x00 ∷ 0x07 ∷ []

abbrev sound : List ℕ
sound = one_row no_price export circle

-- 5 and 26 prices of 3, one row of 6, one transaction of 6
where-they-stand : places sound ≡ record { prices = 5; rows = 83; transactions = 89; end = 95 }
unfolding header bytes_at places_of
where-they-stand = refl

sound-row : (hour_of sound).rows ≡ record { market = 1; kind = 2; interval = 11; participant = 1; location = 0; kw = record { 0 = 5 } } ∷ []
unfolding header bytes_at places_of tab
sound-row = refl

sound-transaction : (hour_of sound).transactions ≡ record { market = 1; interval = 9; participant = 1; seller = 0; source = 0; sink = 0; kw = record { 0 = 7 } } ∷ []
unfolding header bytes_at places_of tab
sound-transaction = refl

-- the row's bytes, where they stand
sound-stretch : stretch sound ≡ export
unfolding header bytes_at places_of header_refusal frame_refusal content_refusal prices_refusal rows_refusal transactions_refusal in_order tab all packed_row_refusal row_refusal packed_transaction_refusal transaction_refusal
sound-stretch = refl

sound-start : stretch_start sound ≡ 83
unfolding header bytes_at places_of header_refusal frame_refusal content_refusal prices_refusal rows_refusal transactions_refusal in_order tab all packed_row_refusal row_refusal packed_transaction_refusal transaction_refusal
sound-start = refl

-- ---- what is wrong: the price 8,388,607, a spare bit (9), kind 6 (4), a day-ahead transaction in interval 1 (4)

abbrev high_price : List ℕ
high_price = 0x7F ∷ 0xFF ∷ 0xFF ∷ []

abbrev spare_set : List ℕ
spare_set = 0xAB ∷ 0x04 ∷ 0x00 ∷ 0x00 ∷ 0x00 ∷ 0x29 ∷ []

abbrev no_kind : List ℕ
no_kind = 0x60 ∷ 0x04 ∷ 0x00 ∷ 0x00 ∷ 0x00 ∷ 0x28 ∷ []

abbrev too_late : List ℕ
too_late = 0x08 ∷ 0x20 ∷ 0x00 ∷ 0x00 ∷ 0x00 ∷ 0x07 ∷ []

-- the last price, before the row
price-first : content (one_row high_price no_kind too_late) ≡ 2
unfolding header bytes_at places_of content_refusal prices_refusal rows_refusal transactions_refusal in_order tab all packed_row_refusal row_refusal packed_transaction_refusal transaction_refusal
price-first = refl

row_next : content (one_row no_price spare_set too_late) ≡ 9
unfolding header bytes_at places_of content_refusal prices_refusal rows_refusal transactions_refusal in_order tab all packed_row_refusal row_refusal packed_transaction_refusal transaction_refusal
row_next = refl

transaction-last : content (one_row no_price export too_late) ≡ 4
unfolding header bytes_at places_of content_refusal prices_refusal rows_refusal transactions_refusal in_order tab all packed_row_refusal row_refusal packed_transaction_refusal transaction_refusal
transaction-last = refl

-- such a file has no stretch, wrong as it is in its last transaction only
no-stretch : stretch (one_row no_price export too_late) ≡ []
unfolding header bytes_at places_of header_refusal frame_refusal content_refusal prices_refusal rows_refusal transactions_refusal in_order tab all packed_row_refusal row_refusal packed_transaction_refusal transaction_refusal
no-stretch = refl

no_start : stretch_start (one_row no_price export too_late) ≡ 0
unfolding header bytes_at places_of header_refusal frame_refusal content_refusal prices_refusal rows_refusal transactions_refusal in_order tab all packed_row_refusal row_refusal packed_transaction_refusal transaction_refusal
no_start = refl

-- "rows in turn": two rows, the first with 9 and the second with 4, and the other way about
abbrev two : List ℕ → List ℕ → List ℕ
two row next = (0x04 ∷ 0x00 ∷ 0x02 ∷ 0x00 ∷ 0x00 ∷ []) ++ times 78 (0x00 ∷ []) ++ row ++ next

in-turn : content (two spare_set no_kind) ≡ 9
unfolding header bytes_at places_of content_refusal prices_refusal rows_refusal transactions_refusal in_order tab all packed_row_refusal row_refusal
in-turn = refl

in-turn-too : content (two no_kind spare_set) ≡ 4
unfolding header bytes_at places_of content_refusal prices_refusal rows_refusal transactions_refusal in_order tab all packed_row_refusal row_refusal
in-turn-too = refl

-- "transactions in turn": two transactions, the first with 2 and the second with 4, and the other way about
abbrev two_paths : List ℕ → List ℕ → List ℕ
two_paths path next = (0x04 ∷ 0x00 ∷ 0x00 ∷ 0x00 ∷ 0x80 ∷ []) ++ times 78 (0x00 ∷ []) ++ path ++ next

-- real time, interval 9, participant 1, 20,000,001 kW
abbrev too_much : List ℕ
too_much = 0xC8 ∷ 0x20 ∷ 0x01 ∷ 0x31 ∷ 0x2D ∷ 0x01 ∷ []

paths-in-turn : content (two_paths too_much too_late) ≡ 2
unfolding header bytes_at places_of content_refusal prices_refusal rows_refusal transactions_refusal in_order tab all packed_transaction_refusal transaction_refusal
paths-in-turn = refl

paths-in-turn-too : content (two_paths too_late too_much) ≡ 4
unfolding header bytes_at places_of content_refusal prices_refusal rows_refusal transactions_refusal in_order tab all packed_transaction_refusal transaction_refusal
paths-in-turn-too = refl

-- ---- the lines of the order to the length, each before the next one

four_bytes : frame_refusal (0xFF ∷ 0xFF ∷ 0xFF ∷ 0xFF ∷ []) ≡ 9
unfolding frame_refusal
four_bytes = refl

-- document 02, ticket 2: "9 for any other edition". The header's last six bits are 2, and 63, with 4,095 rows and 1,023 transactions; with 1 it is these that are refused
edition-2 : frame_refusal (0xFF ∷ 0xFF ∷ 0xFF ∷ 0xFF ∷ 0xC2 ∷ []) ≡ 9
unfolding frame_refusal header_refusal header bytes_at
edition-2 = refl

edition-63 : frame_refusal (0xFF ∷ 0xFF ∷ 0xFF ∷ 0xFF ∷ 0xFF ∷ []) ≡ 9
unfolding frame_refusal header_refusal header bytes_at
edition-63 = refl

edition-1 : frame_refusal (0xFF ∷ 0xFF ∷ 0xFF ∷ 0xFF ∷ 0xC1 ∷ []) ≡ 1
unfolding frame_refusal header_refusal header bytes_at
edition-1 = refl

many-rows : frame_refusal (0x00 ∷ 0x08 ∷ 0x01 ∷ 0x00 ∷ 0x00 ∷ []) ≡ 1
unfolding frame_refusal header_refusal header bytes_at
many-rows = refl

many-transactions : frame_refusal (0x00 ∷ 0x00 ∷ 0x00 ∷ 0x40 ∷ 0x40 ∷ []) ≡ 1
unfolding frame_refusal header_refusal header bytes_at
many-transactions = refl

no-prices : frame_refusal (0x00 ∷ 0x00 ∷ 0x00 ∷ 0x00 ∷ 0x00 ∷ []) ≡ 9
unfolding frame_refusal header_refusal header bytes_at places_of
no-prices = refl

-- 1 participant and 1 location: 5 bytes and 26 prices of 3
whole : frame_refusal (times 83 (0x00 ∷ [])) ≡ 0
unfolding frame_refusal header_refusal header bytes_at places_of
whole = refl

byte-missing : frame_refusal (times 82 (0x00 ∷ [])) ≡ 9
unfolding frame_refusal header_refusal header bytes_at places_of
byte-missing = refl

byte_more : frame_refusal (times 84 (0x00 ∷ [])) ≡ 9
unfolding frame_refusal header_refusal header bytes_at places_of
byte_more = refl

-- as many rows and transactions as may be
most : header_refusal (record { participants = 64; locations = 64; rows = 2048; transactions = 256; edition = 0 }) 18821 ≡ 0
unfolding header_refusal places_of
most = refl

-- ---- prices: the least in range, and one below it

least : price_at (0xB3 ∷ 0xB4 ∷ 0xC0 ∷ []) 0 ≡ negsuc 4999999
unfolding bytes_at
least = refl

below : is_price (price_at (0xB3 ∷ 0xB4 ∷ 0xBF ∷ []) 0) ≡ false
unfolding bytes_at
below = refl

least-passes : is_price (price_at (0xB3 ∷ 0xB4 ∷ 0xC0 ∷ []) 0) ≡ true
unfolding bytes_at
least-passes = refl

-- the largest, 5,000,000, and one above it
largest-passes : is_price (price_at (0x4C ∷ 0x4B ∷ 0x40 ∷ []) 0) ≡ true
unfolding bytes_at
largest-passes = refl

above : is_price (price_at (0x4C ∷ 0x4B ∷ 0x41 ∷ []) 0) ≡ false
unfolding bytes_at
above = refl
