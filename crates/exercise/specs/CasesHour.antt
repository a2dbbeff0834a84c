-- The hour of document 01's statement program, an hour with congestion, and hours that are refused, computed by the definitions. Assumes nothing.
use Rattle.std.specs.Prelude.{◌≡◌, refl, List, [], ◌∷◌, ◌++◌, ℕ, pos, neg_ℤ, replicate}
use Rattle.ints.specs.Sum.{Σℤ, sum_to, sum_nat}
use Rattle.ints.specs.Table.{tab, all}
use Rattle.ints.specs.Turn.{in_order}
use Rattle.units.specs.Units.{cents_of}
use Rattle.split.specs.Split.{total, cut_down, remainder, units_left, before, place, part, parts}
use Rattle.exercise.specs.Packed.{bytes_at}
use Rattle.hour.specs.Order.{row_refusal, transaction_refusal, surplus_refusal}
use Rattle.exercise.specs.CasesFile.{times, statement}
use Rattle.exercise.specs.File.{header, places_of, hour_of}
use Rattle.exercise.specs.Order.{header_refusal, frame_refusal, in_numbers, in_bytes, hour_refusal}
use Rattle.hour.specs.Charges.{ahead_at, real_at, ahead_path, real_path, position_charge, path_charge, charge, congestion_charges_of, loss_charges_of}
use Rattle.hour.specs.Surplus.{surplus, shares, credits, nets}
use Rattle.hour.specs.Order.{packed_row_refusal, packed_transaction_refusal, prices_refusal, rows_refusal, transactions_refusal, content_refusal}

-- "0 0 1000 927 73", "1 0 390 463 -73"

unrefused : hour_refusal in_numbers statement (2 ∷ 2 ∷ 2 ∷ 2 ∷ []) ≡ 0
unfolding hour_refusal all frame_refusal header_refusal content_refusal prices_refusal rows_refusal transactions_refusal in_order tab packed_row_refusal row_refusal packed_transaction_refusal transaction_refusal surplus_refusal total sum_nat surplus shares cents_of charge position_charge path_charge ahead_at real_at ahead_path real_path Σℤ sum_to header bytes_at places_of
unrefused = refl

congestion : congestion_charges_of (hour_of statement) ≡ pos 0 ∷ pos 0 ∷ []
unfolding congestion_charges_of tab cents_of charge position_charge path_charge ahead_at real_at ahead_path real_path Σℤ sum_to header bytes_at places_of
congestion = refl

loss : loss_charges_of (hour_of statement) ≡ pos 1000 ∷ pos 390 ∷ []
unfolding loss_charges_of tab cents_of charge position_charge path_charge ahead_at real_at ahead_path real_path Σℤ sum_to header bytes_at places_of
loss = refl

by-load-and-exports : shares (hour_of statement) ≡ pos 200000 ∷ pos 100000 ∷ []
unfolding shares tab Σℤ header bytes_at places_of
by-load-and-exports = refl

credit : credits (hour_of statement) ≡ pos 927 ∷ pos 463 ∷ []
unfolding credits parts part cut_down remainder units_left before place total sum_nat surplus shares tab cents_of charge position_charge path_charge ahead_at real_at ahead_path real_path Σℤ sum_to header bytes_at places_of
credit = refl

net : nets (hour_of statement) ≡ pos 73 ∷ neg_ℤ (pos 73) ∷ []
unfolding nets credits parts part cut_down remainder units_left before place total sum_nat surplus shares tab cents_of charge position_charge path_charge ahead_at real_at ahead_path real_path Σℤ sum_to header bytes_at places_of
net = refl

-- an output list for three
three : hour_refusal in_numbers statement (2 ∷ 2 ∷ 3 ∷ 2 ∷ []) ≡ 1
unfolding hour_refusal all frame_refusal header_refusal header bytes_at places_of
three = refl

-- ---- an hour with congestion: 2 participants, 2 locations, 3 rows and a transaction

abbrev pub congested : List ℕ
congested =
    (0x04 ∷ 0x10 ∷ 0x03 ∷ 0x00 ∷ 0x40 ∷ [])
    -- congestion: 600 and 700 mills day-ahead, -120 and -60 in every interval
    ++ (0x00 ∷ 0x02 ∷ 0x58 ∷ 0x00 ∷ 0x02 ∷ 0xBC ∷ [])
    ++ times 12 (0xFF ∷ 0xFF ∷ 0x88 ∷ 0xFF ∷ 0xFF ∷ 0xC4 ∷ [])
    -- loss: 60 and 36 day-ahead, 240 at both in every interval
    ++ (0x00 ∷ 0x00 ∷ 0x3C ∷ 0x00 ∷ 0x00 ∷ 0x24 ∷ [])
    ++ times 24 (0x00 ∷ 0x00 ∷ 0xF0 ∷ [])
    -- participant 0 at location 0: day-ahead load, 1,000 kW; export in interval 11, 5,500 kW
    ++ (0x00 ∷ 0x00 ∷ 0x00 ∷ 0x00 ∷ 0x1F ∷ 0x40 ∷ 0xAB ∷ 0x00 ∷ 0x00 ∷ 0x00 ∷ 0xAB ∷ 0xE0 ∷ [])
    -- participant 1: load at location 0 in interval 5, 10,000 kW; day-ahead from location 1 to location 0, 5,000 kW
    ++ (0x85 ∷ 0x04 ∷ 0x00 ∷ 0x01 ∷ 0x38 ∷ 0x80 ∷ 0x00 ∷ 0x20 ∷ 0x80 ∷ 0x00 ∷ 0x13 ∷ 0x88 ∷ [])

-- 0: 60 cents day-ahead, 12 as that is taken back, -5.5 for the export, 66.5 in all. 1: -10 for the load; on the path -50 day-ahead and 30 as that is paid back
congested-congestion : congestion_charges_of (hour_of congested) ≡ pos 67 ∷ neg_ℤ (pos 30) ∷ []
unfolding congestion_charges_of tab cents_of charge position_charge path_charge ahead_at real_at ahead_path real_path Σℤ sum_to header bytes_at places_of
congested-congestion = refl

-- 0: 6 day-ahead, -24 as that is taken back, 11 for the export. 1: 20 for the load; on the path 12 day-ahead and nothing paid back
congested-loss : loss_charges_of (hour_of congested) ≡ neg_ℤ (pos 7) ∷ pos 32 ∷ []
unfolding loss_charges_of tab cents_of charge position_charge path_charge ahead_at real_at ahead_path real_path Σℤ sum_to header bytes_at places_of
congested-loss = refl

-- 25 over 5,500 and 10,000 kW: 8 and 16, with the remainders 13,500 and 2,000 of 15,500, and the cent left to the first
congested-credit : credits (hour_of congested) ≡ pos 9 ∷ pos 16 ∷ []
unfolding credits parts part cut_down remainder units_left before place total sum_nat surplus shares tab cents_of charge position_charge path_charge ahead_at real_at ahead_path real_path Σℤ sum_to header bytes_at places_of
congested-credit = refl

-- 67 - 7 - 9, and -30 + 32 - 16
congested-net : nets (hour_of congested) ≡ pos 51 ∷ neg_ℤ (pos 14) ∷ []
unfolding nets credits parts part cut_down remainder units_left before place total sum_nat surplus shares tab cents_of charge position_charge path_charge ahead_at real_at ahead_path real_path Σℤ sum_to header bytes_at places_of
congested-net = refl

-- ---- hours of 1 participant at 1 location: the first price, the loss price day-ahead and the only row are given

abbrev pub small_file : List ℕ → List ℕ → List ℕ → List ℕ
small_file first loss row = (0x00 ∷ 0x00 ∷ 0x01 ∷ 0x00 ∷ 0x00 ∷ []) ++ first ++ times 36 (0x00 ∷ []) ++ loss ++ times 36 (0x00 ∷ []) ++ row

abbrev pub no_price : List ℕ
no_price = 0x00 ∷ 0x00 ∷ 0x00 ∷ []

-- 5,000,000 mills, and one more
abbrev pub highest : List ℕ
highest = 0x4C ∷ 0x4B ∷ 0x40 ∷ []

abbrev higher : List ℕ
higher = 0x4C ∷ 0x4B ∷ 0x41 ∷ []

-- day-ahead load of 20,000,000 kW, and of 1,000 kW
abbrev pub heaviest : List ℕ
heaviest = 0x00 ∷ 0x00 ∷ 0x09 ∷ 0x89 ∷ 0x68 ∷ 0x00 ∷ []

abbrev pub light : List ℕ
light = 0x00 ∷ 0x00 ∷ 0x00 ∷ 0x00 ∷ 0x1F ∷ 0x40 ∷ []

-- the first of these with a spare bit set
abbrev spared : List ℕ
spared = 0x00 ∷ 0x00 ∷ 0x09 ∷ 0x89 ∷ 0x68 ∷ 0x01 ∷ []

-- the same with one transaction: real time, interval 0, participant 0, 20,000,001 kW
abbrev path_file : List ℕ → List ℕ → List ℕ → List ℕ
path_file loss row path = (0x00 ∷ 0x00 ∷ 0x01 ∷ 0x00 ∷ 0x40 ∷ []) ++ times 39 (0x00 ∷ []) ++ loss ++ times 36 (0x00 ∷ []) ++ row ++ path

abbrev too_much : List ℕ
too_much = 0x80 ∷ 0x00 ∷ 0x01 ∷ 0x31 ∷ 0x2D ∷ 0x01 ∷ []

-- a surplus of 10,000,000,000 cents, and nobody to share it: 10 before 7
beyond : hour_refusal in_numbers (small_file no_price highest heaviest) (1 ∷ 1 ∷ 1 ∷ 1 ∷ []) ≡ 10
unfolding hour_refusal all frame_refusal header_refusal content_refusal prices_refusal rows_refusal transactions_refusal in_order tab packed_row_refusal row_refusal packed_transaction_refusal transaction_refusal surplus_refusal total sum_nat surplus shares cents_of charge position_charge path_charge ahead_at real_at ahead_path real_path Σℤ sum_to header bytes_at places_of
beyond = refl

-- a surplus of 500,000 cents, and nobody to share it
nobody : hour_refusal in_numbers (small_file no_price highest light) (1 ∷ 1 ∷ 1 ∷ 1 ∷ []) ≡ 7
unfolding hour_refusal all frame_refusal header_refusal content_refusal prices_refusal rows_refusal transactions_refusal in_order tab packed_row_refusal row_refusal packed_transaction_refusal transaction_refusal surplus_refusal total sum_nat surplus shares cents_of charge position_charge path_charge ahead_at real_at ahead_path real_path Σℤ sum_to header bytes_at places_of
nobody = refl

-- a row's spare bit before the surplus of 10,000,000,000 cents
row_before : hour_refusal in_numbers (small_file no_price highest spared) (1 ∷ 1 ∷ 1 ∷ 1 ∷ []) ≡ 9
unfolding hour_refusal all frame_refusal header_refusal content_refusal prices_refusal rows_refusal transactions_refusal in_order tab packed_row_refusal row_refusal packed_transaction_refusal transaction_refusal header bytes_at places_of
row_before = refl

-- a transaction of 20,000,001 kW before it
transaction-before : hour_refusal in_numbers (path_file highest heaviest too_much) (1 ∷ 1 ∷ 1 ∷ 1 ∷ []) ≡ 2
unfolding hour_refusal all frame_refusal header_refusal content_refusal prices_refusal rows_refusal transactions_refusal in_order tab packed_row_refusal row_refusal packed_transaction_refusal transaction_refusal header bytes_at places_of
transaction-before = refl

-- 2 before them
price-first : hour_refusal in_numbers (small_file higher highest heaviest) (1 ∷ 1 ∷ 1 ∷ 1 ∷ []) ≡ 2
unfolding hour_refusal all frame_refusal header_refusal content_refusal prices_refusal rows_refusal transactions_refusal in_order tab packed_row_refusal row_refusal packed_transaction_refusal transaction_refusal header bytes_at places_of
price-first = refl

-- wrong lists before the price, and after the length: the file is a byte too long
lists-first : hour_refusal in_numbers (small_file higher highest heaviest) (2 ∷ 2 ∷ 2 ∷ 2 ∷ []) ≡ 1
unfolding hour_refusal all frame_refusal header_refusal header bytes_at places_of
lists-first = refl

length-first : hour_refusal in_numbers (small_file higher highest heaviest ++ (0x00 ∷ [])) (2 ∷ 2 ∷ 2 ∷ 2 ∷ []) ≡ 9
unfolding hour_refusal all frame_refusal header_refusal header bytes_at places_of
length-first = refl

-- ---- output lists in bytes: 1 participant, 1 location and nothing else, all prices 0 or the last 8,388,607

abbrev quiet : List ℕ
quiet = replicate 83 0

abbrev dear : List ℕ
dear = replicate 80 0 ++ (0x7F ∷ 0xFF ∷ 0xFF ∷ [])

hour-passes : hour_refusal in_bytes quiet (8 ∷ 8 ∷ 8 ∷ 8 ∷ []) ≡ 0
unfolding hour_refusal all frame_refusal header_refusal content_refusal prices_refusal rows_refusal transactions_refusal in_order tab packed_row_refusal row_refusal packed_transaction_refusal transaction_refusal surplus_refusal total sum_nat surplus shares cents_of charge position_charge path_charge ahead_at real_at ahead_path real_path Σℤ sum_to header bytes_at places_of
hour-passes = refl

price-beyond : hour_refusal in_bytes dear (8 ∷ 8 ∷ 8 ∷ 8 ∷ []) ≡ 2
unfolding hour_refusal all frame_refusal header_refusal content_refusal prices_refusal rows_refusal transactions_refusal in_order tab header bytes_at places_of
price-beyond = refl

-- ragged slices, and one for two, before the price
ragged-congestion : hour_refusal in_bytes dear (9 ∷ 8 ∷ 8 ∷ 8 ∷ []) ≡ 1
unfolding hour_refusal all frame_refusal header_refusal header bytes_at places_of
ragged-congestion = refl

ragged-loss : hour_refusal in_bytes dear (8 ∷ 15 ∷ 8 ∷ 8 ∷ []) ≡ 1
unfolding hour_refusal all frame_refusal header_refusal header bytes_at places_of
ragged-loss = refl

for-two : hour_refusal in_bytes dear (8 ∷ 8 ∷ 16 ∷ 8 ∷ []) ≡ 1
unfolding hour_refusal all frame_refusal header_refusal header bytes_at places_of
for-two = refl

-- as many as there are participants, in numbers and not in bytes
in-numbers : hour_refusal in_bytes dear (8 ∷ 8 ∷ 8 ∷ 1 ∷ []) ≡ 1
unfolding hour_refusal all frame_refusal header_refusal header bytes_at places_of
in-numbers = refl

-- .. and after the length
bytes-length-first : hour_refusal in_bytes (0 ∷ dear) (9 ∷ 9 ∷ 9 ∷ 9 ∷ []) ≡ 9
unfolding hour_refusal all frame_refusal header_refusal header bytes_at places_of
bytes-length-first = refl
