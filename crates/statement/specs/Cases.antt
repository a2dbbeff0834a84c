-- The statement of document 01's file, and of refused files, computed by the definitions. Assumes nothing.
use Rattle.std.specs.Prelude.{◌≡◌, refl, [], ◌∷◌}
use Rattle.ints.specs.Sum.{Σℤ, sum_to, sum_nat}
use Rattle.ints.specs.Table.{tab, all}
use Rattle.ints.specs.Turn.{in_order}
use Rattle.text.specs.Ascii.{ascii}
use Rattle.text.specs.Decimal.{digits_in}
use Rattle.units.specs.Units.{cents_of}
use Rattle.split.specs.Split.{total, cut_down, remainder, units_left, before, place, part, parts}
use Rattle.exercise.specs.Packed.{bytes_at}
use Rattle.hour.specs.Order.{row_refusal, transaction_refusal, surplus_refusal}
use Rattle.exercise.specs.CasesFile as exercise
use Rattle.exercise.specs.File.{header, places_of}
use Rattle.exercise.specs.Order.{header_refusal, frame_refusal, hour_refusal}
use Rattle.hour.specs.Charges.{ahead_at, real_at, ahead_path, real_path, position_charge, path_charge, charge, congestion_charges_of, loss_charges_of}
use Rattle.exercise.specs.CasesHour.{congested, small_file, no_price, highest, heaviest, light}
use Rattle.hour.specs.Surplus.{surplus, shares, credits, nets}
use Rattle.statement.specs.Statement.{joined, statement_of}
use Rattle.hour.specs.Order.{packed_row_refusal, packed_transaction_refusal, prices_refusal, rows_refusal, transactions_refusal, content_refusal}

document-01 : statement_of exercise.statement ≡ ascii "0 0 1000 927 73\n1 0 390 463 -73\ntotal 0 1390 1390 0\n"
unfolding statement_of hour_refusal joined digits_in frame_refusal header_refusal content_refusal prices_refusal rows_refusal transactions_refusal in_order tab all packed_row_refusal row_refusal transaction_refusal surplus_refusal total sum_nat surplus shares cents_of charge position_charge path_charge ahead_at real_at ahead_path real_path Σℤ sum_to header bytes_at places_of congestion_charges_of loss_charges_of credits nets parts part cut_down remainder units_left before place
document-01 = refl

-- an hour with congestion, and numbers below 0
congestion : statement_of congested ≡ ascii "0 67 -7 9 51\n1 -30 32 16 -14\ntotal 37 25 25 37\n"
unfolding statement_of hour_refusal joined digits_in frame_refusal header_refusal content_refusal prices_refusal rows_refusal transactions_refusal in_order tab all packed_row_refusal row_refusal packed_transaction_refusal transaction_refusal surplus_refusal total sum_nat surplus shares cents_of charge position_charge path_charge ahead_at real_at ahead_path real_path Σℤ sum_to header bytes_at places_of congestion_charges_of loss_charges_of credits nets parts part cut_down remainder units_left before place
congestion = refl

-- no row at all: 1 participant, 1 location, and prices of 0
no_rows : statement_of (exercise.times 83 (0x00 ∷ [])) ≡ ascii "0 0 0 0 0\ntotal 0 0 0 0\n"
unfolding statement_of hour_refusal joined digits_in frame_refusal header_refusal content_refusal prices_refusal rows_refusal transactions_refusal in_order tab all packed_row_refusal row_refusal transaction_refusal surplus_refusal total sum_nat surplus shares cents_of charge position_charge path_charge ahead_at real_at ahead_path real_path Σℤ sum_to header bytes_at places_of congestion_charges_of loss_charges_of credits nets parts part cut_down remainder units_left before place
no_rows = refl

-- a number of two digits, and the last of the order
beyond : statement_of (small_file no_price highest heaviest) ≡ ascii "refused 10\n"
unfolding statement_of hour_refusal digits_in frame_refusal header_refusal content_refusal prices_refusal rows_refusal transactions_refusal in_order tab all packed_row_refusal row_refusal transaction_refusal surplus_refusal total sum_nat surplus shares cents_of charge position_charge path_charge ahead_at real_at ahead_path real_path Σℤ sum_to header bytes_at places_of
beyond = refl

nobody : statement_of (small_file no_price highest light) ≡ ascii "refused 7\n"
unfolding statement_of hour_refusal digits_in frame_refusal header_refusal content_refusal prices_refusal rows_refusal transactions_refusal in_order tab all packed_row_refusal row_refusal transaction_refusal surplus_refusal total sum_nat surplus shares cents_of charge position_charge path_charge ahead_at real_at ahead_path real_path Σℤ sum_to header bytes_at places_of
nobody = refl

empty : statement_of [] ≡ ascii "refused 9\n"
unfolding statement_of hour_refusal digits_in frame_refusal
empty = refl
