-- The cause that the code's outcome tells. `proofs/Told` has that it tells all of it: two outcomes with one cause are one outcome. Assumes nothing.
use Rattle.std.specs.Prelude.{Result, Ok, Err, ⊤, ℕ}
use Rattle.refusals.specs.Number.{number}
use Rattle.hour.specs.Cause.{Cause, cause, no_cause, of_file, of_header, of_price, of_row, of_transaction, of_surplus, of_share, of_list}
use Rattle.hour.specs.declared.Cause.{Cause as hour·Cause}
use Rattle.hour.specs.declared.HeaderField.{HeaderField}
use Rattle.hour.specs.declared.ListField.{ListField}
use Rattle.hour.specs.declared.Place.{Place}
use Rattle.hour.specs.declared.RowField.{RowField}
use Rattle.hour.specs.declared.TransactionField.{TransactionField}

-- the fields in the order of their numbers
abbrev pub header_field : HeaderField → ℕ
header_field HeaderField.Participants = 0
header_field HeaderField.Locations = 1
header_field HeaderField.Rows = 2
header_field HeaderField.Transactions = 3
header_field HeaderField.Edition = 4

abbrev pub row_field : RowField → ℕ
row_field RowField.Market = 0
row_field RowField.Kind = 1
row_field RowField.Interval = 2
row_field RowField.Participant = 3
row_field RowField.Location = 4
row_field RowField.Kw = 5
row_field RowField.Spare = 6

abbrev pub transaction_field : TransactionField → ℕ
transaction_field TransactionField.Market = 0
transaction_field TransactionField.Interval = 1
transaction_field TransactionField.Participant = 2
transaction_field TransactionField.Source = 3
transaction_field TransactionField.Sink = 4
transaction_field TransactionField.Kw = 5
transaction_field TransactionField.Seller = 6
transaction_field TransactionField.Spare = 7

abbrev pub list_field : ListField → ℕ
list_field ListField.Prices = 0
list_field ListField.Rows = 1
list_field ListField.Transactions = 2

-- a place: its part, which one of that part, and which field of it
abbrev pub part_of : Place → ℕ
part_of Place.File = of_file
part_of (Place.Header field) = of_header
part_of (Place.Price j) = of_price
part_of (Place.Row i field) = of_row
part_of (Place.Transaction i field) = of_transaction
part_of Place.Surplus = of_surplus
part_of (Place.Share p) = of_share
part_of (Place.List field) = of_list

abbrev pub number_of : Place → ℕ
number_of Place.File = 0
number_of (Place.Header field) = 0
number_of (Place.Price j) = j
number_of (Place.Row i field) = i
number_of (Place.Transaction i field) = i
number_of Place.Surplus = 0
number_of (Place.Share p) = p
number_of (Place.List field) = 0

abbrev pub field_of : Place → ℕ
field_of Place.File = 0
field_of (Place.Header field) = header_field field
field_of (Place.Price j) = 0
field_of (Place.Row i field) = row_field field
field_of (Place.Transaction i field) = transaction_field field
field_of Place.Surplus = 0
field_of (Place.Share p) = 0
field_of (Place.List field) = list_field field

-- the cause that an outcome tells
abbrev pub told : Result ⊤ hour·Cause → Cause
told (Ok x) = no_cause
told (Err c) = cause (number c.refusal) (part_of c.place) (number_of c.place) (field_of c.place) c.found c.least c.most
