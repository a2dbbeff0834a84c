-- The row, and the transaction, that wide numbers stand for. Assumes nothing.
use Rattle.hour.specs.declared.Row.{Row}
use Rattle.hour.specs.declared.RowNumbers.{RowNumbers}
use Rattle.hour.specs.declared.Transaction.{Transaction}
use Rattle.hour.specs.declared.TransactionNumbers.{TransactionNumbers}

abbrev pub as_row : RowNumbers → Row
as_row n =
    record { market = n.market; kind = n.kind; interval = n.interval; participant = n.participant; location = n.location; kw = record { 0 = n.kw } }

abbrev pub as_transaction : TransactionNumbers → Transaction
as_transaction n =
    record { market = n.market; interval = n.interval; participant = n.participant; seller = n.seller; source = n.source; sink = n.sink; kw = record { 0 = n.kw } }
