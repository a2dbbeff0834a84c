-- Wide numbers that stand for one row, or one transaction, are the same numbers. Assumes nothing.
use Rattle.std.proofs.Common.{◌≡◌, ap}
use Rattle.hour.specs.Numbers.{as_row, as_transaction}
use Rattle.hour.specs.declared.Row.{Row}
use Rattle.hour.specs.declared.RowNumbers.{RowNumbers}
use Rattle.hour.specs.declared.Transaction.{Transaction}
use Rattle.hour.specs.declared.TransactionNumbers.{TransactionNumbers}

abbrev of-row : Row → RowNumbers
of-row r = record { market = r.market; kind = r.kind; interval = r.interval; participant = r.participant; location = r.location; kw = r.kw.0 }

pub as-row-unique : (n m : RowNumbers) → as_row n ≡ as_row m → n ≡ m
as-row-unique n m e = ap of-row e

abbrev of-transaction : Transaction → TransactionNumbers
of-transaction t =
    record { market = t.market; interval = t.interval; participant = t.participant; seller = t.seller; source = t.source; sink = t.sink; kw = t.kw.0 }

pub as-transaction-unique : (n m : TransactionNumbers) → as_transaction n ≡ as_transaction m → n ≡ m
as-transaction-unique n m e = ap of-transaction e
