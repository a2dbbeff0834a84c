-- The statement of an exercise file, as it is printed (document 01, "Cases", "Statement program"). Assumes nothing.
use Rattle.std.specs.Prelude.{List, [], ◌∷◌, ◌++◌, ℕ, zero, suc, eqb, ℤ, pos}
use Rattle.ints.specs.Refusal.{pick}
use Rattle.ints.specs.Sum.{sum}
use Rattle.ints.specs.Table.{◌at◌}
use Rattle.text.specs.Ascii.{ascii}
use Rattle.text.specs.Decimal.{decimal}
use Rattle.hour.specs.Charges.{congestion_charges_of, loss_charges_of}
use Rattle.hour.specs.Surplus.{credits, nets}
use Rattle.exercise.specs.File.{hour_of}
use Rattle.exercise.specs.Order.{in_numbers, hour_refusal}

-- "Fields: participant, congestion charge, loss charge, loss credit, net (charges less credit), in cents": the amount of a field, after a space, and the four of a line with its end
abbrev pub amount_field : ℤ → List ℕ
amount_field cents = ascii " " ++ decimal cents

abbrev pub amount_fields : ℤ → ℤ → ℤ → ℤ → List ℕ
amount_fields congestion loss credit net = amount_field congestion ++ amount_field loss ++ amount_field credit ++ amount_field net ++ ascii "\n"

-- of four lists, participant p's line
abbrev pub line : List ℤ → List ℤ → List ℤ → List ℤ → ℕ → List ℕ
line congestion loss credit net p = decimal (pos p) ++ amount_fields (congestion at p) (loss at p) (credit at p) (net at p)

-- "last their sums"
abbrev pub last_line : List ℤ → List ℤ → List ℤ → List ℤ → List ℕ
last_line congestion loss credit net = ascii "total" ++ amount_fields (sum congestion) (sum loss) (sum credit) (sum net)

-- f 0, .., f (n - 1), one after the other
unfoldable pub joined : (ℕ → List ℕ) → ℕ → List ℕ
joined f zero = []
joined f (suc n) = joined f n ++ f n

-- a line for each of n participants, and the last one
abbrev pub lines : ℕ → List ℤ → List ℤ → List ℤ → List ℤ → List ℕ
lines n congestion loss credit net = joined (line congestion loss credit net) n ++ last_line congestion loss credit net

-- "A refused file prints `refused 9`, with its number, and nothing else."
abbrev pub refused_line : ℕ → List ℕ
refused_line number = ascii "refused " ++ decimal (pos number) ++ ascii "\n"

-- "Order for an hour", where the output lists are as long as the participants
abbrev pub statement_refusal : List ℕ → ℕ
statement_refusal file = let n = (hour_of file).participants in hour_refusal in_numbers file (n ∷ n ∷ n ∷ n ∷ [])

-- what is printed for a file
unfoldable pub statement_of : List ℕ → List ℕ
statement_of file =
    let hour = hour_of file in
    pick (eqb (statement_refusal file) 0)
    (lines hour.participants (congestion_charges_of hour) (loss_charges_of hour) (credits hour) (nets hour))
    (refused_line (statement_refusal file))
