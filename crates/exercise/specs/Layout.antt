-- The layouts of the exercise file (document 01, "The exercise file"; document 02, ticket 2): how wide its fields are, in bits and in their order, edition by edition. Where a
-- field stands and how many bytes a row or a transaction has follows from these lines and from nothing else. Assumes nothing.
use Rattle.std.specs.Prelude.{List, [], ◌∷◌, ℕ, ◌/◌, eqb}
use Rattle.ints.specs.Refusal.{pick}
use Rattle.hour.specs.declared.Edition.{Edition}
use Rattle.exercise.specs.Packed.{bits_in}

-- ---- the widths

-- "Header, 40 bits: participants less 1 (6), locations less 1 (6), rows (12), transactions (10), spare (6)"; "The header's spare six bits become an edition"
abbrev pub header_widths : List ℕ
header_widths = 6 ∷ 6 ∷ 12 ∷ 10 ∷ 6 ∷ []

-- "Prices, 24 bits each"
abbrev pub price_width : ℕ
price_width = 24

-- "Row, 48 bits: market (1), kind (3), interval (4), participant (6), location (6), kW (25), spare (3)", in both editions
abbrev pub row_widths : List ℕ
row_widths = 1 ∷ 3 ∷ 4 ∷ 6 ∷ 6 ∷ 25 ∷ 3 ∷ []

-- "Transaction, 48 bits: market (1), interval (4), participant (6), source (6), sink (6), kW (25)". Edition "1 has the seller (6 bits) after the participant and two spare bits
-- at the end, 56 bits"; in edition 0 these two have no bits. Market, interval, participant, seller, source, sink, kW, spare:
abbrev pub transaction_widths : Edition → List ℕ
transaction_widths Edition.PathOnly = 1 ∷ 4 ∷ 6 ∷ 0 ∷ 6 ∷ 6 ∷ 25 ∷ 0 ∷ []
transaction_widths Edition.WithSeller = 1 ∷ 4 ∷ 6 ∷ 6 ∷ 6 ∷ 6 ∷ 25 ∷ 2 ∷ []

-- ---- sizes in bytes

abbrev pub header_size : ℕ
header_size = bits_in header_widths / 8

abbrev pub price_size : ℕ
price_size = price_width / 8

abbrev pub row_size : ℕ
row_size = bits_in row_widths / 8

abbrev pub transaction_size : Edition → ℕ
transaction_size edition = bits_in (transaction_widths edition) / 8

-- ---- the number of an edition: "0 as before, path only; 1 has the seller"

abbrev pub edition_number : Edition → ℕ
edition_number Edition.PathOnly = 0
edition_number Edition.WithSeller = 1

-- the edition of a number. One that is neither 0 nor 1 is refused (Order.antt)
abbrev pub edition_of : ℕ → Edition
edition_of number = pick (eqb number 0) Edition.PathOnly Edition.WithSeller
