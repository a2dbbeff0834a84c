-- Rows of document 01, "Cases", and of others that are refused, computed by the definitions. Assumes nothing.
use Rattle.std.specs.Prelude.{◌≡◌, refl, List, [], ◌∷◌, ℕ, pos, negsuc, Result, Ok, Err}
use Rattle.exercise.specs.Decoding.{decoded_row, decoded_transaction}
use Rattle.exercise.specs.Packed.{bytes_at}
use Rattle.hour.specs.Order.{row_refusal, transaction_refusal}
use Rattle.hour.specs.Order.{packed_row_refusal, packed_transaction_refusal}
use Rattle.hour.specs.declared.Edition.TheVariants as Edition
use Rattle.hour.specs.declared.Transaction.{Transaction}

abbrev six : ℕ → ℕ → ℕ → ℕ → ℕ → ℕ → List ℕ
six a b c d e f = a ∷ b ∷ c ∷ d ∷ e ∷ f ∷ []

-- ---- the three rows of the statement program

-- real time, load, interval 0, participant 0, location 1, 200,000 kW
load : decoded_row (pos 2) (pos 2) (six 0x80 0x00 0x10 0x18 0x6A 0x00)
    ≡ Ok (record { market = 1; kind = 0; interval = 0; participant = 0; location = 1; kw = record { 0 = 200000 } })
unfolding bytes_at packed_row_refusal row_refusal
load = refl

-- real time, generation, interval 0, participant 1, location 0, 110,000 kW
generation : decoded_row (pos 2) (pos 2) (six 0x90 0x04 0x00 0x0D 0x6D 0x80)
    ≡ Ok (record { market = 1; kind = 1; interval = 0; participant = 1; location = 0; kw = record { 0 = 110000 } })
unfolding bytes_at packed_row_refusal row_refusal
generation = refl

-- real time, export, interval 0, participant 1, location 1, 100,000 kW
export : decoded_row (pos 2) (pos 2) (six 0xA0 0x04 0x10 0x0C 0x35 0x00)
    ≡ Ok (record { market = 1; kind = 2; interval = 0; participant = 1; location = 1; kw = record { 0 = 100000 } })
unfolding bytes_at packed_row_refusal row_refusal
export = refl

-- ---- the last that there is: day-ahead increment offer of participant 63 at location 63, and real time interval 11

last : decoded_row (pos 64) (pos 64) (six 0x50 0xFF 0xF0 0x00 0x00 0x00)
    ≡ Ok (record { market = 0; kind = 5; interval = 0; participant = 63; location = 63; kw = record { 0 = 0 } })
unfolding bytes_at packed_row_refusal row_refusal
last = refl

-- import, 20,000,000 kW
last-interval : decoded_row (pos 1) (pos 1) (six 0xBB 0x00 0x09 0x89 0x68 0x00)
    ≡ Ok (record { market = 1; kind = 3; interval = 11; participant = 0; location = 0; kw = record { 0 = 20000000 } })
unfolding bytes_at packed_row_refusal row_refusal
last-interval = refl

-- ---- refusals, in their order

no-participants : decoded_row (negsuc 0) (pos 65) [] ≡ Err 1
no-participants = refl

nobody : decoded_row (pos 0) (pos 1) (six 0x00 0x00 0x00 0x00 0x00 0x00) ≡ Err 1
nobody = refl

many-participants : decoded_row (pos 65) (pos 1) (six 0x00 0x00 0x00 0x00 0x00 0x00) ≡ Err 1
many-participants = refl

nowhere : decoded_row (pos 1) (pos 0) (six 0x00 0x00 0x00 0x00 0x00 0x00) ≡ Err 1
nowhere = refl

many-locations : decoded_row (pos 64) (pos 65) [] ≡ Err 1
many-locations = refl

five-bytes : decoded_row (pos 1) (pos 1) (0xF0 ∷ 0xFF ∷ 0xFF ∷ 0xFF ∷ 0xFF ∷ []) ≡ Err 9
five-bytes = refl

seven-bytes : decoded_row (pos 1) (pos 1) (0x00 ∷ 0x00 ∷ 0x00 ∷ 0x00 ∷ 0x00 ∷ 0x00 ∷ 0x00 ∷ []) ≡ Err 9
seven-bytes = refl

-- a decrement bid in real time, with everything else wrong, too
bid : decoded_row (pos 1) (pos 1) (six 0xC0 0xFF 0xFF 0xFF 0xFF 0xFF) ≡ Err 4
unfolding bytes_at packed_row_refusal row_refusal
bid = refl

-- an increment offer in real time, and kinds 6 and 7, with nothing else wrong
offer : decoded_row (pos 1) (pos 1) (six 0xD0 0x00 0x00 0x00 0x00 0x00) ≡ Err 4
unfolding bytes_at packed_row_refusal row_refusal
offer = refl

kind-6 : decoded_row (pos 1) (pos 1) (six 0x60 0x00 0x00 0x00 0x00 0x00) ≡ Err 4
unfolding bytes_at packed_row_refusal row_refusal
kind-6 = refl

kind-7 : decoded_row (pos 1) (pos 1) (six 0x70 0x00 0x00 0x00 0x00 0x00) ≡ Err 4
unfolding bytes_at packed_row_refusal row_refusal
kind-7 = refl

-- a real-time row at interval 12, of participant 1 of 1
interval-12 : decoded_row (pos 1) (pos 1) (six 0x8C 0x04 0x00 0x00 0x00 0x00) ≡ Err 4
unfolding bytes_at packed_row_refusal row_refusal
interval-12 = refl

-- a day-ahead row at interval 3
late : decoded_row (pos 1) (pos 1) (six 0x03 0x00 0x00 0x00 0x00 0x00) ≡ Err 4
unfolding bytes_at packed_row_refusal row_refusal
late = refl

-- participant 2 of 2
stranger : decoded_row (pos 2) (pos 2) (six 0x80 0x08 0x00 0x00 0x00 0x00) ≡ Err 3
unfolding bytes_at packed_row_refusal row_refusal
stranger = refl

-- location 1 of 1, with 20,000,001 kW and a spare bit
off-the-map : decoded_row (pos 1) (pos 1) (six 0x00 0x00 0x19 0x89 0x68 0x09) ≡ Err 3
unfolding bytes_at packed_row_refusal row_refusal
off-the-map = refl

-- 20,000,001 kW and a spare bit, and the spare bit alone
much : decoded_row (pos 1) (pos 1) (six 0x00 0x00 0x09 0x89 0x68 0x09) ≡ Err 2
unfolding bytes_at packed_row_refusal row_refusal
much = refl

spare : decoded_row (pos 1) (pos 1) (six 0x00 0x00 0x09 0x89 0x68 0x01) ≡ Err 9
unfolding bytes_at packed_row_refusal row_refusal
spare = refl

-- ---- a transaction: real time, interval 11, participant 1, from location 2 to location 3, 20,000,000 kW

path : decoded_transaction Edition.PathOnly (pos 2) (pos 4) (six 0xD8 0x21 0x07 0x31 0x2D 0x00)
    ≡ Ok (record { market = 1; interval = 11; participant = 1; seller = 0; source = 2; sink = 3; kw = record { 0 = 20000000 } })
unfolding bytes_at packed_transaction_refusal transaction_refusal
path = refl

-- of participant 63, from location 63 to it
path-last : decoded_transaction Edition.PathOnly (pos 64) (pos 64) (six 0x07 0xFF 0xFE 0x00 0x00 0x00)
    ≡ Ok (record { market = 0; interval = 0; participant = 63; seller = 0; source = 63; sink = 63; kw = record { 0 = 0 } })
unfolding bytes_at packed_transaction_refusal transaction_refusal
path-last = refl

-- ---- a transaction's refusals, in their order

path-nobody : decoded_transaction Edition.PathOnly (pos 0) (pos 1) [] ≡ Err 1
path-nobody = refl

path-nowhere : decoded_transaction Edition.PathOnly (pos 1) (pos 65) [] ≡ Err 1
path-nowhere = refl

path-seven-bytes : decoded_transaction Edition.PathOnly (pos 1) (pos 1) (0x0F ∷ 0xFF ∷ 0xFF ∷ 0xFF ∷ 0xFF ∷ 0xFF ∷ 0xFF ∷ []) ≡ Err 9
path-seven-bytes = refl

-- day-ahead at interval 1, and real time at interval 12, with everything else wrong, too
path-late : decoded_transaction Edition.PathOnly (pos 1) (pos 1) (six 0x0F 0xFF 0xFF 0xFF 0xFF 0xFF) ≡ Err 4
unfolding bytes_at packed_transaction_refusal transaction_refusal
path-late = refl

path-interval-12 : decoded_transaction Edition.PathOnly (pos 1) (pos 1) (six 0xE7 0xFF 0xFF 0xFF 0xFF 0xFF) ≡ Err 4
unfolding bytes_at packed_transaction_refusal transaction_refusal
path-interval-12 = refl

-- 20,000,001 kW of participant 1 of 1; from location 1 of 1; to location 1 of 1; and with nothing else wrong
path-stranger : decoded_transaction Edition.PathOnly (pos 1) (pos 1) (six 0x80 0x20 0x01 0x31 0x2D 0x01) ≡ Err 3
unfolding bytes_at packed_transaction_refusal transaction_refusal
path-stranger = refl

path-source : decoded_transaction Edition.PathOnly (pos 1) (pos 1) (six 0x80 0x00 0x81 0x31 0x2D 0x01) ≡ Err 3
unfolding bytes_at packed_transaction_refusal transaction_refusal
path-source = refl

path-sink : decoded_transaction Edition.PathOnly (pos 1) (pos 1) (six 0x80 0x00 0x03 0x31 0x2D 0x01) ≡ Err 3
unfolding bytes_at packed_transaction_refusal transaction_refusal
path-sink = refl

path-much : decoded_transaction Edition.PathOnly (pos 1) (pos 1) (six 0x80 0x00 0x01 0x31 0x2D 0x01) ≡ Err 2
unfolding bytes_at packed_transaction_refusal transaction_refusal
path-much = refl

-- ---- with a seller, in edition 1 (document 02, ticket 2): "the seller (6 bits) after the participant and two spare bits at the end, 56 bits"

abbrev sale : List ℕ → Result Transaction ℕ
sale bytes = decoded_transaction Edition.WithSeller (pos 1) (pos 1) bytes

pub record SaleCases : Type 0 where
  -- real time, interval 11, participant 4, seller 1, from location 2 to location 3, 20,000,000 kW
  pub some : decoded_transaction Edition.WithSeller (pos 5) (pos 4) (0xD8 ∷ 0x80 ∷ 0x84 ∷ 0x1C ∷ 0xC4 ∷ 0xB4 ∷ 0x00 ∷ [])
      ≡ Ok (record { market = 1; interval = 11; participant = 4; seller = 1; source = 2; sink = 3; kw = record { 0 = 20000000 } })
  -- of participant 63, who sells it to itself, from location 63 to it
  pub last : decoded_transaction Edition.WithSeller (pos 64) (pos 64) (0x07 ∷ 0xFF ∷ 0xFF ∷ 0xF8 ∷ 0x00 ∷ 0x00 ∷ 0x00 ∷ [])
      ≡ Ok (record { market = 0; interval = 0; participant = 63; seller = 63; source = 63; sink = 63; kw = record { 0 = 0 } })
  -- six bytes, and eight
  pub six-bytes : sale (six 0x00 0x00 0x00 0x00 0x00 0x00) ≡ Err 9
  pub eight-bytes : sale (0x00 ∷ 0x00 ∷ 0x00 ∷ 0x00 ∷ 0x00 ∷ 0x00 ∷ 0x00 ∷ 0x00 ∷ []) ≡ Err 9
  -- day-ahead at interval 1, with everything else wrong, too
  pub late : sale (0x0F ∷ 0xFF ∷ 0xFF ∷ 0xFF ∷ 0xFF ∷ 0xFF ∷ 0xFF ∷ []) ≡ Err 4
  -- 20,000,001 kW and both spare bits, of participant 1 of 1; of seller 1 of 1; from location 1 of 1; to location 1 of 1; and with nothing else wrong
  pub stranger : sale (0x80 ∷ 0x20 ∷ 0x00 ∷ 0x04 ∷ 0xC4 ∷ 0xB4 ∷ 0x07 ∷ []) ≡ Err 3
  pub seller : sale (0x80 ∷ 0x00 ∷ 0x80 ∷ 0x04 ∷ 0xC4 ∷ 0xB4 ∷ 0x07 ∷ []) ≡ Err 3
  pub source : sale (0x80 ∷ 0x00 ∷ 0x02 ∷ 0x04 ∷ 0xC4 ∷ 0xB4 ∷ 0x07 ∷ []) ≡ Err 3
  pub sink : sale (0x80 ∷ 0x00 ∷ 0x00 ∷ 0x0C ∷ 0xC4 ∷ 0xB4 ∷ 0x07 ∷ []) ≡ Err 3
  pub much : sale (0x80 ∷ 0x00 ∷ 0x00 ∷ 0x04 ∷ 0xC4 ∷ 0xB4 ∷ 0x07 ∷ []) ≡ Err 2
  -- each spare bit alone
  pub lower-spare : sale (0x80 ∷ 0x00 ∷ 0x00 ∷ 0x04 ∷ 0xC4 ∷ 0xB4 ∷ 0x01 ∷ []) ≡ Err 9
  pub upper-spare : sale (0x80 ∷ 0x00 ∷ 0x00 ∷ 0x04 ∷ 0xC4 ∷ 0xB4 ∷ 0x02 ∷ []) ≡ Err 9

pub sale-cases : SaleCases
unfolding bytes_at packed_transaction_refusal transaction_refusal
sale-cases = record { some = refl; last = refl; six-bytes = refl; eight-bytes = refl; late = refl; stranger = refl; seller = refl; source = refl; sink = refl; much = refl; lower-spare = refl; upper-spare = refl }
