-- Why a file, or an hour in lists of numbers, is refused, worked. Assumes nothing.
use Rattle.std.specs.Prelude.{◌≡◌, refl, [], ◌∷◌, ℕ, pos, negsuc}
use Rattle.hour.specs.Cause.{Cause, of_file, of_header, of_list, cause, no_cause, tested}
use Rattle.hour.specs.declared.Edition.TheVariants as Edition
use Rattle.exercise.specs.Cause.{header_cause, frame_cause, counts_cause, lists_cause}
use Rattle.exercise.specs.File.{header, places_of}
use Rattle.exercise.specs.Lists.{participants_of}
use Rattle.exercise.specs.Packed.{bytes_at}

-- ---- a header of 4 participants and 2 locations, in a file of so many bytes

abbrev why : ℕ → ℕ → ℕ → ℕ → Cause
why rows transactions edition bytes = header_cause (record { participants = 4; locations = 2; rows = rows; transactions = transactions; edition = edition }) bytes

pub record HeaderCases : Type 0 where
  pub taken : why 41 13 0 485 ≡ no_cause
  -- 13 transactions of edition 1 have 13 bytes more
  pub taken-with-seller : why 41 13 1 498 ≡ no_cause
  pub too_short : why 42 13 0 490 ≡ cause 9 of_file 0 0 (pos 490) (pos 491) (pos 491)
  pub too_long : why 42 13 0 492 ≡ cause 9 of_file 0 0 (pos 492) (pos 491) (pos 491)
  pub rows : why 2049 13 0 0 ≡ cause 1 of_header 0 2 (pos 2049) (pos 0) (pos 2048)
  pub transactions : why 2048 257 0 0 ≡ cause 1 of_header 0 3 (pos 257) (pos 0) (pos 256)
  -- the edition before the rows, and these before the transactions
  pub edition : why 2049 257 32 0 ≡ cause 9 of_header 0 4 (pos 32) (pos 0) (pos 1)
  pub rows-first : why 4095 1023 0 0 ≡ cause 1 of_header 0 2 (pos 4095) (pos 0) (pos 2048)

pub header-cases : HeaderCases
unfolding header_cause tested places_of
header-cases = record { taken = refl; taken-with-seller = refl; too_short = refl; too_long = refl; rows = refl; transactions = refl; edition = refl; rows-first = refl }

-- ---- files of a few bytes

pub record ShortCases : Type 0 where
  pub empty : frame_cause [] ≡ cause 9 of_file 0 0 (pos 0) (pos 83) (pos 19077)
  pub four : frame_cause (255 ∷ 255 ∷ 255 ∷ 255 ∷ []) ≡ cause 9 of_file 0 0 (pos 4) (pos 83) (pos 19077)
  pub five : frame_cause (4 ∷ 16 ∷ 3 ∷ 0 ∷ 0 ∷ []) ≡ cause 9 of_file 0 0 (pos 5) (pos 179) (pos 179)
  pub five-of-edition-1 : frame_cause (4 ∷ 16 ∷ 3 ∷ 0 ∷ 65 ∷ []) ≡ cause 9 of_file 0 0 (pos 5) (pos 186) (pos 186)
  pub edition-2 : frame_cause (4 ∷ 16 ∷ 3 ∷ 0 ∷ 2 ∷ []) ≡ cause 9 of_header 0 4 (pos 2) (pos 0) (pos 1)
  -- participants: 0 without a header, and else 1 to 64
  pub none : participants_of (255 ∷ 255 ∷ 255 ∷ 255 ∷ []) ≡ 0
  pub least : participants_of (0 ∷ 0 ∷ 0 ∷ 0 ∷ 0 ∷ []) ≡ 1
  pub two : participants_of (4 ∷ 16 ∷ 3 ∷ 0 ∷ 0 ∷ []) ≡ 2
  pub most : participants_of (252 ∷ 0 ∷ 0 ∷ 0 ∷ 63 ∷ []) ≡ 64

pub short-cases : ShortCases
unfolding frame_cause header_cause tested places_of header bytes_at
short-cases = record { empty = refl; four = refl; five = refl; five-of-edition-1 = refl; edition-2 = refl; none = refl; least = refl; two = refl; most = refl }

-- ---- counts and lists

pub record GivenCases : Type 0 where
  pub taken : counts_cause (pos 64) (pos 1) (pos 0) (pos 256) (pos 0) ≡ no_cause
  pub participants : counts_cause (pos 0) (pos 65) (pos 2049) (pos 257) (pos 0) ≡ cause 1 of_header 0 0 (pos 0) (pos 1) (pos 64)
  pub locations : counts_cause (pos 64) (pos 65) (pos 2049) (pos 257) (pos 0) ≡ cause 1 of_header 0 1 (pos 65) (pos 1) (pos 64)
  pub rows : counts_cause (pos 64) (pos 1) (negsuc 0) (pos 257) (pos 0) ≡ cause 1 of_header 0 2 (negsuc 0) (pos 0) (pos 2048)
  pub transactions : counts_cause (pos 64) (pos 1) (pos 0) (pos 257) (pos 0) ≡ cause 1 of_header 0 3 (pos 257) (pos 0) (pos 256)
  -- the edition, before the participants
  pub edition-taken : counts_cause (pos 0) (pos 65) (pos 2049) (pos 257) (pos 1) ≡ cause 1 of_header 0 0 (pos 0) (pos 1) (pos 64)
  pub edition-2 : counts_cause (pos 0) (pos 65) (pos 2049) (pos 257) (pos 2) ≡ cause 9 of_header 0 4 (pos 2) (pos 0) (pos 1)
  pub edition-below-0 : counts_cause (pos 0) (pos 65) (pos 2049) (pos 257) (negsuc 0) ≡ cause 9 of_header 0 4 (negsuc 0) (pos 0) (pos 1)
  pub lists-taken : lists_cause 2 3 1 Edition.PathOnly 416 144 48 ≡ no_cause
  pub prices : lists_cause 2 3 1 Edition.PathOnly 408 143 0 ≡ cause 1 of_list 0 0 (pos 408) (pos 416) (pos 416)
  pub row_list : lists_cause 2 3 1 Edition.PathOnly 416 143 0 ≡ cause 1 of_list 0 1 (pos 143) (pos 144) (pos 144)
  pub transaction-list : lists_cause 2 3 1 Edition.PathOnly 416 144 0 ≡ cause 1 of_list 0 2 (pos 0) (pos 48) (pos 48)
  pub sale-list : lists_cause 2 3 1 Edition.WithSeller 416 144 48 ≡ cause 1 of_list 0 2 (pos 48) (pos 56) (pos 56)

pub given-cases : GivenCases
unfolding counts_cause lists_cause tested
given-cases = record { taken = refl; participants = refl; locations = refl; rows = refl; transactions = refl; edition-taken = refl; edition-2 = refl; edition-below-0 = refl; lists-taken = refl; prices = refl; row_list = refl; transaction-list = refl; sale-list = refl }
