-- A number as document 01's statement shows it ("Cases": "1 0 390 463 -73"), in ASCII: its digits in base ten, and a minus sign before a number below 0. Assumes nothing.
use Rattle.std.specs.Prelude.{Bool, true, false, List, [], ◌∷◌, ◌++◌, ℕ, zero, suc, ◌+◌, ◌/◌, ◌%◌, ltb, ℤ, nat_abs}
use Rattle.ints.specs.Number.{below0}
use Rattle.ints.specs.Refusal.{pick}
use Rattle.text.specs.Ascii.{ascii}

-- the code of a digit: 48 is '0'
abbrev pub digit : ℕ → ℕ
digit d = 48 + d

-- the digits of n, the highest first and no zero in front, of a number that has at most so many
unfoldable pub digits_in : ℕ → ℕ → List ℕ
digits_in zero n = []
digits_in (suc most) n = pick (ltb n 10) (digit n ∷ []) (digits_in most (n / 10) ++ (digit (n % 10) ∷ []))

-- of 64 bits: 20 digits at most. Read from the left they come to the number (`reads-back` in proofs/Laws); every sum of an accepted hour is smaller (crate `hour`)
abbrev pub digits : ℕ → List ℕ
digits n = digits_in 20 n

abbrev pub sign_text : Bool → List ℕ
sign_text true = ascii "-"
sign_text false = []

abbrev pub decimal : ℤ → List ℕ
decimal z = sign_text (below0 z) ++ digits (nat_abs z)
