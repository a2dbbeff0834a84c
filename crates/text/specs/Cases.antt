-- Numbers as text, computed. Assumes nothing.
use Rattle.std.specs.Prelude.{◌≡◌, refl, pos, neg_ℤ, negsuc}
use Rattle.text.specs.Ascii.{ascii}
use Rattle.text.specs.Decimal.{digits_in, decimal}

nothing : decimal (pos 0) ≡ ascii "0"
unfolding digits_in
nothing = refl

below : decimal (neg_ℤ (pos 73)) ≡ ascii "-73"
unfolding digits_in
below = refl

-- the last participant
two_digits : decimal (pos 63) ≡ ascii "63"
unfolding digits_in
two_digits = refl

-- the last of one digit, and the first of two
one-digit : decimal (pos 9) ≡ ascii "9"
unfolding digits_in
one-digit = refl

ten : decimal (pos 10) ≡ ascii "10"
unfolding digits_in
ten = refl

-- a zero inside, and at the end
zeros : decimal (pos 1010) ≡ ascii "1010"
unfolding digits_in
zeros = refl

least : decimal (negsuc 0x7FFFFFFFFFFFFFFF) ≡ ascii "-9223372036854775808"
unfolding digits_in
least = refl
