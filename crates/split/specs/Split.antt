-- The split (document 01, "The split"). "Work on the amount's size": `size` below is the amount's size. Assumes nothing.
use Rattle.std.specs.Prelude.{Bool, ◌||◌, ◌&&◌, List, ℕ, ◌+◌, ◌*◌, ◌-◌, ◌/◌, ◌%◌, ltb, leb, eqb, ℤ, pos, neg_ℤ, nat_abs, length}
use Rattle.ints.specs.Number.{below0, signed, between}
use Rattle.ints.specs.Refusal.{unless, lent}
use Rattle.ints.specs.Sum.{sum_nat, count, one}
use Rattle.ints.specs.Table.{◌at◌, tab, all}

-- party i's share, and the total of shares. A share is its size here: one below 0 is refused (2)
abbrev pub share : List ℤ → ℕ → ℕ
share shares i = nat_abs (shares at i)

unfoldable pub total : List ℤ → ℕ
total shares = sum_nat (share shares) (length shares)

-- "each party gets size times share divided by the total of shares, cut down", and the remainder of that. "Total 0 with amount 0 gives all zeros.": n / 0 is 0 in this
-- language, and no unit is left
unfoldable pub cut_down : ℕ → List ℤ → ℕ → ℕ
cut_down size shares i = size * share shares i / total shares

unfoldable pub remainder : ℕ → List ℤ → ℕ → ℕ
remainder size shares i = size * share shares i % total shares

-- "the units left"
unfoldable pub units_left : ℕ → List ℤ → ℕ
units_left size shares = size - sum_nat (cut_down size shares) (length shares)

-- "the parties with the largest remainders, the earlier one first where remainders are equal":
-- with the remainders r, party j comes before party i
unfoldable pub before : (ℕ → ℕ) → ℕ → ℕ → Bool
before r j i = ltb (r i) (r j) || (eqb (r j) (r i) && ltb j i)

-- how many of n parties come before party i
unfoldable pub place : (ℕ → ℕ) → ℕ → ℕ → ℕ
place r n i = count (λ j. before r j i) n

-- "go one each to" these: those that have fewer parties before them than there are units left
abbrev pub has_unit : ℕ → List ℤ → ℕ → Bool
has_unit size shares i = ltb (place (remainder size shares) (length shares) i) (units_left size shares)

-- party i's part of the size
unfoldable pub part : ℕ → List ℤ → ℕ → ℕ
part size shares i = cut_down size shares i + one (has_unit size shares i)

-- "then the sign is put back"
unfoldable pub parts : ℤ → List ℤ → List ℤ
parts amount shares = tab (λ i. signed (below0 amount) (part (nat_abs amount) shares i)) (length shares)

-- "Order: 1, 2 (amount, then shares), 7", for shares and a list of n numbers that is lent for the parts
unfoldable pub split_refusal : ℤ → List ℤ → ℕ → ℕ
split_refusal amount shares n =
    unless (leb 1 (length shares)) 1
    (unless (leb (length shares) 64) 1
    (unless (eqb n (length shares)) 1
    (unless (between (neg_ℤ (pos 1000000000)) (pos 1000000000) amount) 2
    (unless (all (between (pos 0) (pos 4000000000)) shares) 2
    (unless (ltb 0 (total shares) || eqb (nat_abs amount) 0) 7
    0)))))

-- what the lent list then holds
abbrev pub split_outcome : ℤ → List ℤ → List ℤ → List ℤ
split_outcome amount shares old = lent (split_refusal amount shares (length old)) (parts amount shares) old
