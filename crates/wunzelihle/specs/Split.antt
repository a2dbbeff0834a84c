-- The split as the C server calls it, with lists in bytes (document 01, "The exercise file", last paragraph, and "The split"). Assumes nothing.
use Rattle.std.specs.Prelude.{List, ℕ, ◌/◌, ℤ, length}
use Rattle.ints.specs.Refusal.{unless, lent}
use Rattle.numbers.specs.Bytes.{numbers, encoded}
use Rattle.numbers.specs.Lists.{whole}
use Rattle.split.specs.Split.{split_refusal, parts}

-- "a list's slice that is no multiple of eight gets refusal 1, in the place of a list of the wrong length": `bytes` is the length of the slice lent for the parts
unfoldable pub split_bytes_refusal : ℤ → List ℕ → ℕ → ℕ
split_bytes_refusal amount shares bytes =
    unless (whole (length shares)) 1
    (unless (whole bytes) 1
    (split_refusal amount (numbers shares) (bytes / 8)))

-- what the slice then holds
abbrev pub split_bytes_outcome : ℤ → List ℕ → List ℕ → List ℕ
split_bytes_outcome amount shares old = lent (split_bytes_refusal amount shares (length old)) (encoded (parts amount (numbers shares))) old
