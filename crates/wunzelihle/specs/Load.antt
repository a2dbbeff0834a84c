-- The load assignment as the C server calls it, with lists in bytes (document 01, "The exercise file", last paragraph, and "Load at the buses"). Assumes nothing.
use Rattle.std.specs.Prelude.{List, ℕ, ◌/◌, ℤ, length}
use Rattle.ints.specs.Refusal.{unless, lent}
use Rattle.numbers.specs.Bytes.{numbers, encoded}
use Rattle.load.specs.Load.{LoadGiven, load_given, assignment}
use Rattle.load.specs.Order.{load_refusal}
use Rattle.numbers.specs.Lists.{whole}

-- "A list crosses as eight bytes a number": the lists that the slices stand for
abbrev pub load_bytes_given : ℤ → ℤ → List ℕ → List ℕ → List ℕ → ℤ → List ℕ → List ℕ → List ℕ → LoadGiven
load_bytes_given metered distributor loads imports generation areas area_parts contracts tranches =
    load_given metered distributor (numbers loads) (numbers imports) (numbers generation) areas (numbers area_parts) (numbers contracts) (numbers tranches)

-- "a list's slice that is no multiple of eight gets refusal 1, in the place of a list of the wrong length": `bytes` is the length of the slice lent for the result
unfoldable pub load_bytes_refusal : ℤ → ℤ → List ℕ → List ℕ → List ℕ → ℤ → List ℕ → List ℕ → List ℕ → ℕ → ℕ
load_bytes_refusal metered distributor loads imports generation areas area_parts contracts tranches bytes =
    unless (whole (length loads)) 1
    (unless (whole (length imports)) 1
    (unless (whole (length generation)) 1
    (unless (whole (length area_parts)) 1
    (unless (whole (length contracts)) 1
    (unless (whole (length tranches)) 1
    (unless (whole bytes) 1
    (load_refusal (load_bytes_given metered distributor loads imports generation areas area_parts contracts tranches) (bytes / 8))))))))

-- what the slice then holds
abbrev pub load_bytes_outcome : ℤ → ℤ → List ℕ → List ℕ → List ℕ → ℤ → List ℕ → List ℕ → List ℕ → List ℕ → List ℕ
load_bytes_outcome metered distributor loads imports generation areas area_parts contracts tranches old =
    lent (load_bytes_refusal metered distributor loads imports generation areas area_parts contracts tranches (length old))
    (encoded (assignment (load_bytes_given metered distributor loads imports generation areas area_parts contracts tranches))) old
