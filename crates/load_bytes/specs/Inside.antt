-- What the functions of the assignment from bytes ask of slices and working lists: for proofs, not to be believed. Assumes nothing.
use Rattle.std.specs.Prelude.{◌≡◌, true, List, ◌++◌, ℕ, ◌+◌, ◌*◌, ◌/◌, ◌%◌, ◌≤◌, ℤ, pos, length, replicate}
use Rattle.numbers.specs.Bytes.{numbers}
use Rattle.numbers.specs.Inside.{listed}
use Rattle.load.specs.Load.{LoadGiven, load_given}
use Rattle.load_bytes.specs.declared.GivenBytes.{GivenBytes}

-- every slice is a list, and none is longer than an accepted one can be; `bytes` is the length of the slice lent for the result
pub record AllListed (loads imports generation area_parts contracts tranches : List ℕ) (bytes : ℕ) : Type 0 where
  pub loads-listed : listed (length loads) 64 ≡ true
  pub imports-listed : listed (length imports) 64 ≡ true
  pub generation-listed : listed (length generation) 64 ≡ true
  pub parts-listed : listed (length area_parts) 1024 ≡ true
  pub contracts-listed : listed (length contracts) 768 ≡ true
  pub tranches-listed : listed (length tranches) 64 ≡ true
  pub result-listed : listed bytes 4096 ≡ true

-- how many numbers a slice holds
abbrev pub numbers_in : List ℕ → ℕ
numbers_in s = length s / 8

module _ (g : GivenBytes) where
  -- what an assignment is given by these slices
  abbrev pub bytes_given : LoadGiven
  bytes_given = load_given g.metered g.distributor (numbers g.loads.now) (numbers g.imports.now) (numbers g.generation.now) g.areas (numbers g.area_parts.now) (numbers g.contracts.now) (numbers g.tranches.now)

  -- the numbers of the slices, list behind list, and how many they are
  abbrev pub all_numbers : List ℤ
  all_numbers = ((((numbers g.loads.now ++ numbers g.imports.now) ++ numbers g.generation.now) ++ numbers g.area_parts.now) ++ numbers g.contracts.now) ++ numbers g.tranches.now

  abbrev pub numbers_in_all : ℕ
  numbers_in_all = numbers_in g.loads.now + numbers_in g.imports.now + numbers_in g.generation.now + numbers_in g.area_parts.now + numbers_in g.contracts.now + numbers_in g.tranches.now

-- they are whole numbers, and a working list of so many has room for them
pub record Readable (g : GivenBytes) (room : ℕ) : Type 0 where
  pub loads-whole : length g.loads.now % 8 ≡ 0
  pub imports-whole : length g.imports.now % 8 ≡ 0
  pub generation-whole : length g.generation.now % 8 ≡ 0
  pub parts_whole : length g.area_parts.now % 8 ≡ 0
  pub contracts-whole : length g.contracts.now % 8 ≡ 0
  pub tranches-whole : length g.tranches.now % 8 ≡ 0
  pub fit : numbers_in_all g ≤ room

-- a working list of zeros for a result of so many bytes
pub record Ready (bytes : ℕ) (made : List ℤ) : Type 0 where
  pub long : bytes ≡ 8 * length made
  pub empty : made ≡ replicate (length made) (pos 0)
