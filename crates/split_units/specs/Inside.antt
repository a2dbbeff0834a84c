-- Keys, floors and counts, as the functions that hand out the units pass them on. Assumes nothing.
use Rattle.std.specs.Prelude.{◌≡◌, ℕ, zero, suc, ◌+◌, ◌-◌, ◌*◌, ◌/◌, ◌<◌, ◌≤◌, min, Bool, ltb, List, nat_le, nat_lt, slice_index}
use Rattle.ints.specs.Refusal.{pick}
use Rattle.ints.specs.Sum.{count}
use Rattle.split_units.specs.declared.Level.{Level}

-- how many of the first n keys are above k
abbrev pub keys_above : List ℕ → ℕ → ℕ → ℕ
keys_above keys n k = count (λ j. ltb k (slice_index keys j)) n

-- of the first n keys each is from 1 and below 2^44, as 64 times a total of 256,000,000,000 is, and no two are equal; behind them are zeros
pub record Keys (keys : List ℕ) (n : ℕ) : Type 0 where
  pub few : n ≤ 64
  pub low : (i : ℕ) → i < n → 0 < slice_index keys i
  pub high : (i : ℕ) → i < n → slice_index keys i < 17592186044416
  pub apart : (i j : ℕ) → i < n → j < n → slice_index keys i ≡ slice_index keys j → i ≡ j
  pub rest : (i : ℕ) → n ≤ i → slice_index keys i ≡ 0

-- a floor below 2^44, and as many keys as are above it
pub record Counted (keys : List ℕ) (n : ℕ) (at : Level) : Type 0 where
  pub low : at.floor < 17592186044416
  pub is : at.count ≡ keys_above keys n at.floor

-- the keys above the floor are those above which fewer keys than units are
pub record Floor (keys : List ℕ) (n units floor : ℕ) : Type 0 where
  pub low : floor < 17592186044416
  pub each : (i : ℕ) → i < n → nat_lt floor (slice_index keys i) ≡ nat_lt (keys_above keys n (slice_index keys i)) units

-- a - b, wrapped at 2^64: where b is above a, that is more than for any b up to a
abbrev pub back : ℕ → ℕ → ℕ
back a b = pick (nat_le b a) (a - b) (18446744073709551616 + a - b)

-- how far a key lies above the floor, 0 for the one right above it; or below, 0 for the floor itself
abbrev pub distance : Bool → ℕ → ℕ → ℕ
distance up floor key = pick up (back key (floor + 1)) (back floor key)

-- the least of n numbers, and the largest number of 64 bits where there are none
unfoldable pub least : (ℕ → ℕ) → ℕ → ℕ
least f zero = 18446744073709551615
least f (suc n) = min (least f n) (f n)

-- n, and up to three more to make fours
abbrev pub by_fours : ℕ → ℕ
by_fours n = 4 * ((n + 3) / 4)

-- how far two counts are apart
abbrev pub apart : ℕ → ℕ → ℕ
apart a b = (a - b) + (b - a)
