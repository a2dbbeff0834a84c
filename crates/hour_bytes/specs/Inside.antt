-- How many numbers of an hour a slice can hold. Assumes nothing.
use Rattle.std.specs.Prelude.{ℕ, ◌/◌}
use Rattle.ints.specs.Refusal.{pick}
use Rattle.numbers.specs.Inside.{listed}

-- of so many bytes: none where they are no list, or a longer one than any hour's
abbrev pub hourly : ℕ → ℕ
hourly bytes = pick (listed bytes 64) (bytes / 8) 0
