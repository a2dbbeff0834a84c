-- Slices that may be lent for an hour, ragged ones among them, computed. Assumes nothing.
use Rattle.std.specs.Prelude.{◌≡◌, refl}
use Rattle.hour_bytes.specs.Inside.{hourly}

-- how many numbers of an hour a slice holds: 64 at most, and none where it is ragged
room-for-64 : hourly 512 ≡ 64
room-for-64 = refl

room-for-65 : hourly 520 ≡ 0
room-for-65 = refl

ragged-room : hourly 9 ≡ 0
ragged-room = refl
