-- The version of the C interface: 10,000 for each major number, 100 for each minor one, 1 for each patch. Assumes nothing.
use Rattle.std.specs.Prelude.{ℕ, ◌+◌, ◌*◌}

-- 2.0.0
abbrev pub version : ℕ
version = 10000 * 2 + 100 * 0 + 0
