-- Causes in turn, as loops go through them. Assumes nothing.
use Rattle.std.specs.Prelude.{ℕ, zero, suc}
use Rattle.hour.specs.Cause.{Cause, no_cause, ◌or◌}

-- the first of n causes from f i on
unfoldable pub first_from : (ℕ → Cause) → ℕ → ℕ → Cause
first_from f i zero = no_cause
first_from f i (suc n) = f i or first_from f (suc i) n
