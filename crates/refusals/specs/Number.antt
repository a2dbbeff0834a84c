-- The numbers of refusals (document 01, "Refusal numbers"), and what a call answers. Assumes nothing.
use Rattle.std.specs.Prelude.{ℕ, Result, Ok, Err}
use Rattle.refusals.specs.declared.Refusal.{Refusal}

-- | No. | Given when |
abbrev pub number : Refusal → ℕ
number Refusal.Length = 1  -- "a count is beyond its size, or a list has the wrong length"
number Refusal.Range = 2  -- "a number is outside its range"
number Refusal.Identity = 3  -- "an identity names no participant, location or area"
number Refusal.Kind = 4  -- "kind, market and interval don't fit together, or one of them doesn't exist"
number Refusal.AreaTotal = 5  -- "an area's parts don't total 1,000,000"
number Refusal.MeteredLoad = 6  -- "metered load is below 0 or above 20,000,000"
number Refusal.NoShares = 7  -- "shares total 0 and the amount isn't 0"
number Refusal.Contracts = 8  -- "contracts at a bus exceed its load"
number Refusal.File = 9  -- "file of the wrong length, or a spare bit set"
number Refusal.Surplus = 10  -- "surplus beyond 1,000,000,000 cents in size, or a participant's share above 4,000,000,000"

-- what a call answers: the number of its refusal, and 0 where nothing is refused
abbrev pub answer : {A : Type 0} → Result A Refusal → ℕ
answer (Ok x) = 0
answer (Err refusal) = number refusal

-- what a call gives, or the number of its refusal
abbrev pub numbered : {A : Type 0} → Result A Refusal → Result A ℕ
numbered (Ok x) = Ok x
numbered (Err refusal) = Err (number refusal)
