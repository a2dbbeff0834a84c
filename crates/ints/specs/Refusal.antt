-- What a call answers, and what it leaves in a list that it was lent. Assumes nothing.
use Rattle.std.specs.Prelude.{Bool, true, false, List, ℕ, eqb}

-- x where the test holds, else y
abbrev pub pick : {A : Type 0} → Bool → A → A → A
pick true x y = x
pick false x y = y

-- one line of an order of refusals: the number unless the test holds, and then what the later lines say
abbrev pub unless : Bool → ℕ → ℕ → ℕ
unless true number later = later
unless false number later = number

-- a lent list after the answer: the result where that is 0, and what it held before where the call is refused
abbrev pub lent : {A : Type 0} → ℕ → List A → List A → List A
lent answer result before = pick (eqb answer 0) result before
