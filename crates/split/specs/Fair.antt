-- Demand 3 (document 00), of an amount, the shares and the parts. Assumes nothing.
use Rattle.std.specs.Prelude.{◌≡◌, ◌⊎◌, List, ℕ, ◌≤◌, ◌<◌, ℤ, pos, nat_abs, ◌+ℤ◌, ◌*ℤ◌, length}
use Rattle.std.specs.Int.Signed.{quot_z}
use Rattle.ints.specs.Number.{below0, signed}
use Rattle.ints.specs.Sum.{sum_to}
use Rattle.ints.specs.Table.{◌at◌}
use Rattle.split.specs.Split.{share, total, remainder}

-- party i's "exact proportion cut toward zero": amount times share over the total of shares
abbrev pub proportion : ℤ → List ℤ → ℕ → ℤ
proportion amount shares i = quot_z (amount *ℤ shares at i) (pos (total shares))

-- "one unit further from zero"
abbrev pub further : ℤ → List ℤ → ℕ → ℤ
further amount shares i = proportion amount shares i +ℤ signed (below0 amount) 1

pub record Fair (amount : ℤ) (shares parts : List ℤ) : Type 0 where
  pub one_each : length parts ≡ length shares
  -- "Each party gets its exact proportion cut toward zero, or one unit further from zero, and never anything else."
  pub proportional : (i : ℕ) → i < length shares → (parts at i ≡ proportion amount shares i) ⊎ (parts at i ≡ further amount shares i)
  -- "The parts add up to the amount."
  pub adds-up : sum_to (λ i. parts at i) (length shares) ≡ amount
  -- "A zero share gets zero."
  pub zero-share : (i : ℕ) → i < length shares → share shares i ≡ 0 → parts at i ≡ pos 0
  -- "Of two parties, the larger share never gets the smaller size."
  pub larger-share : (i j : ℕ) → i < length shares → j < length shares → share shares j < share shares i → nat_abs (parts at j) ≤ nat_abs (parts at i)
  -- Document 01: units go "to the parties with the largest remainders, the earlier one first where remainders are equal".
  pub larger-remainder : (i j : ℕ) → i < length shares → j < length shares → remainder (nat_abs amount) shares j < remainder (nat_abs amount) shares i
      → parts at j ≡ further amount shares j → parts at i ≡ further amount shares i
  pub earlier-party : (i j : ℕ) → i < j → j < length shares → remainder (nat_abs amount) shares i ≡ remainder (nat_abs amount) shares j
      → parts at j ≡ further amount shares j → parts at i ≡ further amount shares i
