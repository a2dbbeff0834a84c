-- No part of an accepted split is larger than the amount, so each is within the amount's limits. Assumes nothing.
use mathlib.Core.Path.{◌≡◌, ap, ◌∙◌}
use mathlib.Core.Logic.{⊎_elim}
use mathlib.Core.List.{List}
use Prim.Native.Nat.{ℕ, ◌≤◌, ◌<◌}
use native.Mathlib.Omega.{arith}
use lib.IntN.{ℤ, nat_abs}
use lib.ListN.{length}
use Rattle.ints.specs.Number.{below0, signed}
use Rattle.ints.specs.InsideRange.{InRange}
use Rattle.ints.proofs.Counts.{sum_nat-term}
use Rattle.ints.proofs.Ranges.{tab-range}
use Rattle.ints.proofs.Signs.{size-signed}
use Rattle.split.specs.Split.{part, parts, split_refusal}
use Rattle.split.proofs.Accepted.{accepted}
use Rattle.split.proofs.Laws.{part-sum, no_size}

module _ (amount : ℤ) (shares : List ℤ) (n : ℕ) (accepts : split_refusal amount shares n ≡ 0) where
  abbrev size : ℕ
  size = nat_abs amount

  pub part-size : (i : ℕ) → i < length shares → part size shares i ≤ size
  part-size i l =
      ⊎_elim
      (λ some. omega (arith, sum_nat-term (part size shares) i (length shares) l, part-sum size shares some))
      (λ none. omega (arith, ap (λ (m : ℕ). part m shares i) none ∙ no_size shares i))
      (accepted amount shares n accepts).some

  pub parts_within : InRange (parts amount shares) 1000000000
  unfolding parts
  parts_within =
      tab-range (λ i. signed (below0 amount) (part size shares i)) (length shares) 1000000000
      (λ i l. record { within = omega (arith, size-signed (below0 amount) (part size shares i), part-size i l, (accepted amount shares n accepts).size) })
