use Rattle.std.proofs.Common.{◌≡◌, ℕ, ◌+◌, ltb, get_or, sym, ap, ◌∙◌, ap₂, arith}
use lib.ListN.{length-take}
use lib.Seq.{get_or-take}
use Rattle.ints.specs.Sum.{one}
use Rattle.ints.proofs.Counts.{sum_nat-zero, sum_nat-next, sum_nat-most, one-most}
use Rattle.split_units.proofs.keys_above.Goals as goal
use Rattle.split_units.proofs.keys_above.Goals.{After-is_above-count, Start}

-- what a key counts
abbrev bit : Start → ℕ → ℕ
bit s j = one (ltb s.args.floor (get_or s.args.keys.now j 0))

-- the key that is read is one of the first n
counted : (c : After-is_above-count) → c.is_above-count.result ≡ bit (goal.at.After-is_above-count c).Start c.loop-key.key-index
counted c = c.is_above-count.ensures ∙ ap (λ (k : ℕ). one (ltb c.args.floor k)) (get_or-take c.args.n c.args.keys.now c.loop-key.key-index 0 (omega (arith, length-take c.args.n c.args.keys.now)))

pub loop-key-init : goal.loop-key-init
loop-key-init c = sym (sum_nat-zero (bit (goal.at.loop-key-init c).Start))

pub overflow_add-count : goal.overflow_add-count
overflow_add-count c = record { fits = omega (arith, counted (goal.at.overflow_add-count c).After-is_above-count, c.loop-key.invariant, one-most (ltb c.args.floor (get_or c.args.keys.now c.loop-key.key-index 0)), sum_nat-most (bit (goal.at.overflow_add-count c).Start) 1 c.loop-key.key-index (λ j _. one-most (ltb c.args.floor (get_or c.args.keys.now j 0)))) }

pub loop-key-preserved : goal.loop-key-preserved
loop-key-preserved c = ap₂ ◌+◌ c.loop-key.invariant (counted (goal.at.loop-key-preserved c).After-is_above-count) ∙ sym (sum_nat-next (bit (goal.at.loop-key-preserved c).Start) c.loop-key.key-index)
