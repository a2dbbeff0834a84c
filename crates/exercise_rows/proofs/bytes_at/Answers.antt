use Rattle.std.proofs.Common.{ℕ, zero, suc, ◌+◌, ◌^◌, ◌≤◌, ◌<◌, refl, ap, arith, add-one}
use native.Mathlib.Nat.{pow-suc}
use Rattle.exercise.specs.Packed.{bytes_at}
use Rattle.exercise_rows.proofs.bytes_at.Goals as goal

-- six bytes and fewer leave room for one more
six : (i : ℕ) → i < 7 → 256 ^ i ≤ 281474976710656
six zero h = omega arith
six (suc zero) h = omega arith
six (suc (suc zero)) h = omega arith
six (suc (suc (suc zero))) h = omega arith
six (suc (suc (suc (suc zero)))) h = omega arith
six (suc (suc (suc (suc (suc zero))))) h = omega arith
six (suc (suc (suc (suc (suc (suc zero)))))) h = omega arith
six (suc (suc (suc (suc (suc (suc (suc i))))))) h = absurd (omega arith)

pub loop-i-init : goal.loop-i-init
unfolding bytes_at
loop-i-init g c = record { value = refl; small = omega arith }

pub overflow_mul-v : goal.overflow_mul-v
overflow_mul-v g c = record { fits = omega (arith, six c.loop-i.i (omega arith)) }

pub overflow_add-v : goal.overflow_add-v
overflow_add-v g c = record { fits = omega (arith, c.from.ensures, six c.loop-i.i (omega arith), (c.type_inv.s (c.args.k + c.loop-i.i)).fits) }

pub loop-i-preserved : goal.loop-i-preserved
unfolding bytes_at
loop-i-preserved g c = let i = c.loop-i.i in record {
  value = omega (arith, c.from.ensures, c.loop-i.invariant.value, ap (bytes_at c.args.s.now c.args.k) (add-one i));
  small = omega (arith, c.from.ensures, c.loop-i.invariant.small, (c.type_inv.s (c.args.k + i)).fits, ap (λ (j : ℕ). 256 ^ j) (add-one i), pow-suc 256 i);
}
