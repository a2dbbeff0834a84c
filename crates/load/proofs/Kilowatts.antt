-- Every number of an accepted assignment is kW in range (document 01, "Units and sizes": "Power is in kW, 0 to 20,000,000"). Assumes nothing.
use mathlib.Core.Path.{◌≡◌, sym, ap, ◌∙◌, subst}
use mathlib.Core.Bool.{Bool}
use Prim.Native.Nat.{ℕ, ◌*◌, ◌/◌, ◌%◌, ◌<◌}
use native.Mathlib.Nat.{div-lt_iff_lt-mul, mod-lt}
use native.Mathlib.Omega.{arith}
use lib.IntN.{pos, nat_abs}
use Rattle.ints.specs.Number.{signed}
use Rattle.ints.specs.InsideRange.{InRange}
use Rattle.ints.proofs.Counts.{sum_nat-term}
use Rattle.ints.proofs.Ranges.{tab-range}
use Rattle.ints.proofs.Signs.{signed_is}
use Rattle.ints.proofs.Turns.{then-none}
use Rattle.load.specs.Inside.{Ranged}
use Rattle.load.specs.Load.{LoadGiven, buses, bus_load, assigned, assignment, cell}
use Rattle.load.specs.Order.{lists_refusal, load_refusal}
use Rattle.load.proofs.Accepted.{Tested, tested, naturals-of}
use Rattle.load.proofs.Assigned.{bus-load-ranged}
use Rattle.load.proofs.Handed.{natural-sum}
use Rattle.load.proofs.Theorems.{assignment-at, handed_out, not-below}

module _ (d : LoadGiven) (n : ℕ) (accepts : load_refusal d n ≡ 0) where
  facts : Tested d n
  unfolding load_refusal
  facts = tested d n (then-none (lists_refusal d n) _ accepts).0

  -- the load at a bus
  pub bus-ranged : (b : ℕ) → b < buses d → Ranged (bus_load d b)
  unfolding load_refusal
  bus-ranged b l =
      bus-load-ranged d.metered d.loads d.imports d.generation facts.meters-given
      (then-none _ _ (then-none (lists_refusal d n) _ accepts).1).0 (naturals-of 20000000 facts.ranges-pass.loads-in) b l

  -- of which nobody has more than there is
  pub assigned-ranged : (p b : ℕ) → p < 64 → b < buses d → Ranged (assigned d p b)
  assigned-ranged p b u l = record {
    natural = natural p u;
    small =
        omega (
          arith,
          sum_nat-term (λ p. nat_abs (assigned d p b)) p 64 u,
          ap nat_abs (sym (natural-sum (λ p. assigned d p b) (λ p. nat_abs (assigned d p b)) 64 natural) ∙ handed_out d n accepts b l),
          (bus-ranged b l).small,
        );
  }
    where
      natural : (p : ℕ) → p < 64 → assigned d p b ≡ pos (nat_abs (assigned d p b))
      natural p u = sym (signed_is (assigned d p b)) ∙ ap (λ (below : Bool). signed below (nat_abs (assigned d p b))) (not-below d n accepts b l p u)

  pub cell-ranged : (p b : ℕ) → p < 64 → b < buses d → Ranged (cell (buses d) (assignment d) p b)
  cell-ranged p b u l = subst Ranged (sym (assignment-at d p b u l)) (assigned-ranged p b u l)

  pub assignment-within : InRange (assignment d) 20000000
  unfolding assignment
  assignment-within =
      tab-range (λ k. assigned d (k / buses d) (k % buses d)) (64 * buses d) 20000000
      (λ k l. record { within = (assigned-ranged (k / buses d) (k % buses d) ((div-lt_iff_lt-mul facts.counts-pass.some).1 l) (mod-lt k facts.counts-pass.some)).small })
