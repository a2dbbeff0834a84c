-- The loads at the buses, and the assignment as a table. Assumes nothing.
use mathlib.Core.Path.{◌≡◌, refl, sym, ap, ◌∙◌, subst}
use mathlib.Core.Logic.{⊎_elim}
use mathlib.Core.Bool.{Bool, true, false}
use mathlib.Core.List.{List}
use Prim.Native.Nat.{ℕ, ◌*◌, ◌/◌, ◌%◌, ◌≤◌, ◌<◌}
use native.Mathlib.Nat.{div-add-mod', div-lt_iff_lt-mul, mod-lt}
use native.Mathlib.Omega.{arith}
use lib.IntN.{ℤ, pos}
use lib.ListN.{length}
use lib.Signed.{le_z}
use Rattle.ints.specs.Number.{between}
use Rattle.ints.specs.Refusal.{pick, unless}
use Rattle.ints.specs.Table.{◌at◌}
use Rattle.ints.proofs.Bools.{either}
use Rattle.ints.proofs.Eachs.{all_to-ext}
use Rattle.ints.proofs.Tables.{length-tab, tab-ext, tab-copy}
use Rattle.ints.proofs.Turns.{then-none}
use Rattle.split.specs.Split.{parts}
use Rattle.split.proofs.Laws.{length-parts}
use Rattle.load.specs.Inside.{Ranged, Splittable, MetersGiven}
use Rattle.load.specs.Load.{is_metered, metered_load, bus_loads, contracted, LoadGiven, buses, assigned, assignment, cell}
use Rattle.load.specs.Order.{lists_refusal, meters_refusal, contracts_refusal, load_refusal}
use Rattle.load.proofs.Accepted.{Naturals, ranged-of, tested}
use Rattle.load.proofs.Meters.{unmetered-loads, metered-loads, metered-outside, metered-inside}
use Rattle.load.proofs.Splits.{part-ranged, last_line}

-- ---- step 1

module _ (metered : ℤ) (loads imports generation : List ℤ) where
  pub length-bus-loads : length (bus_loads metered loads imports generation) ≡ length loads
  length-bus-loads = by (is_metered metered)
    where
      by : (t : Bool) → length (pick t (parts (metered_load imports generation) loads) loads) ≡ length loads
      by true = length-parts (metered_load imports generation) loads
      by false = refl

  module _ (given : MetersGiven loads imports generation) (accepts : meters_refusal metered loads imports generation ≡ 0) where
    -- a metered load that is accepted can be split
    pub metered-splits : is_metered metered ≡ true → Splittable (metered_load imports generation) loads
    metered-splits on =
        ⊎_elim
        (λ inside.
        let r = ranged-of (metered_load imports generation) inside in
        record { accepted = last_line (metered_load imports generation) loads r given.tested given.some ∙ sym (metered-inside metered loads imports generation on inside) ∙ accepts; ranged = r })
        (λ outside. absurd (six (sym (metered-outside metered loads imports generation on outside) ∙ accepts)))
        (either (between (pos 0) (pos 20000000) (metered_load imports generation)))
      where
        six : ◌≡◌ {A = ℕ} 6 0 → ⊥
        six e = omega arith

    pub bus-load-ranged : Naturals loads 20000000 → (b : ℕ) → b < length loads → Ranged (bus_loads metered loads imports generation at b)
    bus-load-ranged s b l =
        ⊎_elim
        (λ on. subst (λ (list : List ℤ). Ranged (list at b)) (sym (metered-loads metered loads imports generation on)) (part-ranged (metered-splits on) b l))
        (λ off. subst (λ (list : List ℤ). Ranged (list at b)) (sym (unmetered-loads metered loads imports generation off)) (record { natural = s.natural b; small = s.most b }))
        (either (is_metered metered))

-- ---- 8, for the same loads

pub cover-ext : (n : ℕ) (area_parts contracts : List ℤ) (f g : ℕ → ℤ) → ((b : ℕ) → b < n → f b ≡ g b) → contracts_refusal n area_parts contracts f ≡ contracts_refusal n area_parts contracts g
unfolding contracts_refusal
cover-ext n area_parts contracts f g h = ap (λ (t : Bool). unless t 8 0) (all_to-ext _ _ n (λ b l. ap (le_z (contracted n area_parts contracts b)) (h b l)))

-- ---- a table with the numbers of the result

pub assignment-is : (d : LoadGiven) (table : List ℤ) → 1 ≤ buses d → length table ≡ 64 * buses d → ((p b : ℕ) → p < 64 → b < buses d → cell (buses d) table p b ≡ assigned d p b) → table ≡ assignment d
unfolding assignment
assignment-is d table some long h =
    sym (tab-copy (pos 0) table (sym long))
    ∙ tab-ext _ _ (64 * buses d)
    (λ k l. ap (λ (i : ℕ). table at i) (sym (div-add-mod' k (buses d))) ∙ h (k / buses d) (k % buses d) ((div-lt_iff_lt-mul some).1 l) (mod-lt k some))

-- an accepted assignment is as long as the list lent for it
pub length-assignment : (d : LoadGiven) (n : ℕ) → load_refusal d n ≡ 0 → length (assignment d) ≡ n
unfolding assignment load_refusal
length-assignment d n e = length-tab (λ k. assigned d (k / buses d) (k % buses d)) (64 * buses d) ∙ sym (tested d n (then-none (lists_refusal d n) _ e).0).lengths-pass.result-long
