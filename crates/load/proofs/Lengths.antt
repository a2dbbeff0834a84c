-- Lists that are longer than any that is accepted get 1. Assumes nothing.
use mathlib.Core.Path.{◌≡◌, refl, sym, ◌∙◌}
use mathlib.Core.Logic.{◌⊎◌, inl, inr, ⊎_elim}
use mathlib.Core.Bool.{Bool, true, false}
use Prim.Native.Nat.{ℕ, ◌*◌, ◌%◌, ◌≤◌}
use native.Mathlib.Nat.{mul-le-mul}
use native.Mathlib.Omega.{arith}
use lib.Dec.{leb, eqb}
use lib.IntN.{pos}
use lib.ListN.{length}
use Rattle.ints.specs.Number.{between}
use Rattle.ints.specs.Refusal.{unless}
use Rattle.ints.specs.Turn.{◌then◌}
use Rattle.ints.proofs.Turns.{then-later, then-earlier}
use Rattle.load.specs.Load.{area_count, contract_count, LoadGiven}
use Rattle.load.specs.Order.{counts_refusal, lengths_refusal, lists_refusal, load_refusal}
use Rattle.load.proofs.Accepted.{Counted, counted, Measured, measured}

-- the longest lists that are accepted
pub record Fits (d : LoadGiven) (n : ℕ) : Type 0 where
  pub loads-fit : length d.loads ≤ 64
  pub imports-fit : length d.imports ≤ 64
  pub generation-fit : length d.generation ≤ 64
  pub parts-fit : length d.area_parts ≤ 1024
  pub contracts-fit : length d.contracts ≤ 768
  pub tranches-fit : length d.tranches ≤ 64
  pub result_fits : n ≤ 4096

-- a line whose number is that of the later lines, if they have one
same_number : (t : Bool) (k : ℕ) {later : ℕ} → (later ≡ 0) ⊎ (later ≡ k) → (unless t k later ≡ 0) ⊎ (unless t k later ≡ k)
same_number true k e = e
same_number false k e = inr refl

-- a group that gives 1
first_one : (first later : ℕ) → first ≡ 1 → (first then later) ≡ 1
first_one first later e = then-earlier first later (λ z. not_none (sym e ∙ z)) ∙ e
  where
    not_none : ◌≡◌ {A = ℕ} 1 0 → ⊥
    not_none e = omega arith

module _ (d : LoadGiven) (n : ℕ) where
  counts-either : (counts_refusal d.loads d.imports d.generation d.areas d.contracts ≡ 0) ⊎ (counts_refusal d.loads d.imports d.generation d.areas d.contracts ≡ 1)
  unfolding counts_refusal
  counts-either =
      same_number (leb 1 (length d.loads)) 1
      (same_number (leb (length d.loads) 64) 1
      (same_number (between (pos 0) (pos 16) d.areas) 1
      (same_number (leb (contract_count d.contracts) 256) 1
      (same_number (leb (length d.imports) 64) 1
      (same_number (leb (length d.generation) 64) 1
      (inl refl))))))

  lengths-either : (lengths_refusal d.loads d.areas d.area_parts d.contracts d.tranches n ≡ 0) ⊎ (lengths_refusal d.loads d.areas d.area_parts d.contracts d.tranches n ≡ 1)
  unfolding lengths_refusal
  lengths-either =
      same_number (eqb (length d.area_parts) (area_count d.areas * length d.loads)) 1
      (same_number (eqb (length d.contracts % 3) 0) 1
      (same_number (eqb (length d.tranches) 64) 1
      (same_number (eqb n (64 * length d.loads)) 1
      (inl refl))))

  fits : Counted d.loads d.imports d.generation d.areas d.contracts → Measured d.loads d.areas d.area_parts d.contracts d.tranches n → Fits d n
  fits c m = record {
    loads-fit = c.few;
    imports-fit = c.imports-few;
    generation-fit = c.generation-few;
    parts-fit = omega (arith, m.parts-long, mul-le-mul {n₁ = area_count d.areas} {n₂ = 16} c.areas-few c.few);
    contracts-fit = omega (arith, m.contracts-whole, c.contracts-few);
    tranches-fit = omega (arith, m.tranches-long);
    result_fits = omega (arith, m.result-long, c.few);
  }

  pub too_long : (Fits d n → ⊥) → load_refusal d n ≡ 1
  unfolding load_refusal
  too_long long =
      first_one (lists_refusal d n) _
      (⊎_elim
      (λ e. then-later _ _ e
      ∙ ⊎_elim
      (λ f. absurd (long (fits (counted d.loads d.imports d.generation d.areas d.contracts e) (measured d.loads d.areas d.area_parts d.contracts d.tranches n f))))
      (first_one _ _)
      lengths-either)
      (first_one _ _)
      counts-either)
