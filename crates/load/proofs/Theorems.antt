-- What holds of every accepted assignment: `demand-3` at the end, and before it the laws of which it is made: each split is fair, at each bus the load
-- handed out is the load that was there, with metering the buses' loads total the metered load, and nobody's kW is below zero. Assumes nothing.
use mathlib.Core.Path.{◌≡◌, refl, sym, ap, ap₂, ◌∙◌, subst}
use mathlib.Core.Logic.{◌⊎◌, inl, inr, ⊎_elim}
use mathlib.Core.Bool.{Bool, true, false}
use Prim.Native.Nat.{ℕ, ◌+◌, ◌*◌, ◌/◌, ◌%◌, ◌<◌}
use native.Mathlib.Omega.{arith}
use lib.Dec.{eqb}
use lib.IntN.{ℤ, pos, nat_abs, ◌+ℤ◌, ◌-ℤ◌}
use lib.ListN.{length}
use lib.Signed.{le_z}
use borrow.Author.Tests.{eq-eqb, ne_eqb, le-ltb, eqb-true, eqb-false}
use Rattle.ints.specs.Each.{all_to}
use Rattle.ints.proofs.Ranges.{room}
use Rattle.ints.specs.Number.{below0}
use Rattle.ints.specs.Sum.{sum_to, only}
use Rattle.ints.specs.Table.{◌at◌, tab}
use Rattle.ints.proofs.Bools.{either}
use Rattle.ints.proofs.Diff.{ind2, ⊖-laws, ⊖-eq}
use Rattle.ints.proofs.Eachs.{all_to-at}
use Rattle.ints.proofs.Refusals.{passed}
use Rattle.ints.proofs.Sums.{sum_to-ext, sum_to-plus, sum_to-swap, sum_to-only}
use Rattle.ints.proofs.Tables.{get_or-tab, tab-self, tab-ext}
use Rattle.ints.proofs.Turns.{then-none}
use Rattle.split.specs.Fair.{Fair}
use Rattle.split.specs.Split.{total, parts}
use Rattle.split.proofs.Demand3.{fair}
use Rattle.load.specs.Fair.{FairLoad}
use Rattle.load.specs.Inside.{Ranged, Splittable}
use Rattle.load.specs.Load.{identity, is_metered, metered_load, bus_loads, supplier, area, kw, contract_count, parts_of, contract_parts, contract_at, contract_load, contracted, LoadGiven, buses, bus_load, rest, rest_part, assigned, assignment, cell}
use Rattle.load.specs.Order.{lists_refusal, meters_refusal, contracts_refusal, load_refusal}
use Rattle.load.proofs.Accepted.{Tested, tested, naturals-of}
use Rattle.load.proofs.Assigned.{metered-splits, bus-load-ranged, length-assignment}
use Rattle.load.proofs.Handed.{stays, is_shared, splits-over, contract-natural, contracted-natural, left-ranged, natural-sum}
use Rattle.load.proofs.Meters.{unmetered-loads, metered-loads}
use Rattle.load.proofs.Splits.{part-ranged}
use Rattle.load.proofs.Tables.{row-of, column-of}

-- one participant of 64 has it all
one_has : (q : ℕ) (z : ℤ) → q < 64 → sum_to (λ p. only (eqb q p) z) 64 ≡ z
one_has q z h =
    sum_to-only (λ p. only (eqb q p) z) 64 q h (λ p _ ne. ap (λ (t : Bool). only t z) (ne_eqb q p (λ e. ne (sym e))))
    ∙ ap (λ (t : Bool). only t z) (eq-eqb q q refl)

put_back : (x y : ℤ) → y +ℤ (x -ℤ y) ≡ x
put_back = ind2 _ (λ a b c d. simp ⊖-laws (⊖-eq _ _ _ _ (omega arith)))

only-natural : (t : Bool) (z : ℤ) → z ≡ pos (nat_abs z) → only t z ≡ pos (nat_abs (only t z))
only-natural true z e = e
only-natural false z e = refl

sum-not-below : {x y : ℤ} {m k : ℕ} → x ≡ pos m → y ≡ pos k → below0 (x +ℤ y) ≡ false
sum-not-below {m = m} {k = k} e f = ap₂ (λ (x y : ℤ). below0 (x +ℤ y)) e f ∙ le-ltb (m + k) 0 (omega arith)

-- ---- the result is participant by participant: number p * buses + b is what participant p is assigned at bus b

pub assignment-at : (d : LoadGiven) (p b : ℕ) → p < 64 → b < buses d → cell (buses d) (assignment d) p b ≡ assigned d p b
unfolding assignment
assignment-at d p b u l =
    get_or-tab (λ k. assigned d (k / buses d) (k % buses d)) (pos 0) (64 * buses d) (p * buses d + b) (omega (arith, room p 64 (buses d) u))
    ∙ ap₂ (assigned d) (row-of (buses d) p b l) (column-of (buses d) p b l)

-- by the contracts' parts
assigned-is : (d : LoadGiven) (p b : ℕ)
    → assigned d p b ≡ sum_to (λ j. only (eqb (identity (supplier d.contracts j)) p) (contract_parts (buses d) d.area_parts d.contracts j at b)) (contract_count d.contracts) +ℤ rest_part d b p
unfolding contract_at
assigned-is d p b = refl

module _ (d : LoadGiven) (n : ℕ) (accepts : load_refusal d n ≡ 0) where
  -- no group of the order refuses anything
  groups : (lists_refusal d n ≡ 0) × (meters_refusal d.metered d.loads d.imports d.generation ≡ 0) × (contracts_refusal (buses d) d.area_parts d.contracts (bus_load d) ≡ 0)
  unfolding load_refusal
  groups =
      let p = then-none (lists_refusal d n) _ accepts in
      let q = then-none (meters_refusal d.metered d.loads d.imports d.generation) _ p.1 in
      (p.0, q.0, q.1)

  facts : Tested d n
  facts = tested d n groups.0

  -- ---- demand 3

  -- the metered load over the buses
  pub metered-fair : is_metered d.metered ≡ true → Fair (metered_load d.imports d.generation) d.loads (bus_loads d.metered d.loads d.imports d.generation)
  metered-fair on =
      subst (Fair (metered_load d.imports d.generation) d.loads) (sym (metered-loads d.metered d.loads d.imports d.generation on))
      (fair (metered_load d.imports d.generation) d.loads (length d.loads) (metered-splits d.metered d.loads d.imports d.generation facts.meters-given groups.1 on).accepted)

  -- each contract over its area
  pub contract-fair : (j : ℕ) → j < contract_count d.contracts → Fair (kw d.contracts j) (parts_of (buses d) d.area_parts (identity (area d.contracts j))) (contract_parts (buses d) d.area_parts d.contracts j)
  contract-fair j h = fair (kw d.contracts j) (parts_of (buses d) d.area_parts (identity (area d.contracts j))) _ (facts.contracts-given.splits j h).accepted

  -- what remains at a bus
  rest-ranged : (b : ℕ) → b < buses d → Ranged (rest d b)
  unfolding contracts_refusal
  rest-ranged b l =
      left-ranged (bus_load d b) (contracted (buses d) d.area_parts d.contracts b)
      (bus-load-ranged d.metered d.loads d.imports d.generation facts.meters-given groups.1 (naturals-of 20000000 facts.ranges-pass.loads-in) b l)
      (contracted-natural (buses d) d.area_parts d.contracts facts.contracts-given b l)
      (all_to-at (λ b. le_z (contracted (buses d) d.area_parts d.contracts b) (bus_load d b)) (buses d) (passed (all_to (λ b. le_z (contracted (buses d) d.area_parts d.contracts b) (bus_load d b)) (buses d)) 7 0 groups.2).0 b l)

  module _ (b : ℕ) (l : b < buses d) where
    -- participant p's part of it
    abbrev won : ℕ → ℤ
    won = rest_part d b

    module _ (some : total d.tranches ≡ 0 → ⊥) where
      rest-splits : Splittable (rest d b) d.tranches
      rest-splits = splits-over facts.auction-given.tested (rest-ranged b l) some

      -- over the winners of tranches
      pub rest-fair : Fair (rest d b) d.tranches (parts (rest d b) d.tranches) × ((p : ℕ) → won p ≡ parts (rest d b) d.tranches at p)
      rest-fair = (fair (rest d b) d.tranches (length d.tranches) rest-splits.accepted, λ p. is_shared (identity d.distributor) d.tranches (rest d b) p some)

      won-all : sum_to won 64 ≡ rest d b
      won-all =
          sum_to-ext won (λ p. parts (rest d b) d.tranches at p) 64 (λ p _. rest-fair.1 p)
          ∙ ap (sum_to (λ p. parts (rest d b) d.tranches at p)) (sym facts.auction-given.all) ∙ rest-fair.0.adds-up

      won-natural : (p : ℕ) → p < 64 → won p ≡ pos (nat_abs (won p))
      won-natural p u = subst (λ (z : ℤ). z ≡ pos (nat_abs z)) (sym (rest-fair.1 p)) (part-ranged rest-splits p (omega (arith, facts.auction-given.all))).natural

    module _ (none : total d.tranches ≡ 0) where
      kept-all : sum_to won 64 ≡ rest d b
      kept-all = sum_to-ext won (λ p. only (eqb (identity d.distributor) p) (rest d b)) 64 (λ p _. stays (identity d.distributor) d.tranches (rest d b) p none) ∙ one_has (identity d.distributor) (rest d b) facts.auction-given.named

      kept-natural : (p : ℕ) → won p ≡ pos (nat_abs (won p))
      kept-natural p = subst (λ (z : ℤ). z ≡ pos (nat_abs z)) (sym (stays (identity d.distributor) d.tranches (rest d b) p none)) (only-natural (eqb (identity d.distributor) p) (rest d b) (rest-ranged b l).natural)

    tranche : (total d.tranches ≡ 0) ⊎ (total d.tranches ≡ 0 → ⊥)
    tranche = ⊎_elim (λ t. inl (eqb-true (total d.tranches) 0 t)) (λ t. inr (eqb-false (total d.tranches) 0 t)) (either (eqb (total d.tranches) 0))

    -- ---- at each bus the load handed out is the load that was there

    contracts-all : sum_to (λ p. contract_load (buses d) d.area_parts d.contracts p b) 64 ≡ contracted (buses d) d.area_parts d.contracts b
    contracts-all =
        sum_to-swap (λ p j. only (eqb (identity (supplier d.contracts j)) p) (contract_at (buses d) d.area_parts d.contracts j b)) 64 (contract_count d.contracts)
        ∙ sum_to-ext _ _ (contract_count d.contracts) (λ j h. one_has (identity (supplier d.contracts j)) (contract_at (buses d) d.area_parts d.contracts j b) (facts.contracts-given.supplied j h))

    pub handed_out : sum_to (λ p. assigned d p b) 64 ≡ bus_load d b
    handed_out =
        sum_to-plus (λ p. contract_load (buses d) d.area_parts d.contracts p b) won 64
        ∙ ap₂ ◌+ℤ◌ contracts-all (⊎_elim kept-all won-all tranche)
        ∙ put_back (bus_load d b) (contracted (buses d) d.area_parts d.contracts b)

    -- ---- nobody's kW is below zero

    pub not-below : (p : ℕ) → p < 64 → below0 (assigned d p b) ≡ false
    not-below p u = sum-not-below (natural-sum given (λ j. nat_abs (given j)) (contract_count d.contracts) contract) (⊎_elim (λ z. kept-natural z p) (λ s. won-natural s p u) tranche)
      where
        given : ℕ → ℤ
        given j = only (eqb (identity (supplier d.contracts j)) p) (contract_at (buses d) d.area_parts d.contracts j b)

        contract : (j : ℕ) → j < contract_count d.contracts → given j ≡ pos (nat_abs (given j))
        contract j h =
            let e = contract-natural (buses d) d.area_parts d.contracts facts.contracts-given j b h l in
            only-natural (eqb (identity (supplier d.contracts j)) p) (contract_at (buses d) d.area_parts d.contracts j b) (e ∙ ap (λ (z : ℤ). pos (nat_abs z)) (sym e))

  -- ---- with metering the loads at the buses total the metered load

  pub metered-total : is_metered d.metered ≡ true → sum_to (bus_load d) (buses d) ≡ metered_load d.imports d.generation
  metered-total on = (metered-fair on).adds-up

  -- ---- demand 3, of what is given and of the table that is the result

  pub demand-3 : FairLoad d (assignment d)
  demand-3 = record {
    metered = metered-fair;
    unmetered = unmetered-loads d.metered d.loads d.imports d.generation;
    contract = contract-fair;
    auction = λ b l some. let f = rest-fair b l some in
        subst (Fair (rest d b) d.tranches)
        (tab-self (pos 0) (parts (rest d b) d.tranches) ∙ ap (tab (λ p. parts (rest d b) d.tranches at p)) (f.0.one_each ∙ facts.auction-given.all) ∙ tab-ext _ _ 64 (λ p _. sym (f.1 p)))
        f.0;
    no-tranche = λ b none p. stays (identity d.distributor) d.tranches (rest d b) p none;
    long = length-assignment d n accepts ∙ facts.lengths-pass.result-long;
    holds = λ p b u l. assignment-at d p b u l ∙ assigned-is d p b;
    not-below = λ p b u l. ap below0 (assignment-at d p b u l) ∙ not-below b l p u;
    handed_out = λ b l. sum_to-ext _ _ 64 (λ p u. assignment-at d p b u l) ∙ handed_out b l;
  }
