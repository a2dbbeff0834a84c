-- What the order of refusals tells of what it accepts, group by group. Assumes nothing.
use mathlib.Core.Path.{◌≡◌, sym, ap, ◌∙◌}
use mathlib.Core.Bool.{true}
use mathlib.Core.List.{List}
use Prim.Native.Nat.{ℕ, zero, suc, ◌+◌, ◌*◌, ◌-◌, ◌%◌, ◌≤◌, ◌<◌}
use native.Mathlib.Decide.{dec_lt}
use native.Mathlib.Omega.{arith}
use lib.Dec.{leb, eqb}
use lib.IntN.{ℤ, pos, negsuc, neg_ℤ, nat_abs, ◌-ℤ◌}
use lib.ListN.{length, drop, length-take, get_or-eq_default}
use lib.Seq.{get_or-take, get_or-drop}
use lib.Signed.{le_z}
use borrow.Author.Tests.{leb-true, eqb-true}
use Rattle.ints.specs.Each.{all_to}
use Rattle.ints.specs.Number.{between}
use Rattle.ints.specs.InsideRange.{Short}
use Rattle.ints.specs.Table.{◌at◌, all}
use Rattle.ints.proofs.Bools.{and-true, not-both}
use Rattle.ints.proofs.Eachs.{all_to-at}
use Rattle.ints.proofs.Ranges.{range_at, room}
use Rattle.ints.proofs.Refusals.{passed}
use Rattle.ints.proofs.Tables.{all-at}
use Rattle.ints.proofs.Tests.{between-size, between-natural}
use Rattle.ints.proofs.Turns.{then-none}
use Rattle.split.specs.Inside.{Shares}
use Rattle.split.specs.Split.{total}
use Rattle.load.specs.Inside.{Ranged, Areas, Contracts, Auction, MetersGiven}
use Rattle.load.specs.Load.{identity, area_count, supplier, area, kw, contract_count, parts_of, LoadGiven, buses}
use Rattle.load.specs.Order.{counts_refusal, lengths_refusal, ranges_refusal, named, identities_refusal, areas_refusal, lists_refusal}
use Rattle.load.proofs.Handed.{minus-natural}
use Rattle.load.proofs.Splits.{short-of, length-stretch, splits_of}

-- ---- the groups

pub record Counted (loads imports generation : List ℤ) (areas : ℤ) (contracts : List ℤ) : Type 0 where
  pub some : 1 ≤ length loads
  pub few : length loads ≤ 64
  pub areas-natural : areas ≡ pos (nat_abs areas)
  pub areas-few : area_count areas ≤ 16
  pub contracts-few : contract_count contracts ≤ 256
  pub imports-few : length imports ≤ 64
  pub generation-few : length generation ≤ 64

pub counted : (loads imports generation : List ℤ) (areas : ℤ) (contracts : List ℤ) → counts_refusal loads imports generation areas contracts ≡ 0 → Counted loads imports generation areas contracts
unfolding counts_refusal
counted loads imports generation areas contracts e =
    let p1 = passed (leb 1 (length loads)) 0 _ e in
    let p2 = passed (leb (length loads) 64) 0 _ p1.1 in
    let p3 = passed (between (pos 0) (pos 16) areas) 0 _ p2.1 in
    let p4 = passed (leb (contract_count contracts) 256) 0 _ p3.1 in
    let p5 = passed (leb (length imports) 64) 0 _ p4.1 in
    let p6 = passed (leb (length generation) 64) 0 0 p5.1 in
    let a = between-natural areas 16 p3.0 in
    record {
      some = leb-true 1 (length loads) p1.0;
      few = leb-true (length loads) 64 p2.0;
      areas-natural = a.0;
      areas-few = a.1;
      contracts-few = leb-true (contract_count contracts) 256 p4.0;
      imports-few = leb-true (length imports) 64 p5.0;
      generation-few = leb-true (length generation) 64 p6.0;
    }

pub record Measured (loads : List ℤ) (areas : ℤ) (area_parts contracts tranches : List ℤ) (n : ℕ) : Type 0 where
  pub parts-long : length area_parts ≡ area_count areas * length loads
  pub contracts-whole : length contracts % 3 ≡ 0
  pub tranches-long : length tranches ≡ 64
  pub result-long : n ≡ 64 * length loads

pub measured : (loads : List ℤ) (areas : ℤ) (area_parts contracts tranches : List ℤ) (n : ℕ) → lengths_refusal loads areas area_parts contracts tranches n ≡ 0 → Measured loads areas area_parts contracts tranches n
unfolding lengths_refusal
measured loads areas area_parts contracts tranches n e =
    let p1 = passed (eqb (length area_parts) (area_count areas * length loads)) 0 _ e in
    let p2 = passed (eqb (length contracts % 3) 0) 0 _ p1.1 in
    let p3 = passed (eqb (length tranches) 64) 0 _ p2.1 in
    let p4 = passed (eqb n (64 * length loads)) 0 0 p3.1 in
    record {
      parts-long = eqb-true (length area_parts) (area_count areas * length loads) p1.0;
      contracts-whole = eqb-true (length contracts % 3) 0 p2.0;
      tranches-long = eqb-true (length tranches) 64 p3.0;
      result-long = eqb-true n (64 * length loads) p4.0;
    }

pub record InRanges (metered : ℤ) (loads imports generation area_parts contracts tranches : List ℤ) : Type 0 where
  pub loads-in : all (between (pos 0) (pos 20000000)) loads ≡ true
  pub imports-in : all (between (neg_ℤ (pos 20000000)) (pos 20000000)) imports ≡ true
  pub generation-in : all (between (pos 0) (pos 20000000)) generation ≡ true
  pub parts_in : all (between (pos 0) (pos 1000000)) area_parts ≡ true
  pub kw-in : all_to (λ j. between (pos 0) (pos 20000000) (kw contracts j)) (contract_count contracts) ≡ true
  pub tranches-in : all (between (pos 0) (pos 10000)) tranches ≡ true

pub in-ranges : (metered : ℤ) (loads imports generation area_parts contracts tranches : List ℤ) → ranges_refusal metered loads imports generation area_parts contracts tranches ≡ 0 → InRanges metered loads imports generation area_parts contracts tranches
unfolding ranges_refusal
in-ranges metered loads imports generation area_parts contracts tranches e =
    let p1 = passed (between (pos 0) (pos 1) metered) 1 _ e in
    let p2 = passed (all (between (pos 0) (pos 20000000)) loads) 1 _ p1.1 in
    let p3 = passed (all (between (neg_ℤ (pos 20000000)) (pos 20000000)) imports) 1 _ p2.1 in
    let p4 = passed (all (between (pos 0) (pos 20000000)) generation) 1 _ p3.1 in
    let p5 = passed (all (between (pos 0) (pos 1000000)) area_parts) 1 _ p4.1 in
    let p6 = passed (all_to (λ j. between (pos 0) (pos 20000000) (kw contracts j)) (contract_count contracts)) 1 _ p5.1 in
    let p7 = passed (all (between (pos 0) (pos 10000)) tranches) 1 0 p6.1 in
    record { loads-in = p2.0; imports-in = p3.0; generation-in = p4.0; parts_in = p5.0; kw-in = p6.0; tranches-in = p7.0 }

-- areas 0 to m - 1
below-count : (m k : ℕ) → le_z (pos k) (pos m -ℤ pos 1) ≡ true → k < m
below-count zero k e = absurd (not-both (sym e))
below-count (suc m) k e = omega (arith, leb-true k (suc m - 1) (sym (ap (le_z (pos k)) (minus-natural (suc m) 1 (omega arith))) ∙ e))

pub record Identified (distributor areas : ℤ) (contracts : List ℤ) : Type 0 where
  pub distributed : identity distributor < 64
  pub supplied : (j : ℕ) → j < contract_count contracts → identity (supplier contracts j) < 64
  pub placed : (j : ℕ) → j < contract_count contracts → identity (area contracts j) < area_count areas

pub identified : (distributor areas : ℤ) (contracts : List ℤ) → areas ≡ pos (nat_abs areas) → identities_refusal distributor areas contracts ≡ 0 → Identified distributor areas contracts
unfolding identities_refusal
identified distributor areas contracts natural e =
    let p1 = passed (between (pos 0) (pos 63) distributor) 2 _ e in
    let p2 = passed (all_to (named areas contracts) (contract_count contracts)) 2 0 p1.1 in
    record {
      distributed = omega (arith, (between-natural distributor 63 p1.0).1);
      supplied = λ j h. let t = both j (all_to-at (named areas contracts) (contract_count contracts) p2.0 j h) in omega (arith, (between-natural (supplier contracts j) 63 t.0).1);
      placed = λ j h. let t = both j (all_to-at (named areas contracts) (contract_count contracts) p2.0 j h) in in-areas (area contracts j) t.1;
    }
  where
    both : (j : ℕ) → named areas contracts j ≡ true → (between (pos 0) (pos 63) (supplier contracts j) ≡ true) × (between (pos 0) (areas -ℤ pos 1) (area contracts j) ≡ true)
    both j t = and-true (between (pos 0) (pos 63) (supplier contracts j)) (between (pos 0) (areas -ℤ pos 1) (area contracts j)) t

    in-areas : (x : ℤ) → between (pos 0) (areas -ℤ pos 1) x ≡ true → nat_abs x < area_count areas
    in-areas (pos k) t = below-count (area_count areas) k (sym (ap (λ (z : ℤ). le_z (pos k) (z -ℤ pos 1)) natural) ∙ (and-true (le_z (pos 0) (pos k)) (le_z (pos k) (areas -ℤ pos 1)) t).1)
    in-areas (negsuc k) t = absurd (not-both (sym t))

pub whole : (n : ℕ) (areas : ℤ) (area_parts : List ℤ) → areas_refusal n areas area_parts ≡ 0 → (a : ℕ) → a < area_count areas → total (parts_of n area_parts a) ≡ 1000000
unfolding areas_refusal
whole n areas area_parts e a h =
    let p = passed (all_to (λ a. eqb (total (parts_of n area_parts a)) 1000000) (area_count areas)) 4 0 e in
    eqb-true (total (parts_of n area_parts a)) 1000000 (all_to-at (λ a. eqb (total (parts_of n area_parts a)) 1000000) (area_count areas) p.0 a h)

-- ---- numbers in range, at each place and past the end, where 0 stands

pub record Naturals (list : List ℤ) (k : ℕ) : Type 0 where
  pub natural : (i : ℕ) → list at i ≡ pos (nat_abs (list at i))
  pub most : (i : ℕ) → nat_abs (list at i) ≤ k

pub past : (list : List ℤ) (i k : ℕ) → (i < length list → ⊥) → (list at i ≡ pos (nat_abs (list at i))) × (nat_abs (list at i) ≤ k)
past list i k h =
    let none : list at i ≡ pos 0 = get_or-eq_default list (pos 0) (omega arith) in
    (none ∙ ap (λ (z : ℤ). pos (nat_abs z)) (sym none), omega (arith, ap nat_abs none))

pub naturals-of : {list : List ℤ} (k : ℕ) → all (between (pos 0) (pos k)) list ≡ true → Naturals list k
naturals-of {list} k e = record { natural = λ i. (here i (dec_lt i (length list))).0; most = λ i. (here i (dec_lt i (length list))).1 }
  where
    here : (i : ℕ) → Dec (i < length list) → (list at i ≡ pos (nat_abs (list at i))) × (nat_abs (list at i) ≤ k)
    here i (yes l) = between-natural (list at i) k (all-at (between (pos 0) (pos k)) (pos 0) list e i l)
    here i (no l) = past list i k l

naturals-stretch : {area_parts : List ℤ} {k : ℕ} (n a : ℕ) → Naturals area_parts k → Naturals (parts_of n area_parts a) k
naturals-stretch {area_parts} {k} n a s = record { natural = λ i. (here i (dec_lt i (length (parts_of n area_parts a)))).0; most = λ i. (here i (dec_lt i (length (parts_of n area_parts a)))).1 }
  where
    here : (i : ℕ) → Dec (i < length (parts_of n area_parts a)) → (parts_of n area_parts a at i ≡ pos (nat_abs (parts_of n area_parts a at i))) × (nat_abs (parts_of n area_parts a at i) ≤ k)
    here i (yes l) =
        let is : parts_of n area_parts a at i ≡ area_parts at (a * n + i) = get_or-take n (drop (a * n) area_parts) i (pos 0) (omega (arith, length-take n (drop (a * n) area_parts))) ∙ get_or-drop (a * n) area_parts i (pos 0) in
        (is ∙ s.natural (a * n + i) ∙ ap (λ (z : ℤ). pos (nat_abs z)) (sym is), omega (arith, ap nat_abs is, s.most (a * n + i)))
    here i (no l) = past (parts_of n area_parts a) i k l

shares-in : {list : List ℤ} {k : ℕ} → Naturals list k → length list ≤ 64 → k ≤ 4000000000 → Shares list
shares-in s few h = record { few = few; most = λ i. omega (arith, s.most i); natural = s.natural }

short-in : {list : List ℤ} → all (between (neg_ℤ (pos 20000000)) (pos 20000000)) list ≡ true → length list ≤ 64 → Short list
short-in {list} e few = record {
  few = few;
  each = range_at list 230584300921368 (λ i l. record { within = omega (arith, between-size (list at i) 20000000 (all-at (between (neg_ℤ (pos 20000000)) (pos 20000000)) (pos 0) list e i l)) });
}

pub ranged-of : (x : ℤ) → between (pos 0) (pos 20000000) x ≡ true → Ranged x
ranged-of x e = let r = between-natural x 20000000 e in record { natural = r.0; small = r.1 }

-- ---- what the functions ask for

module _ {metered : ℤ} {loads imports generation : List ℤ} {areas : ℤ} {area_parts contracts tranches : List ℤ} {n : ℕ}
    (c : Counted loads imports generation areas contracts) (m : Measured loads areas area_parts contracts tranches n) (r : InRanges metered loads imports generation area_parts contracts tranches) where
  pub metered-of : MetersGiven loads imports generation
  metered-of = record {
    some = c.some;
    tested = shares-in (naturals-of 20000000 r.loads-in) c.few (omega arith);
    imports-short = short-in r.imports-in c.imports-few;
    generation-short = short-of (shares-in (naturals-of 20000000 r.generation-in) c.generation-few (omega arith));
  }

  stretch-long : (a : ℕ) → a < area_count areas → a * length loads + length loads ≤ length area_parts
  stretch-long a h = omega (arith, room a (area_count areas) (length loads) h, m.parts-long)

  stretch-shares : (a : ℕ) → a < area_count areas → Shares (parts_of (length loads) area_parts a)
  stretch-shares a h = shares-in (naturals-stretch (length loads) a (naturals-of 1000000 r.parts_in)) (omega (arith, length-stretch (length loads) area_parts a (stretch-long a h), c.few)) (omega arith)

  pub areas-of : Areas (area_count areas) (length loads) area_parts
  areas-of = record { few = c.few; there = omega (arith, m.parts-long); each = stretch-shares }

  module _ {distributor : ℤ} (i : Identified distributor areas contracts) where
    pub auction-of : Auction (length loads) (identity distributor) tranches
    auction-of = record { buses = c.few; named = i.distributed; tested = shares-in (naturals-of 10000 r.tranches-in) (omega (arith, m.tranches-long)) (omega arith); all = m.tranches-long }

    pub contracts-of : ((a : ℕ) → a < area_count areas → total (parts_of (length loads) area_parts a) ≡ 1000000) → Contracts (length loads) area_parts contracts
    contracts-of w = record {
      few = c.contracts-few;
      buses = c.few;
      supplied = i.supplied;
      placed = λ j h. stretch-long (identity (area contracts j)) (i.placed j h);
      splits = λ j h.
          let a = identity (area contracts j) in
          splits_of (kw contracts j) (parts_of (length loads) area_parts a) (ranged-of (kw contracts j) (all_to-at (λ j. between (pos 0) (pos 20000000) (kw contracts j)) (contract_count contracts) r.kw-in j h))
          (stretch-shares a (i.placed j h)) (omega (arith, length-stretch (length loads) area_parts a (stretch-long a (i.placed j h)), c.some)) (omega (arith, w a (i.placed j h)));
      whole = λ j h. w (identity (area contracts j)) (i.placed j h);
    }

-- ---- all of 1 to 5

pub record Tested (d : LoadGiven) (n : ℕ) : Type 0 where
  pub counts-pass : Counted d.loads d.imports d.generation d.areas d.contracts
  pub lengths-pass : Measured d.loads d.areas d.area_parts d.contracts d.tranches n
  pub ranges-pass : InRanges d.metered d.loads d.imports d.generation d.area_parts d.contracts d.tranches
  pub meters-given : MetersGiven d.loads d.imports d.generation
  pub contracts-given : Contracts (buses d) d.area_parts d.contracts
  pub auction-given : Auction (buses d) (identity d.distributor) d.tranches

pub tested : (d : LoadGiven) (n : ℕ) → lists_refusal d n ≡ 0 → Tested d n
tested d n e =
    let p1 = then-none _ _ e in
    let p2 = then-none _ _ p1.1 in
    let p3 = then-none _ _ p2.1 in
    let p4 = then-none _ _ p3.1 in
    let c = counted d.loads d.imports d.generation d.areas d.contracts p1.0 in
    let m = measured d.loads d.areas d.area_parts d.contracts d.tranches n p2.0 in
    let r = in-ranges d.metered d.loads d.imports d.generation d.area_parts d.contracts d.tranches p3.0 in
    let i = identified d.distributor d.areas d.contracts c.areas-natural p4.0 in
    record {
      counts-pass = c;
      lengths-pass = m;
      ranges-pass = r;
      meters-given = metered-of c m r;
      contracts-given = contracts-of c m r i (whole (buses d) d.areas d.area_parts p4.1);
      auction-given = auction-of c m r i;
    }
