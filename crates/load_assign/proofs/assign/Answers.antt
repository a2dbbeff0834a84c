use mathlib.Core.Path.{◌≡◌, refl, sym, ap, ◌∙◌, subst}
use mathlib.Core.List.{List}
use Prim.Native.Nat.{ℕ, ◌≤◌, ◌<◌}
use native.Mathlib.Omega.{arith}
use lib.IntN.{ℤ, pos, ◌+ℤ◌, ◌-ℤ◌}
use lib.ListN.{length, replicate}
use lib.Seq.{length-take-le}
use Rattle.std.specs.Prelude.{Result, Err, ⊤}
use Rattle.std.proofs.lemmas.Result.{err_from_is_err_and}
use Rattle.ints.specs.Table.{◌at◌}
use Rattle.ints.specs.Turn.{◌then◌}
use Rattle.ints.proofs.Refusals.{kept, done}
use Rattle.ints.proofs.Turns.{then-later, then-earlier}
use Rattle.refusals.specs.Number.{number, answer}
use Rattle.refusals.specs.declared.Refusal.{Refusal}
use Rattle.refusals.proofs.Numbers.{number-not-zero}
use Rattle.load.specs.Inside.{Ranged}
use Rattle.load.specs.Load.{identity, LoadGiven, buses, contract_load, contracted, auctioned, bus_loads, bus_load, assignment}
use Rattle.load.specs.Given.{given_of}
use Rattle.load.specs.Order.{meters_refusal, contracts_refusal, lists_refusal, load_refusal}
use Rattle.load.proofs.Accepted.{Tested, tested, naturals-of}
use Rattle.load.proofs.Assigned.{length-bus-loads, bus-load-ranged, cover-ext, assignment-is}
use Rattle.load.proofs.Tables.{added-zeros, cleared}
use Rattle.load_assign.proofs.assign.Goals as goal
use Rattle.load_assign.proofs.assign.Goals.{In_ok-bus_loads, Start}

abbrev d : Start → LoadGiven
d s = given_of s.args.given

-- the groups of the order
abbrev g2 : LoadGiven → ℕ
g2 d = meters_refusal d.metered d.loads d.imports d.generation

abbrev g3 : LoadGiven → ℕ
g3 d = contracts_refusal (buses d) d.area_parts d.contracts (bus_load d)

groups : (d : LoadGiven) (n : ℕ) → load_refusal d n ≡ (lists_refusal d n then g2 d then g3 d)
unfolding load_refusal
groups d n = refl

-- an error's number is not 0
not-zero : (r : Result ⊤ Refusal) (e : Refusal) → r ≡ Err e → answer r ≡ 0 → ⊥
not-zero r e is z = number-not-zero e (sym (ap answer is) ∙ z)

-- ---- 1 to 5 have passed
module _ (s : Start) (passed : lists_refusal (d s) (length s.args.out.now) ≡ 0) where
  facts : Tested (d s) (length s.args.out.now)
  facts = tested (d s) (length s.args.out.now) passed

  after1 : load_refusal (d s) (length s.args.out.now) ≡ (g2 (d s) then g3 (d s))
  after1 = groups (d s) (length s.args.out.now) ∙ then-later _ _ passed

  few : length s.args.given.loads.now ≤ 64
  few = facts.counts-pass.few

-- ---- so have 6 and 7
module _ (b : In_ok-bus_loads) where
  abbrev s1 : Start
  s1 = (goal.at.In_ok-bus_loads b).Start

  abbrev served : List ℤ
  served = b.bus_loads.new.served

  accepted : g2 (d s1) ≡ 0
  accepted = sym b.in_ok-bus_loads.ensures.value

  after2 : lists_refusal (d s1) (length s1.args.out.now) ≡ 0 → load_refusal (d s1) (length s1.args.out.now) ≡ g3 (d s1)
  after2 passed = after1 s1 passed ∙ then-later _ _ accepted

  served-is : served ≡ bus_loads (d s1).metered (d s1).loads (d s1).imports (d s1).generation
  served-is = b.in_ok-bus_loads.ensures.served_after

  served-at : (k : ℕ) → k < buses (d s1) → served at k ≡ bus_load (d s1) k
  served-at k _ = ap (λ (list : List ℤ). list at k) served-is

  long : length served ≡ buses (d s1)
  long = ap length served-is ∙ length-bus-loads (d s1).metered (d s1).loads (d s1).imports (d s1).generation

  cover-is : contracts_refusal (buses (d s1)) (d s1).area_parts (d s1).contracts (λ k. served at k) ≡ g3 (d s1)
  cover-is = cover-ext (buses (d s1)) (d s1).area_parts (d s1).contracts _ (bus_load (d s1)) served-at

pub returns-in_err-lists_refusal : goal.returns-in_err-lists_refusal
returns-in_err-lists_refusal c =
    let p = err_from_is_err_and c.from_residual.result c.from_residual.ensures.1 in
    let g = d (goal.at.returns-in_err-lists_refusal c).Start in
    let some = not-zero c.from_residual.result p.0 p.1 in
    let first : answer c.from_residual.result ≡ lists_refusal g (length c.args.out.now) = ap answer p.1 ∙ ap number p.2 ∙ c.in_err-lists_refusal.ensures in
    let made = kept (load_refusal g (length c.args.out.now)) (assignment g) c.args.out.now (answer c.from_residual.result) some (first ∙ sym (groups g (length c.args.out.now) ∙ then-earlier _ _ (λ z. some (first ∙ z)))) in record { value = made.0; out_after = made.1 }

pub slice_bounds-served-end : goal.slice_bounds-served-end
slice_bounds-served-end c = few (goal.at.slice_bounds-served-end c).Start (sym c.in_ok-lists_refusal.ensures)

pub slice_bounds-loads-end : goal.slice_bounds-loads-end
slice_bounds-loads-end c = sym (length-take-le (length c.args.given.loads.now) _ (few (goal.at.slice_bounds-loads-end c).Start (sym c.in_ok-lists_refusal.ensures)))

pub bus_loads-requires : goal.bus_loads-requires
bus_loads-requires c = let s = (goal.at.bus_loads-requires c).Start in
    let f = facts s (sym c.in_ok-lists_refusal.ensures) in (f.meters-given, length-take-le (length c.args.given.loads.now) _ f.counts-pass.few)

pub returns-in_err-bus_loads : goal.returns-in_err-bus_loads
returns-in_err-bus_loads c =
    let q = c.from_residual-in_err-bus_loads in
    let p = err_from_is_err_and q.result q.ensures.1 in
    let s = (goal.at.returns-in_err-bus_loads c).Start in
    let g = d s in
    let some = not-zero q.result p.0 p.1 in
    let first : answer q.result ≡ g2 g = ap answer p.1 ∙ ap number p.2 ∙ c.in_err-bus_loads.ensures.value in
    let made = kept (load_refusal g (length c.args.out.now)) (assignment g) c.args.out.now (answer q.result) some (first ∙ sym (after1 s (sym c.in_ok-lists_refusal.ensures) ∙ then-earlier _ _ (λ z. some (first ∙ z)))) in record { value = made.0; out_after = made.1 }

pub hand_out-requires : goal.hand_out-requires
hand_out-requires c =
    let b = (goal.at.hand_out-requires c).In_ok-bus_loads in
    let f = facts (s1 b) (sym c.in_ok-lists_refusal.ensures) in
    let g = d (s1 b) in
    record {
      contracts = (f.contracts-given, f.auction-given);
      loads = (
        record {
          there = omega (arith, long b);
          each = λ k l. subst Ranged (sym (served-at b k l)) (bus-load-ranged g.metered g.loads g.imports g.generation f.meters-given (accepted b) (naturals-of 20000000 f.ranges-pass.loads-in) k l);
        },
        long b,
        c.requires ∙ ap (λ (n : ℕ). replicate n (pos 0)) f.lengths-pass.result-long,
      );
    }

pub returns-in-Err : goal.returns-in-Err
returns-in-Err c =
    let b = (goal.at.returns-in-Err c).In_ok-bus_loads in
    let g = d (s1 b) in
    let r = kept (load_refusal g (length c.args.out.now)) (assignment g) c.args.out.now (number c.in-Err.refusal) (number-not-zero c.in-Err.refusal) (c.in-Err.ensures.value ∙ (cover-is b ∙ sym (after2 b (sym c.in_ok-lists_refusal.ensures)))) in
    record {
      value = r.0;
      out_after = c.clear.ensures ∙ cleared _ ∙ ap (λ (n : ℕ). replicate n (pos 0)) c.hand_out.auto.table ∙ sym c.requires ∙ r.1;
    }

pub returns : goal.returns
returns c =
    let b = (goal.at.returns c).In_ok-bus_loads in
    let g = d (s1 b) in
    let passed : lists_refusal g (length c.args.out.now) ≡ 0 = sym c.in_ok-lists_refusal.ensures in
    let f = facts (s1 b) passed in
    let table = c.hand_out.new.table in
    let added = c.in_default.ensures.added_cells refl in
    let result : table ≡ assignment g = assignment-is g table f.counts-pass.some (added.same ∙ f.lengths-pass.result-long)
    (λ p k u l. added-zeros (length c.args.out.now) c.requires added p k u l
    ∙ ap (λ (z : ℤ). contract_load (buses g) g.area_parts g.contracts p k +ℤ auctioned (identity g.distributor) g.tranches (z -ℤ contracted (buses g) g.area_parts g.contracts k) p) (served-at b k l)) in
    let made = done (load_refusal g (length c.args.out.now)) (assignment g) c.args.out.now table (c.in_default.ensures.value ∙ (cover-is b ∙ sym (after2 b passed))) result in record { value = made.0; out_after = made.1 }
