use mathlib.Core.Path.{◌≡◌, refl, sym, ap, ap₂, ◌∙◌}
use mathlib.Core.List.{List}
use Prim.Native.Nat.{ℕ, ◌+◌, ◌*◌, ◌-◌, ◌/◌, ◌%◌, ◌≤◌, ◌<◌}
use native.Mathlib.Omega.{arith}
use lib.IntN.{ℤ, pos, nat_abs}
use lib.ListN.{length, take}
use mir.Syntax.{w64}
use mir.Val.{to_z, of_z}
use mir.Facts.{to_z-of_z, to_z_pos}
use borrow.Author.Rules.{rules, sfits_of}
use Rattle.ints.specs.Sum.{sum_nat}
use Rattle.ints.specs.Table.{◌at◌, tab}
use Rattle.ints.proofs.Counts.{sum_nat-zero, sum_nat-next}
use Rattle.ints.proofs.Tables.{place-start, place-next, place-done}
use Rattle.split.specs.Split.{share, total, cut_down, remainder, units_left}
use Rattle.split.proofs.Laws.{small, cut-front, total-most}
use Rattle.split_parts.specs.Inside.{key_of}
use Rattle.split_parts.proofs.Parts.{share-most, some, cut_small}
use Rattle.split_parts.proofs.divide.Goals as goal
use Rattle.split_parts.proofs.divide.Goals.{After-cut_down-arg-1, After-cut_down-cut, At-loop-i, Start}

abbrev shares : Start → List ℤ
shares s = s.args.parts.now

abbrev cut : Start → ℕ → ℕ
cut s = cut_down s.args.size (shares s)

abbrev key : Start → ℕ → ℕ
key s = key_of (remainder s.args.size (shares s))

not-zero : (s : Start) → 0 < total (shares s)
not-zero s = some s.args.size (shares s) s.args.total s.requires.0 s.requires.1

-- what is read at i is party i's share
module _ (c : After-cut_down-arg-1) where
  abbrev turn : At-loop-i
  turn = (goal.at.After-cut_down-arg-1 c).At-loop-i

  abbrev start : Start
  start = (goal.at.After-cut_down-arg-1 c).Start

  read_is : to_z w64 (of_z w64 (turn.loop-i.parts at turn.loop-i.i)) ≡ pos (share (shares start) turn.loop-i.i)
  read_is = to_z-of_z {w = w64} (sfits_of c.cut_down-arg-1.given) ∙ (turn.loop-i.invariant.1.rest turn.loop-i.i (omega arith) ∙ start.requires.0.tested.natural turn.loop-i.i)

  share-is : nat_abs (to_z w64 (of_z w64 (turn.loop-i.parts at turn.loop-i.i))) ≡ share (shares start) turn.loop-i.i
  share-is = ap nat_abs read_is

-- the quotient and the remainder are those of the definition, and small
module _ (c : After-cut_down-cut) where
  abbrev l : At-loop-i
  l = turn (goal.at.After-cut_down-cut c).After-cut_down-arg-1

  abbrev s : Start
  s = start (goal.at.After-cut_down-cut c).After-cut_down-arg-1

  cut-is : c.cut_down-cut.result.whole ≡ cut s l.loop-i.i
  unfolding cut_down
  cut-is = c.cut_down-cut.ensures.0 ∙ ap₂ (λ (x t : ℕ). s.args.size * x / t) (share-is (goal.at.After-cut_down-cut c).After-cut_down-arg-1) s.requires.0.is

  rest-is : c.cut_down-cut.result.rest ≡ remainder s.args.size (shares s) l.loop-i.i
  unfolding remainder
  rest-is = c.cut_down-cut.ensures.1 ∙ ap₂ (λ (x t : ℕ). s.args.size * x % t) (share-is (goal.at.After-cut_down-cut c).After-cut_down-arg-1) s.requires.0.is

  whole-small : c.cut_down-cut.result.whole ≤ 1000000000
  whole-small = omega (arith, cut-is, cut_small s.args.size (shares s) s.args.total s.requires.0 s.requires.1 l.loop-i.i (search rules))

  rest-small : c.cut_down-cut.result.rest < 256000000001
  rest-small = omega (arith, rest-is, small s.args.size (shares s) (not-zero s) l.loop-i.i, total-most (shares s) s.requires.0.tested)

pub loop-i-init : goal.loop-i-init
loop-i-init c = (omega (arith, sum_nat-zero (cut (goal.at.loop-i-init c).Start)), place-start (pos 0) _ (shares (goal.at.loop-i-init c).Start), place-start 0 (key (goal.at.loop-i-init c).Start) c.args.keys.now)

pub cut_down-cut-requires : goal.cut_down-cut-requires
cut_down-cut-requires c = let s = start c in
    let i = (turn c).loop-i.i in record {
      size_bound = (s.requires.0.small, omega (arith, share-is c, s.requires.0.tested.most i), omega (arith, share-is c, share-most s.args.size (shares (goal.at.cut_down-cut-requires c).Start) s.args.total s.requires.0 i (search rules)), s.requires.1);
      ratio_value = refl;
    }

pub overflow_mul-keys : goal.overflow_mul-keys
overflow_mul-keys c = record { fits = omega (arith, rest-small (goal.at.overflow_mul-keys c).After-cut_down-cut) }

pub overflow_add-keys : goal.overflow_add-keys
overflow_add-keys c = record { fits = omega (arith, rest-small (goal.at.overflow_add-keys c).After-cut_down-cut) }

pub overflow_sub-left : goal.overflow_sub-left
overflow_sub-left c = omega (arith, (l (goal.at.overflow_sub-left c).After-cut_down-cut).loop-i.invariant.0, cut-is (goal.at.overflow_sub-left c).After-cut_down-cut, sum_nat-next (cut (s (goal.at.overflow_sub-left c).After-cut_down-cut)) (l (goal.at.overflow_sub-left c).After-cut_down-cut).loop-i.i, cut-front (s (goal.at.overflow_sub-left c).After-cut_down-cut).args.size (shares (s (goal.at.overflow_sub-left c).After-cut_down-cut)) (not-zero (s (goal.at.overflow_sub-left c).After-cut_down-cut)) ((l (goal.at.overflow_sub-left c).After-cut_down-cut).loop-i.i + 1) (search rules))

pub loop-i-preserved : goal.loop-i-preserved
loop-i-preserved c = let i = (l (goal.at.loop-i-preserved c).After-cut_down-cut).loop-i.i in (
  omega (arith, (l (goal.at.loop-i-preserved c).After-cut_down-cut).loop-i.invariant.0, cut-is (goal.at.loop-i-preserved c).After-cut_down-cut, sum_nat-next (cut (s (goal.at.loop-i-preserved c).After-cut_down-cut)) i),
  place-next (pos 0) _ (shares (s (goal.at.loop-i-preserved c).After-cut_down-cut)) (l (goal.at.loop-i-preserved c).After-cut_down-cut).loop-i.parts _ i _ (l (goal.at.loop-i-preserved c).After-cut_down-cut).loop-i.invariant.1 (search rules) (to_z_pos w64 (omega (arith, whole-small (goal.at.loop-i-preserved c).After-cut_down-cut)) ∙ ap pos (cut-is (goal.at.loop-i-preserved c).After-cut_down-cut)) refl,
  place-next 0 (key (s (goal.at.loop-i-preserved c).After-cut_down-cut)) (s (goal.at.loop-i-preserved c).After-cut_down-cut).args.keys.now (l (goal.at.loop-i-preserved c).After-cut_down-cut).loop-i.keys _ i _ (l (goal.at.loop-i-preserved c).After-cut_down-cut).loop-i.invariant.2 (omega (arith, (s (goal.at.loop-i-preserved c).After-cut_down-cut).requires.2, (s (goal.at.loop-i-preserved c).After-cut_down-cut).requires.0.tested.few)) (ap (λ (r : ℕ). 64 * r + (64 - i)) (rest-is (goal.at.loop-i-preserved c).After-cut_down-cut)) refl,
)

pub returns : goal.returns
unfolding units_left
returns c = let n : c.loop-i.i ≡ length (shares (goal.at.returns c).Start) = omega arith in record {
  value = c.loop-i.invariant.0 ∙ ap (λ (k : ℕ). c.args.size - sum_nat (cut (goal.at.returns c).Start) k) n;
  parts_after = place-done (pos 0) _ (shares (goal.at.returns c).Start) c.loop-i.parts c.loop-i.i c.loop-i.invariant.1 (omega arith) (omega arith);
  keyed = record { made = sym (ap (λ (k : ℕ). take k c.loop-i.keys) n) ∙ c.loop-i.invariant.2.made ∙ ap (tab (key (goal.at.returns c).Start)) n; rest = λ j h. c.loop-i.invariant.2.rest j (omega arith) };
}
