-- The hour's order over slices: eight bytes for each participant. Assumes nothing.
use mathlib.Core.Path.{◌≡◌, refl, ap, ap₂, ◌∙◌}
use mathlib.Core.Bool.{Bool, true, false, ◌&&◌}
use mathlib.Core.List.{List}
use Prim.Native.Nat.{ℕ, ◌*◌, ◌/◌, ◌%◌, ◌≤◌}
use native.Mathlib.Omega.{arith}
use lib.Dec.{eqb}
use borrow.Author.Tests.{le-leb, eq-eqb, eqb-true}
use Rattle.ints.specs.Refusal.{pick}
use Rattle.ints.specs.Table.{all}
use Rattle.ints.specs.Turn.{◌then◌}
use Rattle.ints.proofs.Bools.{same}
use Rattle.ints.proofs.Turns.{then-none}
use Rattle.exercise.specs.Order.{frame_refusal, settled_refusal, in_numbers, in_bytes, hour_refusal}
use Rattle.exercise.proofs.Order.{four, outputs-each}
use Rattle.exercise.proofs.Whole.{small, some-participant}
use Rattle.exercise.specs.File.{hour_of}
use Rattle.hour.specs.Order.{outputs_refusal}
use Rattle.hour_bytes.specs.Inside.{hourly}
use Rattle.numbers.specs.Inside.{listed}
use Rattle.numbers.proofs.Lists.{is_whole}

-- ---- a slice

-- the numbers that a slice can hold are as many as the participants where it has eight bytes for each
module _ (bytes n : ℕ) (some : 1 ≤ n) (few : n ≤ 64) where
  as_long : hourly bytes ≡ n → bytes ≡ 8 * n
  as_long = by (listed bytes 64) refl
    where
      by : (b : Bool) → listed bytes 64 ≡ b → pick b (bytes / 8) 0 ≡ n → bytes ≡ 8 * n
      by true e h = omega (arith, is_whole bytes 64 e)
      by false e h = absurd (omega (arith, h))

  pub holds : bytes ≡ 8 * n → hourly bytes ≡ n
  holds e =
      let w : bytes % 8 ≡ 0 = omega arith in
      let l : bytes / 8 ≡ n = omega arith in
      ap (λ (b : Bool). pick b (bytes / 8) 0) (ap₂ ◌&&◌ (eq-eqb (bytes % 8) 0 w) (le-leb (bytes / 8) 64 (omega arith))) ∙ l

  one-test : eqb (hourly bytes) n ≡ eqb bytes (8 * n)
  one-test = same _ _ (λ e. eq-eqb bytes (8 * n) (as_long (eqb-true (hourly bytes) n e))) (λ e. eq-eqb (hourly bytes) n (holds (eqb-true bytes (8 * n) e)))

-- ---- the order

module _ (file : List ℕ) (congestion loss credit net : ℕ) where
  abbrev count : ℕ
  count = (hour_of file).participants

  few : count ≤ 64
  few = (small file).participants

  same-outputs : outputs_refusal count (four (hourly congestion) (hourly loss) (hourly credit) (hourly net)) ≡ outputs_refusal (8 * count) (four congestion loss credit net)
  unfolding all
  same-outputs =
      let t : (bytes : ℕ) → eqb (hourly bytes) count ≡ eqb bytes (8 * count) = λ bytes. one-test bytes count (some-participant file) few in
      simp (t congestion, t loss, t credit, t net)

  same-refusal : hour_refusal in_numbers file (four (hourly congestion) (hourly loss) (hourly credit) (hourly net)) ≡ hour_refusal in_bytes file (four congestion loss credit net)
  unfolding hour_refusal
  same-refusal = ap (λ (lists : ℕ). frame_refusal file then lists then settled_refusal file) same-outputs

  pub settled-refusal : (a b c d : ℕ) → a ≡ hourly congestion → b ≡ hourly loss → c ≡ hourly credit → d ≡ hourly net → hour_refusal in_numbers file (four a b c d) ≡ hour_refusal in_bytes file (four congestion loss credit net)
  settled-refusal a b c d p q r s = ap₂ (λ (x y : ℕ). hour_refusal in_numbers file (four x y c d)) p q ∙ ap₂ (λ (x y : ℕ). hour_refusal in_numbers file (four (hourly congestion) (hourly loss) x y)) r s ∙ same-refusal

  -- an accepted call's slices: eight bytes for each participant
  pub bytes : hour_refusal in_bytes file (four congestion loss credit net) ≡ 0 → (congestion ≡ 8 * count) × (loss ≡ 8 * count) × (credit ≡ 8 * count) × (net ≡ 8 * count)
  unfolding hour_refusal
  bytes e = outputs-each (8 * count) congestion loss credit net (then-none (outputs_refusal (8 * count) (four congestion loss credit net)) (settled_refusal file) (then-none (frame_refusal file) _ e).1).0

  -- the numbers that they hold
  pub numbers-in : {n : ℕ} → n ≡ 8 * count → hourly n ≡ count
  numbers-in {n} e = holds n count (some-participant file) few e
