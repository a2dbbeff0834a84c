-- From the order for an hour and its lists to the statement. Assumes nothing.
use mathlib.Core.Path.{◌≡◌, refl, sym, ap, ap₂, ◌∙◌, subst}
use mathlib.Core.Bool.{Bool}
use mathlib.Core.List.{List, ◌++◌}
use Prim.Native.Nat.{ℕ, ◌≤◌}
use native.Mathlib.Omega.{arith}
use lib.IntN.{ℤ}
use lib.ListN.{length, drop, length-append}
use borrow.Author.Tests.{eq-eqb, ne_eqb}
use Rattle.ints.specs.InsideRange.{InRange, Short}
use Rattle.ints.specs.Refusal.{pick}
use Rattle.ints.proofs.Ranges.{range-up}
use Rattle.exercise.specs.File.{hour_of}
use Rattle.exercise.specs.Order.{frame_refusal, in_numbers, hour_refusal}
use Rattle.exercise.proofs.Accepted.{settled-sound, settled-accepts}
use Rattle.hour.specs.InsideTotals.{most_net}
use Rattle.hour.specs.Hour.{Hour}
use Rattle.hour.specs.InsideTested.{Sound}
use Rattle.hour.specs.Charges.{congestion_charges_of, loss_charges_of}
use Rattle.hour.specs.Surplus.{credits, nets}
use Rattle.hour_settle.specs.Inside.{Outputs}
use Rattle.exercise.proofs.Order.{four, ends-early, goes_on}
use Rattle.hour.proofs.Theorems.{congestions-length, losses-length, credits-length, nets-length, congestion-cents, loss-cents, credit-cents, net-cents}
use Rattle.statement.specs.Inside.{Printable}
use Rattle.statement.specs.Statement.{lines, refused_line, statement_refusal, statement_of}

module _ (file : List ℕ) where
  abbrev hour : Hour
  hour = hour_of file

  abbrev whole : List ℕ
  whole = lines hour.participants (congestion_charges_of hour) (loss_charges_of hour) (credits hour) (nets hour)

  -- ---- a refused file

  pub refuses : (r : ℕ) → (r ≡ 0 → ⊥) → r ≡ statement_refusal file → refused_line r ≡ statement_of file
  unfolding statement_of
  refuses r some e = ap refused_line e ∙ sym (ap (λ (b : Bool). pick b whole (refused_line (statement_refusal file))) (ne_eqb (statement_refusal file) 0 (λ z. some (e ∙ z))))

  pub refused-early : (r : ℕ) → (r ≡ 0 → ⊥) → r ≡ frame_refusal file → refused_line r ≡ statement_of file
  refused-early r some e = refuses r some (ends-early in_numbers file _ _ _ _ r some e)

  -- ---- one that is whole

  module _ (passes : frame_refusal file ≡ 0) {congestion loss credit net : List ℤ} (long : Outputs hour.participants congestion loss credit net) (r : ℕ) (answer : r ≡ hour_refusal in_numbers file (four (length congestion) (length loss) (length credit) (length net))) where
    answer-is : r ≡ statement_refusal file
    answer-is =
        answer
        ∙ sym (goes_on in_numbers file _ _ _ _ passes long.congestion-each long.loss-each long.credit-each long.net-each)
        ∙ goes_on in_numbers file _ _ _ _ passes refl refl refl refl

    pub refused-late : (r ≡ 0 → ⊥) → refused_line r ≡ statement_of file
    refused-late some = refuses r some answer-is

    module _ (none : r ≡ 0) where
      -- the lists as the hour leaves them
      module _ {a b c d : List ℤ} (e : a ≡ congestion_charges_of hour) (f : b ≡ loss_charges_of hour) (g : c ≡ credits hour) (h : d ≡ nets hour) where
        accepts : hour_refusal in_numbers file (four (length congestion) (length loss) (length credit) (length net)) ≡ 0
        accepts = sym answer ∙ none

        sound : Sound hour
        sound = settled-sound in_numbers file _ accepts

        count : length a ≡ hour.participants
        count = ap length e ∙ congestions-length hour sound

        short : {x l : List ℤ} → x ≡ l → length l ≡ hour.participants → InRange l most_net → Short x
        short k n w = record { few = omega (arith, ap length k ∙ n, sound.few); each = subst (λ (l : List ℤ). InRange l most_net) (sym k) w }

        pub lists_of : {page : ℕ} → 6825 ≤ page → Printable page a b c d
        lists_of room = record {
          loss-each = ap length f ∙ losses-length hour sound ∙ sym count;
          credit-each = ap length g ∙ credits-length hour sound (settled-accepts in_numbers file _ accepts) ∙ sym count;
          net-each = ap length h ∙ nets-length hour sound ∙ sym count;
          congestion-short = short e (congestions-length hour sound) (range-up (congestion-cents hour sound) (omega arith));
          loss-short = short f (losses-length hour sound) (range-up (loss-cents hour sound) (omega arith));
          credit-short = short g (credits-length hour sound (settled-accepts in_numbers file _ accepts)) (range-up (credit-cents hour sound (settled-accepts in_numbers file _ accepts)) (omega arith));
          net-short = short h (nets-length hour sound) (net-cents hour sound (settled-accepts in_numbers file _ accepts));
          room = room;
        }

        pub lines_are : lines (length a) a b c d ≡ statement_of file
        unfolding statement_of
        lines_are =
            ap (λ (n : ℕ). lines n a b c d) count
            ∙ ap₂ (λ (x y : List ℤ). lines hour.participants x y c d) e f
            ∙ ap₂ (lines hour.participants (congestion_charges_of hour) (loss_charges_of hour)) g h
            ∙ sym (ap (λ (b : Bool). pick b whole (refused_line (statement_refusal file))) (eq-eqb (statement_refusal file) 0 (sym answer-is ∙ none)))

-- the page holds the statement
pub holds : (file page : List ℕ) {after : List ℕ} {r : ℕ} → r ≡ length (statement_of file) → after ≡ statement_of file ++ drop (length (statement_of file)) page → r ≤ length after
holds file page e f = omega (arith, e, ap length f, length-append (statement_of file) (drop (length (statement_of file)) page))
