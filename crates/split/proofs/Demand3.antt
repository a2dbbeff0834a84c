-- Demand 3: an accepted split is fair. Assumes nothing.
use mathlib.Core.Path.{◌≡◌, sym, ap, ◌∙◌}
use mathlib.Core.Logic.{inl, inr, ⊎_elim}
use mathlib.Core.Bool.{Bool, true, false}
use mathlib.Core.List.{List}
use Prim.Native.Nat.{ℕ, ◌+◌, ◌<◌}
use native.Mathlib.Omega.{arith}
use lib.IntN.{ℤ, pos, nat_abs, ◌+ℤ◌, ◌*ℤ◌}
use lib.ListN.{length}
use lib.Signed.{quot_z}
use Rattle.ints.specs.Number.{below0, signed}
use Rattle.ints.specs.Sum.{sum_to, sum_nat, one}
use Rattle.ints.specs.Table.{◌at◌}
use Rattle.ints.proofs.Bools.{either}
use Rattle.ints.proofs.Counts.{sum_nat-most}
use Rattle.ints.proofs.Signs.{signed_is, size-signed, signed-zero, signed_add, signed-sum, signed_quotient}
use Rattle.ints.proofs.Sums.{sum_to-ext}
use Rattle.ints.proofs.Tables.{get_or-tab}
use Rattle.split.specs.Fair.{Fair, proportion, further}
use Rattle.split.specs.Split.{share, total, cut_down, remainder, before, has_unit, part, parts, split_refusal}
use Rattle.split.proofs.Accepted.{Accepted, accepted}
use Rattle.split.proofs.Laws.{length-parts, part-is, part-sum, zero-part, larger-part, unit-before, no_size}
use Rattle.split.proofs.Order.{says-before}

module _ (amount : ℤ) (shares : List ℤ) (n : ℕ) (accepts : split_refusal amount shares n ≡ 0) where
  abbrev b : Bool
  b = below0 amount

  abbrev size : ℕ
  size = nat_abs amount

  a : Accepted amount shares n
  a = accepted amount shares n accepts

  part_at : (i : ℕ) → i < length shares → parts amount shares at i ≡ signed b (part size shares i)
  unfolding parts
  part_at i l = get_or-tab (λ i. signed b (part size shares i)) (pos 0) (length shares) i l

  -- an amount of 0 has parts of 0
  no_part : size ≡ 0 → (i : ℕ) → part size shares i ≡ 0
  no_part z i = ap (λ (m : ℕ). part m shares i) z ∙ no_size shares i

  -- ---- a party's proportion, by its unit

  proportion-is : (i : ℕ) → proportion amount shares i ≡ signed b (cut_down size shares i)
  unfolding cut_down
  proportion-is i = ap (λ (z : ℤ). quot_z (amount *ℤ z) (pos (total shares))) (a.tested.natural i) ∙ signed_quotient amount (share shares i) (total shares)

  further-is : (i : ℕ) → further amount shares i ≡ signed b (cut_down size shares i + 1)
  further-is i = ap (λ (z : ℤ). z +ℤ signed b 1) (proportion-is i) ∙ sym (signed_add b (cut_down size shares i) 1)

  without-unit : (i : ℕ) → i < length shares → has_unit size shares i ≡ false → parts amount shares at i ≡ proportion amount shares i
  without-unit i l e = part_at i l ∙ ap (signed b) (omega (arith, part-is size shares i, ap one e)) ∙ sym (proportion-is i)

  with_unit : (i : ℕ) → i < length shares → has_unit size shares i ≡ true → parts amount shares at i ≡ further amount shares i
  with_unit i l e = part_at i l ∙ ap (signed b) (omega (arith, part-is size shares i, ap one e)) ∙ sym (further-is i)

  has-unit : (i : ℕ) → i < length shares → parts amount shares at i ≡ further amount shares i → has_unit size shares i ≡ true
  has-unit i l e =
      ⊎_elim
      (λ t. t)
      (λ f. absurd (differ (sym (size-signed b (cut_down size shares i)) ∙ ap nat_abs (sym (proportion-is i) ∙ sym (without-unit i l f) ∙ e ∙ further-is i) ∙ size-signed b (cut_down size shares i + 1))))
      (either (has_unit size shares i))
    where
      differ : {k : ℕ} → k ≡ k + 1 → ⊥
      differ q = omega arith

  -- a unit goes on to whoever comes before; without shares nobody has one
  unit-on : (i j : ℕ) → i < length shares → j < length shares → before (remainder size shares) i j ≡ true
      → parts amount shares at j ≡ further amount shares j → parts amount shares at i ≡ further amount shares i
  unit-on i j l m f e =
      with_unit i l
      (⊎_elim
      (λ t. unit-before size shares t i j l f (has-unit j m e))
      (λ z. absurd (none j (no_part z j) (has-unit j m e)))
      a.some)
    where
      none : (j : ℕ) → part size shares j ≡ 0 → has_unit size shares j ≡ true → ⊥
      none j z u = omega (arith, part-is size shares j, ap one u)

  -- ---- the sum

  sizes : sum_nat (part size shares) (length shares) ≡ size
  sizes =
      ⊎_elim
      (λ t. part-sum size shares t)
      (λ z. omega (arith, sum_nat-most (part size shares) 0 (length shares) (λ i _. omega (arith, no_part z i))))
      a.some

  sum_is : sum_to (λ i. parts amount shares at i) (length shares) ≡ amount
  sum_is =
      sum_to-ext (λ i. parts amount shares at i) (λ i. signed b (part size shares i)) (length shares) part_at
      ∙ signed-sum b (part size shares) (length shares) ∙ ap (signed b) sizes ∙ signed_is amount

  pub fair : Fair amount shares (parts amount shares)
  fair = record {
    one_each = length-parts amount shares;
    proportional = λ i l. ⊎_elim (λ t. inr (with_unit i l t)) (λ f. inl (without-unit i l f)) (either (has_unit size shares i));
    adds-up = sum_is;
    zero-share = λ i l e. part_at i l ∙ ap (signed b) (⊎_elim (λ t. zero-part size shares t i e) (λ z. no_part z i) a.some) ∙ signed-zero b;
    larger-share = λ i j l m h.
        omega (
          arith,
          ap nat_abs (part_at i l) ∙ size-signed b (part size shares i),
          ap nat_abs (part_at j m) ∙ size-signed b (part size shares j),
          ⊎_elim (λ t. larger-part size shares t i j l h) (λ z. omega (arith, no_part z i, no_part z j)) a.some,
        );
    larger-remainder = λ i j l m h. unit-on i j l m (says-before (remainder size shares) i j (inl h));
    earlier-party = λ i j h m e. unit-on i j (omega arith) m (says-before (remainder size shares) i j (inr (e, h)));
  }
