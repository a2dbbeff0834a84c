-- A transaction's parts, in the totals that they were added to. Assumes nothing.
use mathlib.Core.Path.{◌≡◌, sym, ap, ◌∙◌, subst}
use mathlib.Core.List.{List}
use Prim.Native.Nat.{ℕ, ◌+◌, ◌<◌}
use lib.Dec.{eqb}
use lib.IntN.{ℤ, ◌+ℤ◌, +ℤ_idr, +ℤ_assoc}
use lib.ListN.{length, length-set}
use Rattle.ints.specs.InsideRange.{Within, InRange}
use Rattle.ints.specs.Sum.{only}
use Rattle.ints.specs.Table.{◌at◌}
use Rattle.ints.proofs.Adding.{added, only-within}
use Rattle.ints.proofs.Sizes.{w-add}
use Rattle.hour.specs.declared.Edition.{Edition}
use Rattle.hour.specs.declared.Transaction.{Transaction}
use Rattle.hour.specs.InsideParts.{buyer_part, seller_part, adds_to}
use Rattle.hour.proofs.Legs.{only-nothing}
use Rattle.hour_totals.specs.Inside.{plus, transaction_added}

pub length-plus : (totals : List ℤ) (p : ℕ) (z : ℤ) → length (plus totals p z) ≡ length totals
length-plus totals p z = length-set totals p (totals at p +ℤ z)

-- totals within a bound, and an amount within another
pub plus-range : {totals : List ℤ} {k m : ℕ} (p : ℕ) {z : ℤ} → InRange totals k → p < length totals → Within z m → InRange (plus totals p z) (k + m)
plus-range {totals} {k} {m} p {z} r l w = record { each = λ i. subst (λ (y : ℤ). Within y (k + m)) (sym (added totals p z i l)) (w-add (r.each i) (only-within (eqb p i) w)) }

module _ (counts : ℕ → ℕ → ℕ → ℤ) (t : Transaction) (totals : List ℤ) where
  pub length-added : (edition : Edition) → length (transaction_added edition counts t totals) ≡ length totals
  unfolding transaction_added
  length-added Edition.PathOnly = length-plus totals t.participant (buyer_part Edition.PathOnly counts t)
  length-added Edition.WithSeller =
      length-plus (plus totals t.participant (buyer_part Edition.WithSeller counts t)) t.seller (seller_part Edition.WithSeller counts t)
      ∙ length-plus totals t.participant (buyer_part Edition.WithSeller counts t)

  -- every total grows by what the transaction adds to it
  module _ (b : t.participant < length totals) (s : t.seller < length totals) (p : ℕ) where
    pub added-at : (edition : Edition) → transaction_added edition counts t totals at p ≡ totals at p +ℤ adds_to edition counts t p
    unfolding transaction_added seller_part
    added-at Edition.PathOnly =
        let part = buyer_part Edition.PathOnly counts t in
        added totals t.participant part p b
        ∙ ap (λ (z : ℤ). totals at p +ℤ z) (sym (ap (λ (z : ℤ). only (eqb t.participant p) part +ℤ z) (only-nothing (eqb t.seller p)) ∙ +ℤ_idr (only (eqb t.participant p) part)))
    added-at Edition.WithSeller =
        let part = buyer_part Edition.WithSeller counts t in
        let own = seller_part Edition.WithSeller counts t in
        let first = plus totals t.participant part in
        let long : t.seller < length first = subst (λ (n : ℕ). t.seller < n) (sym (length-plus totals t.participant part)) s in
        added first t.seller own p long
        ∙ ap (λ (z : ℤ). z +ℤ only (eqb t.seller p) own) (added totals t.participant part p b)
        ∙ +ℤ_assoc (totals at p) (only (eqb t.participant p) part) (only (eqb t.seller p) own)
