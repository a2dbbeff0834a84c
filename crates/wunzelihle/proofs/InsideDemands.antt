-- What Demands needs: a slice after the answer, and what an accepted call's order says of the lists. Assumes nothing.
use mathlib.Core.Path.{◌≡◌, sym, ap, ◌∙◌, subst}
use mathlib.Core.Bool.{Bool}
use mathlib.Core.List.{List}
use Prim.Native.Nat.{ℕ, ◌/◌, ◌^◌}
use lib.Dec.{T, ltb}
use lib.IntN.{ℤ}
use lib.ListN.{length}
use Rattle.ints.specs.InsideRange.{InRange}
use Rattle.ints.specs.Refusal.{unless, lent}
use Rattle.ints.proofs.Refusals.{passed, lent-result, lent-before}
use Rattle.numbers.specs.Bytes.{numbers, encoded}
use Rattle.numbers.specs.Lists.{whole}
use Rattle.numbers.proofs.Laws.{read_back}
use Rattle.split.specs.Fair.{Fair}
use Rattle.split.specs.Split.{split_refusal}
use Rattle.load.specs.Order.{load_refusal}
use Rattle.wunzelihle.specs.Load.{load_bytes_given, load_bytes_refusal}
use Rattle.wunzelihle.specs.Split.{split_bytes_refusal}

-- ---- a slice lent for a list

module _ {answer order : ℕ} (result : List ℤ) (before : List ℕ) {after : List ℕ} (e : answer ≡ order) (f : after ≡ lent order (encoded result) before) where
  -- after a refused call
  pub unchanged : (answer ≡ 0 → ⊥) → after ≡ before
  unchanged some = f ∙ sym (lent-before order (encoded result) before (λ z. some (e ∙ z)))

  -- after an accepted one
  pub holds : answer ≡ 0 → {most : ℕ} → InRange result most → T (ltb most (2 ^ 63)) → numbers after ≡ result
  holds z r t = ap numbers (f ∙ lent-result order (encoded result) before (sym e ∙ z)) ∙ read_back r t

-- fair in other words
pub fair-of : {amount named : ℤ} {shares parts read : List ℤ} → Fair amount shares parts → named ≡ amount → read ≡ parts → Fair named shares read
fair-of {named = named} {shares = shares} {parts = parts} f e g = subst (Fair named shares) (sym g) (subst (λ (z : ℤ). Fair z shares parts) (sym e) f)

-- ---- slices that are accepted hold lists that are

-- a line of an order that gives nothing
past : (t : Bool) (later : ℕ) → unless t 1 later ≡ 0 → later ≡ 0
past t later e = (passed t 0 later e).1

pub split-accepts : (amount : ℤ) (shares : List ℕ) (bytes : ℕ) → split_bytes_refusal amount shares bytes ≡ 0 → split_refusal amount (numbers shares) (bytes / 8) ≡ 0
unfolding split_bytes_refusal
split-accepts amount shares bytes e = past (whole bytes) _ (past (whole (length shares)) _ e)

module _ (metered distributor : ℤ) (loads imports generation : List ℕ) (areas : ℤ) (area_parts contracts tranches : List ℕ) (bytes : ℕ) where
  pub load-accepts : load_bytes_refusal metered distributor loads imports generation areas area_parts contracts tranches bytes ≡ 0
      → load_refusal (load_bytes_given metered distributor loads imports generation areas area_parts contracts tranches) (bytes / 8) ≡ 0
  unfolding load_bytes_refusal
  load-accepts e =
      past (whole bytes) _
      (past (whole (length tranches)) _
      (past (whole (length contracts)) _
      (past (whole (length area_parts)) _
      (past (whole (length generation)) _
      (past (whole (length imports)) _
      (past (whole (length loads)) _ e))))))
