-- Rows, then transactions, added to totals that were 0. Assumes nothing.
use mathlib.Core.Path.{◌≡◌, sym, ap, ◌∙◌}
use mathlib.Core.List.{List}
use Prim.Native.Nat.{ℕ}
use native.Mathlib.Omega.{arith}
use lib.IntN.{ℤ, pos, negsuc, ◌+ℤ◌, +ℤ_idl}
use lib.ListN.{length}
use Rattle.ints.specs.InsideEvery.{owed, Added}
use Rattle.ints.specs.InsideRange.{Within, InRange}
use Rattle.ints.specs.Sum.{Σℤ}
use Rattle.ints.specs.Table.{◌at◌, tab}
use Rattle.ints.proofs.Tables.{tab-ext, tab-self}
use Rattle.exercise.specs.File.{rows_in, transactions_in}
use Rattle.exercise.specs.Layout.{edition_of}
use Rattle.exercise.specs.declared.Header.{Header}
use Rattle.hour.specs.InsideParts.{weight_in, adds_to}
use Rattle.hour_charge.specs.Inside.{RowsAdded, SharesAdded, TransactionsAdded, BothAdded}
use Rattle.hour.specs.InsideTotals.{Shared}

none : (z : ℤ) → Within z 0 → z ≡ pos 0
none (pos n) w = ap pos (omega (arith, w.within))
none (negsuc n) w = absurd (omega (arith, w.within))

-- cleared, totals that were 0 are as they were
pub as-they-were : {before after : List ℤ} {n : ℕ} → InRange before 0 → n ≡ length before → after ≡ tab (λ _. pos 0) n → after ≡ before
as-they-were {before} t l e = e ∙ ap (tab (λ _. pos 0)) l ∙ tab-ext _ _ (length before) (λ p _. sym (none (before at p) (t.each p))) ∙ sym (tab-self (pos 0) before)

-- what is added to nothing
from_nothing : {A : Type 0} {adds : A → ℕ → ℤ} {xs : List A} {before after : List ℤ} → InRange before 0 → Added adds xs before after → (p : ℕ) → after at p ≡ Σℤ (λ x. adds x p) xs
from_nothing {adds = adds} {xs = xs} {before = before} t a p =
    a.each p ∙ ap (λ (z : ℤ). z +ℤ Σℤ (λ x. adds x p) xs) (none (before at p) (t.each p)) ∙ +ℤ_idl (Σℤ (λ x. adds x p) xs)

pub shared : (rows : List ℕ) (n : ℕ) {before after : List ℤ} → InRange before 0 → SharesAdded (rows_in rows n) before after → Shared (rows_in rows n) after
unfolding owed
shared rows n t a = record { each = from_nothing t a }

pub both-added : (h : Header) (rows transactions : List ℕ) (table : List ℤ) {before middle after : List ℤ} → InRange before 0
    → RowsAdded (rows_in rows h.rows) h.locations table before middle
    → TransactionsAdded (edition_of h.edition) (transactions_in (edition_of h.edition) transactions h.transactions) h.locations table middle after
    → BothAdded h rows transactions table after
unfolding owed
both-added h rows transactions table t a b = record {
  each = λ p.
      b.each p
      ∙ ap (λ (z : ℤ). z +ℤ Σℤ (λ t. adds_to (edition_of h.edition) (weight_in table h.locations) t p) (transactions_in (edition_of h.edition) transactions h.transactions)) (from_nothing t a p);
}
