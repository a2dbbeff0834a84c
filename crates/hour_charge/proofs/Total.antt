-- What was added, row by row and transaction by transaction, is the tariff's charge. Assumes nothing.
use mathlib.Core.Path.{◌≡◌, ap, ap₂, ◌∙◌}
use mathlib.Core.List.{List, map, ◌++◌}
use Prim.Native.Nat.{ℕ, ◌<◌}
use lib.IntN.{ℤ, pos, ◌+ℤ◌, ◌*ℤ◌}
use Rattle.ints.specs.Each.{Every}
use Rattle.ints.specs.InsideEvery.{owed}
use Rattle.ints.specs.Sum.{Σℤ}
use Rattle.ints.proofs.Adding.{owed-ext}
use Rattle.ints.proofs.Gather.{Σ-ext-on}
use Rattle.ints.proofs.Turns.{then-none}
use Rattle.exercise.specs.File.{rows_in, transactions_in}
use Rattle.hour.specs.InsideTested.{Timed, RowTested, TransactionTested}
use Rattle.hour.specs.declared.Edition.{Edition}
use Rattle.hour.specs.declared.Row.{Row}
use Rattle.hour.specs.declared.Transaction.{Transaction}
use Rattle.exercise.proofs.Tested.{rows-tested, transactions-tested}
use Rattle.exercise.specs.declared.Header.{Header}
use Rattle.hour.specs.InsideParts.{sign, weight, listed_prices, weighed, weight_in, position_part, adds_to}
use Rattle.hour.specs.Hour.{withdraws, Prices, position_of, legs}
use Rattle.hour.specs.Charges.{charge}
use Rattle.exercise.specs.Layout.{edition_of}
use Rattle.hour.proofs.Legs.{adds-ext}
use Rattle.hour.proofs.Weighed.{weighed-is}
use Rattle.hour_totals.specs.Inside.{part_in}
use Rattle.hour_charge.specs.Inside.{BothAdded, ChargedIn}
use Rattle.hour.proofs.Theorems.{parts-charge}
use Rattle.exercise.specs.Inside.{rows_in_refusal, transactions_in_refusal, both_refusal}

module _ (h : Header) (rows transactions : List ℕ) (none : both_refusal h rows transactions ≡ 0) where
  accepted : (rows_in_refusal h.participants h.locations rows h.rows ≡ 0) × (transactions_in_refusal (edition_of h.edition) h.participants h.locations transactions h.transactions ≡ 0)
  accepted = then-none (rows_in_refusal h.participants h.locations rows h.rows) (transactions_in_refusal (edition_of h.edition) h.participants h.locations transactions h.transactions) none

  pub rows-passed : Every (RowTested h.participants h.locations) (rows_in rows h.rows)
  rows-passed = rows-tested h.participants h.locations rows h.rows accepted.0

  pub transactions-passed : Every (TransactionTested h.participants h.locations) (transactions_in (edition_of h.edition) transactions h.transactions)
  transactions-passed = transactions-tested (edition_of h.edition) h.participants h.locations transactions h.transactions accepted.1

module _ (h : Header) (list table : List ℤ) (e : table ≡ weighed h.locations list) where
  abbrev prices : Prices
  prices = listed_prices h.locations list

  -- by the table of the price list, what is added is the part
  weight_is : (market interval l : ℕ) → Timed market interval → l < h.locations → weight_in table h.locations market interval l ≡ weight prices market interval l
  weight_is market interval l t m = ap (λ (xs : List ℤ). weight_in xs h.locations market interval l) e ∙ weighed-is h.locations list market interval l t m

  part-is : (r : Row) → RowTested h.participants h.locations r → part_in table h.locations r ≡ position_part prices (position_of r)
  unfolding position_part
  part-is r t = ap (λ (w : ℤ). sign (withdraws r.kind) *ℤ pos r.kw.0 *ℤ w) (weight_is r.market r.interval r.location t.timed t.location)

  adds-is : (t : Transaction) → TransactionTested h.participants h.locations t → (p : ℕ)
      → adds_to (edition_of h.edition) (weight_in table h.locations) t p ≡ adds_to (edition_of h.edition) (weight prices) t p
  adds-is t q p =
      adds-ext (weight_in table h.locations) (weight prices) (edition_of h.edition) t
      (weight_is t.market t.interval t.sink q.timed q.sink) (weight_is t.market t.interval t.source q.timed q.source) p

  -- so they add up to the charge
  module _ (rows transactions : List ℕ) (none : both_refusal h rows transactions ≡ 0) where
    abbrev edition : Edition
    edition = edition_of h.edition

    pub sums-to : (p : ℕ) → owed (λ r. r.participant) (part_in table h.locations) (rows_in rows h.rows) p +ℤ Σℤ (λ t. adds_to edition (weight_in table h.locations) t p) (transactions_in edition transactions h.transactions)
        ≡ charge prices (map position_of (rows_in rows h.rows) ++ legs edition (transactions_in edition transactions h.transactions)) (transactions_in edition transactions h.transactions) p
    sums-to p =
        ap₂ ◌+ℤ◌
        (owed-ext (λ r. r.participant) (part_in table h.locations) (λ r. position_part prices (position_of r)) part-is (rows_in rows h.rows) (rows-passed h rows transactions none) p)
        (Σ-ext-on _ _ (λ t q. adds-is t q p) (transactions_in edition transactions h.transactions) (transactions-passed h rows transactions none))
        ∙ parts-charge h.participants edition prices (rows_in rows h.rows) (transactions_in edition transactions h.transactions) p
        (rows-passed h rows transactions none) (transactions-passed h rows transactions none)

    pub charged : {totals : List ℤ} → BothAdded h rows transactions table totals → ChargedIn h prices rows transactions totals
    charged added = record { each = λ p. added.each p ∙ sums-to p }
