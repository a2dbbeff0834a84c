use mathlib.Core.Path.{refl, sym, ap, ap₂, ◌∙◌, subst}
use mathlib.Core.List.{List}
use Prim.Native.Nat.{ℕ, ◌+◌, ◌*◌, ◌≤◌}
use native.Mathlib.Omega.{arith}
use lib.ListN.{length}
use lib.Seq.{sets}
use Rattle.ints.specs.Table.{tab}
use Rattle.numbers.specs.Bytes.{number_at}
use Rattle.hour.specs.declared.Edition.{Edition}
use Rattle.exercise.specs.declared.Item.{Item}
use Rattle.exercise.specs.Layout.{transaction_size}
use Rattle.exercise.specs.Lists.{transaction_length}
use Rattle.exercise.specs.Written.{packed, bytes_high, run, price_bits}
use Rattle.exercise_write.specs.Inside.{fields_given, FieldsFit}
use Rattle.exercise_write.proofs.Ready.{prices-fit, rows_fit, transactions-fit, put-stores}
use Rattle.exercise_write.proofs.put_file.Goals as goal
use Rattle.exercise_write.proofs.put_file.Goals.{After-edition_of-edition, After-put_high, After-put_packed, After-put_prices, Start}

-- from one store back to the one before it
abbrev start : After-put_high → Start
start c = (goal.at.After-put_high c).Start

abbrev priced : After-put_prices → After-put_high
priced c = (goal.at.After-put_prices c).After-put_high

abbrev rowed : After-put_packed → After-put_prices
rowed c = (goal.at.After-put_packed c).After-put_prices

pub put_prices-requires : goal.put_prices-requires
put_prices-requires c = let s = start (goal.at.put_prices-requires c).After-put_high in
    let a = s.args in let h = a.header in let k = a.lists in
    (omega (arith, s.requires.enough), omega (arith, s.requires.prices-long), prices-fit h.participants h.locations h.rows h.transactions h.edition k.prices.now k.rows.now k.transactions.now s.requires.fits)

pub put_packed-requires : goal.put_packed-requires
put_packed-requires c = let s = start (priced (goal.at.put_packed-requires c).After-put_prices) in
    let a = s.args in let h = a.header in let k = a.lists in
    (omega (arith, s.requires.enough), omega (arith, s.requires.rows_long), rows_fit h.participants h.locations h.rows h.transactions h.edition k.prices.now k.rows.now k.transactions.now s.requires.fits)

pub put_packed-requires-2 : goal.put_packed-requires-2
put_packed-requires-2 c = let s = start (priced (rowed (goal.at.put_packed-requires-2 c).After-put_packed)) in
    let a = s.args in let h = a.header in let k = a.lists in
    let same = sym c.edition_of-edition.ensures in
    let enough = subst (λ (e : Edition). 5 + 3 * (26 * h.locations) + 6 * h.rows + transaction_size e * h.transactions ≤ length a.out.now) same s.requires.enough in
    (omega (arith, enough), omega (arith, s.requires.transactions-long, ap (λ (e : Edition). transaction_length e * h.transactions) same), subst (λ (e : Edition). FieldsFit (Item.Transaction e) k.transactions.now h.transactions) same (transactions-fit h.participants h.locations h.rows h.transactions h.edition k.prices.now k.rows.now k.transactions.now s.requires.fits))

pub returns : goal.returns
returns c = let o = (goal.at.returns c).After-edition_of-edition in let q = rowed (goal.at.returns c).After-put_packed in
    let first = priced (goal.at.returns c).After-put_prices in
    let s = start first in
    let a = s.args in let h = a.header in let k = a.lists in
    let rows_at = 5 + 3 * (26 * h.locations) in
    c.put_packed-2.ensures ∙ ap₂ (λ (o : List ℕ) (e : Edition). sets o (rows_at + 6 * h.rows) (run (transaction_size e) packed (tab (fields_given (Item.Transaction e) k.transactions.now) h.transactions))) (c.put_packed.ensures ∙ ap (λ (o : List ℕ). sets o rows_at (run 6 packed (tab (fields_given Item.Row k.rows.now) h.rows))) (q.put_prices.ensures ∙ ap (λ (o : List ℕ). sets o 5 (run 3 price_bits (tab (number_at k.prices.now) (26 * h.locations)))) (first.put_high.ensures ∙ ap (λ (v : ℕ). sets a.out.now 0 (bytes_high 5 v)) first.header_bits.ensures))) o.edition_of-edition.ensures ∙ put-stores h.participants h.locations h.rows h.transactions h.edition k.prices.now k.rows.now k.transactions.now s.requires.header.known-edition a.out.now rows_at (rows_at + 6 * h.rows) refl refl
