use mathlib.Core.Path.{◌≡◌, refl, sym, ap, ◌∙◌}
use Prim.Native.Nat.{ℕ, ◌*◌}
use native.Mathlib.Omega.{arith}
use lib.ListN.{length}
use Rattle.std.proofs.lemmas.Result.{err_from_is_err_and}
use Rattle.refusals.specs.Number.{answer}
use Rattle.refusals.proofs.Numbers.{number-not-zero}
use Rattle.exercise.specs.Layout.{transaction_size, edition_of}
use Rattle.exercise.specs.Lists.{lists_refusal}
use Rattle.exercise_write.proofs.Ready.{write-lists, lists-long, write-content, write-short, write-ready, write_done}
use Rattle.exercise_write.proofs.write_counted.Goals as goal
use Rattle.exercise_write.proofs.write_counted.Goals.{After-lists_refusal, After-transaction_size-size, Start}

abbrev start : After-lists_refusal → Start
start c = (goal.at.After-lists_refusal c).Start

told : (c : After-lists_refusal) → let h = (start c).args.header in let k = (start c).args.lists in
    answer c.lists_refusal.result ≡ lists_refusal h.locations h.rows h.transactions (edition_of h.edition) (length k.prices.now) (length k.rows.now) (length k.transactions.now)
told c = c.lists_refusal.ensures

abbrev listed : After-transaction_size-size → After-lists_refusal
listed c = (goal.at.After-transaction_size-size c).After-lists_refusal

sized : (c : After-transaction_size-size) → let h = (start (listed c)).args.header in c.transaction_size-size.result * h.transactions ≡ transaction_size (edition_of h.edition) * h.transactions
sized c = ap (λ (n : ℕ). n * (start (listed c)).args.header.transactions) (c.transaction_size-size.ensures.0 ∙ ap transaction_size c.edition_of-edition.ensures)

pub returns-in_err-lists_refusal : goal.returns-in_err-lists_refusal
returns-in_err-lists_refusal c = let l = (goal.at.returns-in_err-lists_refusal c).After-lists_refusal in
    let s = start l in let h = s.args.header in let k = s.args.lists in
    let p = err_from_is_err_and c.from_residual.result c.from_residual.ensures.1 in
    let made = write-lists h.participants h.locations h.rows h.transactions h.edition k.prices.now k.rows.now k.transactions.now s.requires s.args.file.now _ (number-not-zero _) (sym (ap answer c.in_err-lists_refusal.was) ∙ told l) in record { value = rw (p.1, p.2) made.0; file_after = made.1 }

pub content_refusal-requires : goal.content_refusal-requires
content_refusal-requires c = let l = (goal.at.content_refusal-requires c).After-lists_refusal in
    let s = start l in let h = s.args.header in let k = s.args.lists in
    let long = lists-long h.participants h.locations h.rows h.transactions h.edition k.prices.now k.rows.now k.transactions.now s.requires s.args.file.now _ (ap answer c.in_ok-lists_refusal.was) (told l) in
    (omega (arith, long.0), omega (arith, long.1), omega (arith, long.2))

pub returns-in_err-content_refusal : goal.returns-in_err-content_refusal
returns-in_err-content_refusal c = let l = (goal.at.returns-in_err-content_refusal c).After-lists_refusal in
    let s = start l in let h = s.args.header in let k = s.args.lists in
    let p = err_from_is_err_and c.from_residual-in_err-content_refusal.result c.from_residual-in_err-content_refusal.ensures.1 in
    let made = write-content h.participants h.locations h.rows h.transactions h.edition k.prices.now k.rows.now k.transactions.now s.requires s.args.file.now _ (ap answer c.in_ok-lists_refusal.was) (told l) _ (number-not-zero _) c.in_err-content_refusal.ensures in record { value = rw (p.1, p.2) made.0; file_after = made.1 }

pub returns-then-file-header : goal.returns-then-file-header
returns-then-file-header c = let l = (goal.at.returns-then-file-header c).After-lists_refusal in
    let s = start l in let h = s.args.header in let k = s.args.lists in
    let made = write-short h.participants h.locations h.rows h.transactions h.edition k.prices.now k.rows.now k.transactions.now s.requires s.args.file.now _ (ap answer c.in_ok-lists_refusal.was) (told l) 0 refl c.in_ok-content_refusal.ensures (omega (arith, c.if-file-header.true, sized (goal.at.returns-then-file-header c).After-transaction_size-size)) in record { value = made.0; file_after = made.1 }

pub put_file-requires : goal.put_file-requires
put_file-requires c = let l = (goal.at.put_file-requires c).After-lists_refusal in
    let s = start l in let h = s.args.header in let k = s.args.lists in
    write-ready h.participants h.locations h.rows h.transactions h.edition k.prices.now k.rows.now k.transactions.now s.requires s.args.file.now _ (ap answer c.in_ok-lists_refusal.was) (told l) 0 refl c.in_ok-content_refusal.ensures (omega (arith, c.if-file-header.false, sized (goal.at.put_file-requires c).After-transaction_size-size))

pub returns : goal.returns
returns c = let l = (goal.at.returns c).After-lists_refusal in
    let s = start l in let h = s.args.header in let k = s.args.lists in
    let made = write_done h.participants h.locations h.rows h.transactions h.edition k.prices.now k.rows.now k.transactions.now s.requires s.args.file.now _ (ap answer c.in_ok-lists_refusal.was) (told l) 0 refl c.in_ok-content_refusal.ensures (omega (arith, c.if-file-header.false, sized (goal.at.returns c).After-transaction_size-size)) _ c.put_file.ensures in record { value = made.0; file_after = made.1 }
