use mathlib.Core.Path.{ap, ap₂, ◌∙◌}
use mathlib.Core.List.{List}
use Prim.Native.Nat.{ℕ, ◌+◌, ◌*◌}
use native.Mathlib.Omega.{arith}
use lib.Seq.{sets}
use borrow.Author.Rules.{rules}
use Rattle.ints.specs.Table.{tab}
use Rattle.numbers.specs.Bytes.{number_at}
use Rattle.exercise_write.proofs.Stores.{price-lowest, run_none, run-next}
use Rattle.exercise.specs.Written.{bytes_high, run, price_bits}
use Rattle.exercise_write.proofs.put_prices.Goals as goal

pub loop-j-init : goal.loop-j-init
loop-j-init c = let a = c.args in
    (search rules, run_none 3 price_bits (number_at a.prices.now) a.out.now 5)

pub loop-j-preserved : goal.loop-j-preserved
loop-j-preserved c = let a = c.args in
    let j = c.loop-j.j in
    (omega arith, c.put_high.ensures ∙ ap₂ (λ (o : List ℕ) (v : ℕ). sets o (5 + 3 * j) (bytes_high 3 v)) c.loop-j.invariant.1 c.word_at.ensures ∙ ap (λ (bytes : List ℕ). sets (sets a.out.now 5 (run 3 price_bits (tab (number_at a.prices.now) j))) (5 + 3 * j) bytes) (price-lowest (number_at a.prices.now j) (c.requires.2.each j (search rules))) ∙ run-next 3 price_bits (number_at a.prices.now) a.out.now 5 j)
