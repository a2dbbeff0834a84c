use mathlib.Core.Path.{sym, ap, ◌∙◌}
use Prim.Native.Nat.{ℕ}
use native.Mathlib.Numerals.{add-one}
use lib.ListN.{take}
use lib.Seq.{take-suc}
use borrow.Author.Rules.{rules}
use Rattle.text.proofs.Laws as laws
use Rattle.text.proofs.put_bytes.Goals as goal

pub loop-byte-preserved : goal.loop-byte-preserved
loop-byte-preserved c = let bytes = c.args.bytes.now in
    laws.told (laws.more c.loop-byte.invariant c.put_byte-end.ensures) (sym (take-suc bytes c.loop-byte.byte-index 0 (search rules)) ∙ ap (λ (k : ℕ). take k bytes) (sym (add-one c.loop-byte.byte-index)))
