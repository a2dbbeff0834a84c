use mathlib.Core.Path.{sym, ap, subst}
use Prim.Native.Nat.{ℕ, ◌/◌, ◌<◌}
use native.Mathlib.Omega.{arith}
use lib.ListN.{length}
use Rattle.text.proofs.Laws as laws
use Rattle.text.proofs.+put_digits.Goals as goal

pub put_digit-requires : goal.put_digit-requires
put_digit-requires t c =
    let small = c.if-n-lt10.true in
    (small, omega (arith, ap length (laws.one-digit c.args.n small), c.requires))

pub returns-then-n-lt10 : goal.returns-then-n-lt10
returns-then-n-lt10 t c = laws.told c.put_digit.ensures (sym (laws.one-digit c.args.n c.if-n-lt10.true))

pub put_digits-end-requires : goal.put_digits-end-requires
put_digits-end-requires t c =
    let large = c.if-n-lt10.false in
    (subst (λ (k : ℕ). c.args.n / 10 < k) c.decreases (omega arith), omega (arith, laws.fewer c.args.n c.ranges.n large, c.requires))

pub put_digit-requires-2 : goal.put_digit-requires-2
put_digit-requires-2 t c =
    let w = c.put_digits-end.ensures in
    (omega arith, omega (arith, w.ends, laws.same_length w, laws.fewer c.args.n c.ranges.n c.if-n-lt10.false, c.requires))

pub returns : goal.returns
returns t c = laws.told (laws.more c.put_digits-end.ensures c.put_digit-2.ensures) (sym (laws.last-digit c.args.n c.ranges.n.fits c.if-n-lt10.false))
