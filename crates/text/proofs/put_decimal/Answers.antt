use mathlib.Core.Path.{◌≡◌, sym, ap, ap₂, ◌∙◌}
use mathlib.Core.Bool.{Bool}
use mathlib.Core.List.{◌++◌}
use Prim.Native.Nat.{ℕ, ◌+◌, ◌≤◌}
use native.Mathlib.Omega.{arith}
use lib.IntN.{nat_abs}
use lib.ListN.{length, length-append}
use mir.Facts.{to_z-of_z}
use Rattle.ints.specs.Number.{below0}
use Rattle.text.specs.Decimal.{digits, sign_text, decimal}
use Rattle.text.proofs.Laws as laws
use Rattle.text.proofs.put_decimal.Goals as goal
use Rattle.text.proofs.put_decimal.Goals.{After-negative, After-put_sign-start, After-size, Start}

-- the sign that is written, and the room that it leaves
module _ (c : After-negative) where
  abbrev s : Start
  s = (goal.at.After-negative c).Start

  sign-is : c.negative.result ≡ below0 s.args.z
  sign-is = c.negative.ensures ∙ ap below0 (to_z-of_z s.ranges.z)

  room : length (decimal s.args.z) ≡ length (sign_text c.negative.result) + length (digits (nat_abs s.args.z))
  room = length-append (sign_text (below0 s.args.z)) (digits (nat_abs s.args.z)) ∙ ap (λ (b : Bool). length (sign_text b) + length (digits (nat_abs s.args.z))) (sym sign-is)

  short : length (decimal s.args.z) ≤ 20
  short = laws.length-decimal s.args.z s.ranges.z

size_is : (c : After-size) → c.size.result ≡ nat_abs (s (goal.at.After-size c).After-negative).args.z
size_is c = c.size.ensures ∙ ap nat_abs (to_z-of_z (s (goal.at.After-size c).After-negative).ranges.z)

pub put_digits-requires : goal.put_digits-requires
put_digits-requires c = let w = c.put_sign-start.ensures in
    omega (arith, w.ends, laws.same_length w, ap (λ (n : ℕ). length (digits n)) (size_is c), room (goal.at.put_digits-requires c).After-negative, short (goal.at.put_digits-requires c).After-negative, (s (goal.at.put_digits-requires c).After-negative).requires)

pub returns : goal.returns
returns c = let b = (goal.at.returns c).After-put_sign-start in let w = laws.told (laws.more b.put_sign-start.ensures c.put_digits.ensures) (ap₂ (λ (b : Bool) (n : ℕ). sign_text b ++ digits n) (sign-is (goal.at.returns c).After-negative) (size_is (goal.at.returns c).After-size)) in record {
  written = w;
  upper_bound = omega (arith, w.ends, short (goal.at.returns c).After-negative);
}
