-- Writing one thing after the other, and how long a number is as text. Assumes nothing.
use mathlib.Core.Path.{◌≡◌, refl, sym, ap, ap₂, ◌∙◌, subst}
use mathlib.Core.Bool.{Bool, true, false}
use mathlib.Core.List.{List, [], ◌∷◌, ◌++◌}
use Prim.Native.Nat.{ℕ, zero, suc, ◌+◌, ◌-◌, ◌*◌, ◌/◌, ◌%◌, ◌^◌, ◌≤◌, ◌<◌}
use native.Mathlib.Decide.{dec_lt}
use native.Mathlib.Nat.{zero-add, add-zero}
use native.Mathlib.Omega.{arith}
use lib.Dec.{ltb}
use lib.IntN.{ℤ, nat_abs}
use lib.ListN.{length, drop, length-append}
use lib.Seq.{sets, length-sets, sets-eq}
use lib.Signed.{nat_abs-le}
use mir.Syntax.{w64}
use mir.Val.{Fits, SFits}
use borrow.Author.Tests.{lt-ltb, le-ltb}
use Rattle.ints.specs.Number.{below0}
use Rattle.ints.specs.Refusal.{pick}
use Rattle.ints.proofs.Stores.{sets_more}
use Rattle.text.specs.Decimal.{digit, digits_in, digits, sign_text, decimal}
use Rattle.text.specs.Inside.{Written}

-- ---- one thing after the other

pub nothing : (text : List ℕ) (at : ℕ) → Written text at [] text at
nothing text at = record { text = refl; ends = sym (add-zero at) }

module _ {before after : List ℕ} {at end : ℕ} {bytes : List ℕ} (w : Written before at bytes after end) where
  pub more : {last : List ℕ} {n : ℕ} {others : List ℕ} → Written after end others last n → Written before at (bytes ++ others) last n
  more {others = others} v = record {
    text = v.text ∙ ap₂ (λ (l : List ℕ) (k : ℕ). sets l k others) w.text w.ends ∙ sets_more before at bytes others;
    ends = omega (arith, v.ends, w.ends, length-append bytes others);
  }

  -- the same bytes, told otherwise
  pub told : {others : List ℕ} → bytes ≡ others → Written before at others after end
  told e = subst (λ (b : List ℕ). Written before at b after end) e w

  -- the text is as long as before
  pub same_length : length after ≡ length before
  same_length = ap length w.text ∙ length-sets before at bytes

-- from the text's start
pub front : {before after : List ℕ} {end : ℕ} {bytes : List ℕ} → Written before 0 bytes after end → length bytes ≤ length before → (after ≡ bytes ++ drop (length bytes) before) × (end ≡ length bytes)
front {before} {bytes = bytes} w l =
    (w.text ∙ sets-eq bytes before 0 (omega arith) ∙ ap (λ (k : ℕ). bytes ++ drop k before) (zero-add (length bytes)), w.ends ∙ zero-add (length bytes))

-- ---- digits

pub one-digit : (n : ℕ) → n < 10 → digits n ≡ digit n ∷ []
unfolding digits_in
one-digit n l = simp (lt-ltb n 10 l)

-- room for more digits than there are changes nothing
enough : (most n : ℕ) → n < 10 ^ suc most → digits_in (suc most) n ≡ digits_in (suc (suc most)) n
unfolding digits_in
enough zero n l = simp (lt-ltb n 10 (omega arith))
enough (suc most) n l = by (ltb n 10) (enough most (n / 10) (omega arith))
  where
    by : (small : Bool) → digits_in (suc most) (n / 10) ≡ digits_in (suc (suc most)) (n / 10) → pick small (digit n ∷ []) (digits_in (suc most) (n / 10) ++ (digit (n % 10) ∷ [])) ≡ pick small (digit n ∷ []) (digits_in (suc (suc most)) (n / 10) ++ (digit (n % 10) ∷ []))
    by true e = refl
    by false e = ap (λ (l : List ℕ). l ++ (digit (n % 10) ∷ [])) e

-- all but the last, and the last
pub last-digit : (n : ℕ) → n < 2 ^ 64 → 10 ≤ n → digits n ≡ digits (n / 10) ++ (digit (n % 10) ∷ [])
unfolding digits_in
last-digit n f l = here ∙ ap (λ (l : List ℕ). l ++ (digit (n % 10) ∷ [])) (enough 18 (n / 10) (omega arith))
  where
    here : digits n ≡ digits_in 19 (n / 10) ++ (digit (n % 10) ∷ [])
    here = simp (le-ltb n 10 l)

-- ---- the digits, read from the left, come to the number

abbrev read : ℕ → List ℕ → ℕ
read sofar [] = sofar
read sofar (c ∷ cs) = read (10 * sofar + (c - 48)) cs

read-last : (sofar : ℕ) (cs : List ℕ) (c : ℕ) → read sofar (cs ++ (c ∷ [])) ≡ 10 * read sofar cs + (c - 48)
read-last sofar [] c = refl
read-last sofar (d ∷ cs) c = read-last (10 * sofar + (d - 48)) cs c

read-in : (most n : ℕ) → n < 10 ^ suc most → read 0 (digits_in (suc most) n) ≡ n
unfolding digits_in
read-in zero n l = simp (lt-ltb n 10 (omega arith)) (omega arith)
read-in (suc most) n l = by (dec_lt n 10) (read-in most (n / 10) (omega arith))
  where
    by : Dec (n < 10) → read 0 (digits_in (suc most) (n / 10)) ≡ n / 10 → read 0 (digits_in (suc (suc most)) n) ≡ n
    by (yes s) shorter = simp (lt-ltb n 10 s) (omega arith)
    by (no s) shorter = simp (le-ltb n 10 (omega arith)) (omega (arith, read-last 0 (digits_in (suc most) (n / 10)) (digit (n % 10)), shorter))

pub reads-back : (n : ℕ) → n < 2 ^ 64 → read 0 (digits n) ≡ n
reads-back n l = read-in 19 n (omega arith)

-- ---- lengths

pub fewer : (n : ℕ) → Fits w64 n → 10 ≤ n → length (digits n) ≡ length (digits (n / 10)) + 1
fewer n f l = ap length (last-digit n f.fits l) ∙ length-append (digits (n / 10)) (digit (n % 10) ∷ [])

-- a number below 10 ^ k has at most k digits, but one at least
length-in : (most k n : ℕ) → n < 10 ^ suc k → length (digits_in most n) ≤ suc k
unfolding digits_in
length-in zero k n l = omega arith
length-in (suc most) k n l = by (dec_lt n 10) k l (λ k l. length-in most k (n / 10) l)
  where
    by : Dec (n < 10) → (k : ℕ) → n < 10 ^ suc k → ((k : ℕ) → n / 10 < 10 ^ suc k → length (digits_in most (n / 10)) ≤ suc k) → length (digits_in (suc most) n) ≤ suc k
    by (yes s) k l shorter = simp (lt-ltb n 10 s) (omega arith)
    by (no s) zero l shorter = absurd (omega arith)
    by (no s) (suc k) l shorter = simp (le-ltb n 10 (omega arith)) (omega (arith, length-append (digits_in most (n / 10)) (digit (n % 10) ∷ []), shorter k (omega arith)))

-- a number of 64 bits with a sign
pub length-decimal : (z : ℤ) → SFits w64 z → length (decimal z) ≤ 20
length-decimal z f = by (below0 z)
  where
    by : (b : Bool) → length (sign_text b ++ digits (nat_abs z)) ≤ 20
    by true = omega (arith, length-in 20 18 (nat_abs z) (omega (arith, nat_abs-le z f.sfits)))
    by false = omega (arith, length-in 20 18 (nat_abs z) (omega (arith, nat_abs-le z f.sfits)))
