-- Bytes stored into a lent list, as code stores them. Assumes nothing.
use mathlib.Core.Path.{◌≡◌, refl, sym, ap, ap₂, ◌∙◌}
use mathlib.Core.List.{List, [], ◌∷◌, ◌++◌, append_assoc, append-nil}
use Prim.Native.Nat.{ℕ, zero, suc, ◌+◌, ◌*◌, ◌/◌, ◌%◌, ◌-◌, ◌^◌, ◌≤◌}
use native.Mathlib.Nat.{div-div-eq-div-mul, pow-suc}
use native.Mathlib.Numerals.{add-one}
use native.Mathlib.Omega.{arith}
use lib.IntN.{ℤ, pos, negsuc}
use lib.ListN.{length, take, drop}
use lib.Seq.{sets, sets-eq, take_all}
use mir.Syntax.{w64}
use borrow.Rule.Slice.PartMut.{put_mid}
use Rattle.std.specs.Int.{to_be_bytes}
use Rattle.std.proofs.Math.Seq.{drop-append_seam, drop-drop}
use Rattle.ints.specs.Table.{tab}
use Rattle.ints.specs.Twos.{bits_of, InBits}
use Rattle.ints.proofs.Stores.{sets_more}
use Rattle.ints.proofs.Tables.{length-tab}
use Rattle.exercise.specs.Written.{bytes_high, run, price_bits}
use Rattle.exercise.proofs.Packing.{length_high}
use Rattle.exercise.proofs.Runs.{length_run, run-append, run-one}

-- ---- the lowest bytes of a number, by std's eight

-- the bytes of a number in two groups
high-grouped : (m n v : ℕ) → bytes_high (m + n) v ≡ bytes_high m (v / 256 ^ n) ++ bytes_high n v
unfolding bytes_high
high-grouped m zero v =
    let none : m + 0 ≡ m = omega arith in
    let whole : v ≡ v / 256 ^ 0 = omega arith in
    ap₂ bytes_high none whole ∙ sym (append-nil (bytes_high m (v / 256 ^ 0)))
high-grouped m (suc n) v =
    let next : m + suc n ≡ suc (m + n) = omega arith in
    let power : 256 * 256 ^ n ≡ 256 ^ suc n = omega (arith, pow-suc 256 n) in
    let q : v / 256 / 256 ^ n ≡ v / 256 ^ suc n = div-div-eq-div-mul v 256 (256 ^ n) ∙ ap (λ (d : ℕ). v / d) power in
    ap (λ (k : ℕ). bytes_high k v) next
    ∙ ap (λ (t : List ℕ). t ++ (v % 256 ∷ [])) (high-grouped m n (v / 256) ∙ ap (λ (u : ℕ). bytes_high m u ++ bytes_high n (v / 256)) q)
    ∙ append_assoc (bytes_high m (v / 256 ^ suc n)) (bytes_high n (v / 256)) (v % 256 ∷ [])

-- .. stored one after the other
pub grouped-stores : (l : List ℕ) (k m n v : ℕ) → sets (sets l k (bytes_high m (v / 256 ^ n))) (k + m) (bytes_high n v) ≡ sets l k (bytes_high (m + n) v)
grouped-stores l k m n v =
    ap (λ (j : ℕ). sets (sets l k (bytes_high m (v / 256 ^ n))) (k + j) (bytes_high n v)) (sym (length_high m (v / 256 ^ n)))
    ∙ sets_more l k (bytes_high m (v / 256 ^ n)) (bytes_high n v) ∙ ap (sets l k) (sym (high-grouped m n v))

be-eight : (v : ℕ) → to_be_bytes w64 v ≡ bytes_high 8 v
unfolding bytes_high
be-eight v = simp div-div-eq-div-mul

pub be-high : (size v : ℕ) → size ≤ 8 → take (8 - (8 - size)) (drop (8 - size) (to_be_bytes w64 v)) ≡ bytes_high size v
be-high size v h =
    let whole : 8 ≡ 8 - size + size = omega arith in
    let upper = bytes_high (8 - size) (v / 256 ^ size) in
    let long : 8 - size ≡ length upper = sym (length_high (8 - size) (v / 256 ^ size)) in
    let rest : drop (8 - size) (to_be_bytes w64 v) ≡ bytes_high size v =
    ap (drop (8 - size)) (be-eight v ∙ ap (λ (n : ℕ). bytes_high n v) whole ∙ high-grouped (8 - size) size v)
    ∙ ap (λ (n : ℕ). drop n (upper ++ bytes_high size v)) long
    ∙ drop-append_seam upper (bytes_high size v) in
    ap (take (8 - (8 - size))) rest ∙ take_all (8 - (8 - size)) (bytes_high size v) (omega (arith, length_high size v))

-- .. stored into the middle of a list
pub mid-high : (out new : List ℕ) (k size v : ℕ) → k + size ≤ length out → new ≡ bytes_high size v → put_mid k (k + size - k) out new ≡ sets out k (bytes_high size v)
mid-high out new k size v h e =
    let long : length new ≡ size = ap length e ∙ length_high size v in
    let rest : drop (k + size - k) (drop k out) ≡ drop (k + length new) out = drop-drop (k + size - k) k out ∙ ap (λ (n : ℕ). drop n out) (omega arith) in
    ap (λ (t : List ℕ). take k out ++ (new ++ t)) rest ∙ sym (append_assoc (take k out) new (drop (k + length new) out)) ∙ sym (sets-eq new out k (omega arith)) ∙ ap (sets out k) e

-- ---- higher bits are no part of the lowest bytes

high-lowest : (size w v : ℕ) → bytes_high size (w * 256 ^ size + v) ≡ bytes_high size v
unfolding bytes_high
high-lowest zero w v = refl
high-lowest (suc size) w v =
    let product : w * 256 ^ suc size ≡ 256 * (w * 256 ^ size) = ap (λ (p : ℕ). w * p) (pow-suc 256 size) ∙ omega arith in
    let others : (w * 256 ^ suc size + v) / 256 ≡ w * 256 ^ size + v / 256 = omega arith in
    let digit : (w * 256 ^ suc size + v) % 256 ≡ v % 256 = omega arith in
    ap₂ (λ (u d : ℕ). bytes_high size u ++ (d ∷ [])) others digit ∙ ap (λ (t : List ℕ). t ++ (v % 256 ∷ [])) (high-lowest size w (v / 256))

-- a price's bytes are the lowest of its 64 bits
pub price-lowest : (price : ℤ) → InBits 24 price → bytes_high 3 (bits_of 64 price) ≡ bytes_high 3 (price_bits price)
price-lowest (pos n) f = refl
price-lowest (negsuc n) f =
    let e : 2 ^ 64 - suc n ≡ 1099511627775 * 256 ^ 3 + (2 ^ 24 - suc n) = omega arith in
    ap (bytes_high 3) e ∙ high-lowest 3 1099511627775 (2 ^ 24 - suc n)

-- ---- a loop that stores one thing after the other: before the first, and one more

module _ {A : Type 0} (size : ℕ) (bits : A → ℕ) (f : ℕ → A) (before : List ℕ) (place : ℕ) where
  pub run_none : before ≡ sets before place (run size bits (tab f 0))
  unfolding tab run
  run_none = refl

  pub run-next : (i : ℕ) → sets (sets before place (run size bits (tab f i))) (place + size * i) (bytes_high size (bits (f i))) ≡ sets before place (run size bits (tab f (i + 1)))
  unfolding tab
  run-next i =
      let so_far = run size bits (tab f i) in
      let long : size * i ≡ length so_far = sym (length_run size bits (tab f i) ∙ ap (λ (n : ℕ). size * n) (length-tab f i)) in
      ap (λ (n : ℕ). sets (sets before place so_far) (place + n) (bytes_high size (bits (f i)))) long
      ∙ sets_more before place so_far (bytes_high size (bits (f i)))
      ∙ ap (sets before place) (sym (run-append size bits (tab f i) (f i ∷ []) ∙ ap (λ (t : List ℕ). so_far ++ t) (run-one size bits (f i))) ∙ ap (λ (n : ℕ). run size bits (tab f n)) (sym (add-one i)))

-- ---- the four parts, one after the other

pub file-stores : (l : List ℕ) (head price row transaction : List ℕ) (a b c : ℕ) → length head ≡ a → a + length price ≡ b → b + length row ≡ c
    → sets (sets (sets (sets l 0 head) a price) b row) c transaction ≡ sets l 0 (head ++ (price ++ (row ++ transaction)))
file-stores l head price row transaction a b c e f g =
    let at_a : a ≡ 0 + length head = omega arith in
    let at_b : b ≡ a + length price = omega arith in
    let at_c : c ≡ b + length row = omega arith in
    let third : sets (sets (sets (sets l 0 head) a price) b row) c transaction ≡ sets (sets (sets l 0 head) a price) b (row ++ transaction) =
    ap (λ (k : ℕ). sets (sets (sets (sets l 0 head) a price) b row) k transaction) at_c ∙ sets_more (sets (sets l 0 head) a price) b row transaction in
    let second : sets (sets (sets l 0 head) a price) b (row ++ transaction) ≡ sets (sets l 0 head) a (price ++ (row ++ transaction)) =
    ap (λ (k : ℕ). sets (sets (sets l 0 head) a price) k (row ++ transaction)) at_b ∙ sets_more (sets l 0 head) a price (row ++ transaction) in
    third ∙ second ∙ ap (λ (k : ℕ). sets (sets l 0 head) k (price ++ (row ++ transaction))) at_a ∙ sets_more l 0 head (price ++ (row ++ transaction))
