-- Laws of numbers in bytes: the round trips, a write is `set`, a list is filled from the front. Assumes nothing.
use mathlib.Core.Path.{◌≡◌, refl, sym, ap, ap₂, ◌∙◌, subst}
use mathlib.Core.Bool.{Bool}
use mathlib.Core.List.{List, [], ◌∷◌, ◌++◌, append_assoc, append-nil}
use Prim.Native.Nat.{ℕ, zero, suc, ◌+◌, ◌*◌, ◌/◌, ◌%◌, ◌-◌, ◌^◌, ◌≤◌, ◌<◌}
use native.Mathlib.Decide.{dec_lt, ℕ_discrete}
use native.Mathlib.Nat.{mod-add-div, div-lt_iff_lt-mul, pow-suc}
use native.Mathlib.Numerals.{add-one}
use native.Mathlib.Omega.{arith}
use lib.Dec.{T, ltb}
use lib.IntN.{ℤ, pos, negsuc}
use lib.ListN.{length, take, drop, set, length-set, length-append, length-drop, take-append-drop, drop_of_length-le}
use lib.Seq.{take_at, drop_at, take_all, take-add, take-suc, drop-drop, length-take-le, take-append-le, drop-append-le, drop-append-add, ext_get_or, get_or-take, get_or-drop, get_or-set_same, get_or-set_other}
use mir.Syntax.{w64}
use mir.Val.{SFits}
use borrow.Author.Tests.{lt-ltb}
use Rattle.ints.specs.InsideRange.{InRange}
use Rattle.ints.specs.Refusal.{pick}
use Rattle.ints.specs.Table.{◌at◌, tab}
use Rattle.ints.specs.Twos.{twos, bits_of, InBits}
use Rattle.ints.proofs.Sizes.{w_fits}
use Rattle.ints.proofs.Tables.{length-tab, get_or-tab}
use Rattle.ints.proofs.Twos.{bits-twos, twos-bits, bits_below}
use Rattle.numbers.specs.Bytes.{Bytes, lowest_first, bytes_of, number, eight, number_at, numbers, encoded}
use Rattle.numbers.specs.Inside.{with_number}

-- ---- one number

pub length-bytes : (n u : ℕ) → length (bytes_of n u) ≡ n
unfolding bytes_of
length-bytes zero u = refl
length-bytes (suc n) u = ap suc (length-bytes n (u / 256))

-- the bytes of u stand for u
pub bytes_back : (n u : ℕ) → u < 256 ^ n → lowest_first (bytes_of n u) ≡ u
unfolding bytes_of lowest_first
bytes_back zero u h = omega arith
bytes_back (suc n) u h =
    ap (λ (q : ℕ). u % 256 + 256 * q) (bytes_back n (u / 256) ((div-lt_iff_lt-mul (omega arith)).1 (omega (arith, pow-suc 256 n)))) ∙ mod-add-div u 256

holds : (z : ℤ) → SFits w64 z → InBits 64 z
holds (pos n) f = f.sfits
holds (negsuc n) f = f.sfits

-- the bytes of a number stand for the number
pub number-back : (z : ℤ) → SFits w64 z → number (eight z) ≡ z
number-back z f = ap (twos 64) (bytes_back 8 (bits_of 64 z) (omega (arith, bits_below 64 refl z (holds z f)))) ∙ twos-bits 64 refl z (holds z f)

-- bytes stand for a number whose bytes they are
bytes-of : (s : List ℕ) → Bytes s → bytes_of (length s) (lowest_first s) ≡ s
unfolding bytes_of lowest_first
bytes-of [] h = refl
bytes-of (b ∷ bs) h =
    let low : b < 256 = h.each 0 (omega arith) in
    ap₂ ◌∷◌ (digit low) (ap (bytes_of (length bs)) (others low) ∙ bytes-of bs (record { each = λ i l. h.each (suc i) (omega arith) }))
  where
    digit : b < 256 → (b + 256 * lowest_first bs) % 256 ≡ b
    digit low = omega arith

    others : b < 256 → (b + 256 * lowest_first bs) / 256 ≡ lowest_first bs
    others low = omega arith

pub lowest-fits : (s : List ℕ) → Bytes s → lowest_first s < 256 ^ length s
unfolding lowest_first
lowest-fits [] h = omega arith
lowest-fits (b ∷ bs) h = omega (arith, h.each 0 (omega arith), lowest-fits bs (record { each = λ i l. h.each (suc i) (omega arith) }), pow-suc 256 (length bs))

pub eight-back : (s : List ℕ) → length s ≡ 8 → Bytes s → eight (number s) ≡ s
eight-back s e h =
    ap (bytes_of 8) (bits-twos 64 (lowest_first s) (omega (arith, lowest-fits s h, ap (λ (n : ℕ). 256 ^ n) e)))
    ∙ ap (λ (n : ℕ). bytes_of n (lowest_first s)) (sym e) ∙ bytes-of s h

-- ---- a list

pub length-numbers : (s : List ℕ) → length (numbers s) ≡ length s / 8
length-numbers s = length-tab (number_at s) (length s / 8)

pub numbers-at : (s : List ℕ) (i : ℕ) → i < length s / 8 → numbers s at i ≡ number_at s i
numbers-at s i h = get_or-tab (number_at s) (pos 0) (length s / 8) i h

length-eight : (z : ℤ) → length (eight z) ≡ 8
length-eight z = length-bytes 8 (bits_of 64 z)

pub length-encoded : (l : List ℤ) → length (encoded l) ≡ 8 * length l
unfolding encoded
length-encoded [] = refl
length-encoded (z ∷ l) = omega (arith, length-append (eight z) (encoded l), length-eight z, length-encoded l)

pub encoded-append : (l m : List ℤ) → encoded (l ++ m) ≡ encoded l ++ encoded m
unfolding encoded
encoded-append [] m = refl
encoded-append (z ∷ l) m = ap (λ (t : List ℕ). eight z ++ t) (encoded-append l m) ∙ sym (append_assoc (eight z) (encoded l) (encoded m))

pub encoded-one : (z : ℤ) → encoded (z ∷ []) ≡ eight z
unfolding encoded
encoded-one z = append-nil (eight z)

-- the number at i of the bytes of a list
pub encoded-at : (l : List ℤ) → ((i : ℕ) → SFits w64 (l at i)) → (i : ℕ) → i < length l → number_at (encoded l) i ≡ l at i
unfolding encoded
encoded-at [] f i h = absurd (omega arith)
encoded-at (z ∷ l) f zero h = ap number (take_at (eight z) (encoded l) 8 (length-eight z)) ∙ number-back z (f 0)
encoded-at (z ∷ l) f (suc i) h =
    let e : 8 * suc i ≡ length (eight z) + 8 * i = omega (arith, length-eight z) in
    ap (λ (k : ℕ). number (take 8 (drop k (eight z ++ encoded l)))) e
    ∙ ap (λ (t : List ℕ). number (take 8 t)) (drop-append-add (eight z) (encoded l) (8 * i))
    ∙ encoded-at l (λ j. f (suc j)) i (omega arith)

-- the numbers of the bytes of a list are the list
pub numbers-encoded : (l : List ℤ) → ((i : ℕ) → SFits w64 (l at i)) → numbers (encoded l) ≡ l
numbers-encoded l f =
    let k : length (encoded l) / 8 ≡ length l = omega (arith, length-encoded l) in
    let n : length (numbers (encoded l)) ≡ length l = length-numbers (encoded l) ∙ k in
    ext_get_or (pos 0) (numbers (encoded l)) l n (λ i h. numbers-at (encoded l) i (omega arith) ∙ encoded-at l f i (omega arith))

-- .. where they are within a bound that computes below 2 ^ 63: `read_back r tt`
pub read_back : {l : List ℤ} {k : ℕ} → InRange l k → T (ltb k (2 ^ 63)) → numbers (encoded l) ≡ l
read_back {l} r t = numbers-encoded l (λ i. w_fits (r.each i) t)

pub part_bytes : (s : List ℕ) (k n : ℕ) → k + n ≤ length s → Bytes s → Bytes (take n (drop k s))
part_bytes s k n h b =
    let e : length (take n (drop k s)) ≡ n = length-take-le n (drop k s) (omega (arith, length-drop k s)) in
    record { each = λ i l. subst (λ (x : ℕ). x < 256) (sym (get_or-take n (drop k s) i 0 (omega arith) ∙ get_or-drop k s i 0)) (b.each (k + i) (omega arith)) }

encoded-front : (s : List ℕ) → Bytes s → (n : ℕ) → 8 * n ≤ length s → encoded (tab (number_at s) n) ≡ take (8 * n) s
unfolding tab encoded
encoded-front s b zero l = refl
encoded-front s b (suc n) l =
    let k : 8 * suc n ≡ 8 * n + 8 = omega arith in
    let part : length (take 8 (drop (8 * n) s)) ≡ 8 = length-take-le 8 (drop (8 * n) s) (omega (arith, length-drop (8 * n) s)) in
    encoded-append (tab (number_at s) n) (number_at s n ∷ [])
    ∙ ap₂ ◌++◌ (encoded-front s b n (omega arith)) (encoded-one (number_at s n) ∙ eight-back (take 8 (drop (8 * n) s)) part (part_bytes s (8 * n) 8 (omega arith) b))
    ∙ sym (ap (λ (j : ℕ). take j s) k ∙ take-add (8 * n) 8 s)

-- the bytes of the numbers of bytes are the bytes
pub encoded-numbers : (s : List ℕ) → length s % 8 ≡ 0 → Bytes s → encoded (numbers s) ≡ s
encoded-numbers s e b = encoded-front s b (length s / 8) (omega arith) ∙ take_all (8 * (length s / 8)) s (omega arith)

-- a number whose 64 bits are fewer than 2 ^ 63 is that natural
pub at-natural : (s : List ℕ) → Bytes s → (k : ℕ) → 8 * k + 8 ≤ length s → bits_of 64 (number_at s k) < 2 ^ 63 → pos (bits_of 64 (number_at s k)) ≡ number_at s k
at-natural s b k h small =
    let own = take 8 (drop (8 * k) s) in
    let long : length own ≡ 8 = length-take-le 8 (drop (8 * k) s) (omega (arith, length-drop (8 * k) s)) in
    let fits : lowest_first own < 2 ^ 64 = omega (arith, lowest-fits own (part_bytes s (8 * k) 8 h b), ap (λ (n : ℕ). 256 ^ n) long) in
    let bits : bits_of 64 (number_at s k) ≡ lowest_first own = bits-twos 64 (lowest_first own) fits in
    ap pos bits ∙ sym (ap (λ (t : Bool). pick t (pos (lowest_first own)) (negsuc (2 ^ 64 - suc (lowest_first own)))) (lt-ltb (lowest_first own) (2 ^ 63) (omega (arith, bits))))

-- ---- a write

pub length-with : (s : List ℕ) (i : ℕ) (z : ℤ) → 8 * i + 8 ≤ length s → length (with_number s i z) ≡ length s
length-with s i z h =
    let e : length (take (8 * i) s) ≡ 8 * i = length-take-le (8 * i) s (omega arith) in
    simp (length-append, length-drop, e) (omega (arith, length-eight z))

-- eight bytes in the middle of a list are no part of the number at another place
module _ (p w q : List ℕ) (i : ℕ) (before : length p ≡ 8 * i) (mid : length w ≡ 8) where
  earlier : (j : ℕ) → j < i → number_at (p ++ (w ++ q)) j ≡ number_at p j
  earlier j h =
      ap (λ (t : List ℕ). number (take 8 t)) (drop-append-le (8 * j) p (w ++ q) (omega arith))
      ∙ ap number (take-append-le 8 (drop (8 * j) p) (w ++ q) (omega (arith, length-drop (8 * j) p)))

  later : (j : ℕ) → i < j → number_at (p ++ (w ++ q)) j ≡ number_at q (j - suc i)
  later j h =
      let e : 8 * j ≡ length p + (length w + 8 * (j - suc i)) = omega arith in
      ap (λ (k : ℕ). number (take 8 (drop k (p ++ (w ++ q))))) e
      ∙ ap (λ (t : List ℕ). number (take 8 t)) (drop-append-add p (w ++ q) (length w + 8 * (j - suc i)) ∙ drop-append-add w q (8 * (j - suc i)))

  there : number_at (p ++ (w ++ q)) i ≡ number w
  there = ap (λ (t : List ℕ). number (take 8 t)) (drop_at p (w ++ q) (8 * i) before) ∙ ap number (take_at w q 8 mid)

module _ (s : List ℕ) (i : ℕ) (room : 8 * i + 8 ≤ length s) where
  front : length (take (8 * i) s) ≡ 8 * i
  front = length-take-le (8 * i) s (omega arith)

  abbrev own : List ℕ
  own = take 8 (drop (8 * i) s)

  length-own : length own ≡ 8
  length-own = length-take-le 8 (drop (8 * i) s) (omega (arith, length-drop (8 * i) s))

  apart : s ≡ take (8 * i) s ++ (own ++ drop (8 * i + 8) s)
  apart = sym (ap (λ (t : List ℕ). take (8 * i) s ++ t) (ap (λ (t : List ℕ). own ++ t) (sym (drop-drop 8 (8 * i) s)) ∙ take-append-drop 8 (drop (8 * i) s)) ∙ take-append-drop (8 * i) s)

  pub read_same : (z : ℤ) → SFits w64 z → number_at (with_number s i z) i ≡ z
  read_same z f = there (take (8 * i) s) (eight z) (drop (8 * i + 8) s) i front (length-eight z) ∙ number-back z f

  pub read-other : (z : ℤ) (j : ℕ) → (j ≡ i → ⊥) → number_at (with_number s i z) j ≡ number_at s j
  read-other z j ne = side (dec_lt j i)
    where
      side : Dec (j < i) → number_at (with_number s i z) j ≡ number_at s j
      side (yes h) =
          earlier (take (8 * i) s) (eight z) (drop (8 * i + 8) s) i front (length-eight z) j h
          ∙ sym (ap (λ (t : List ℕ). number_at t j) apart ∙ earlier (take (8 * i) s) own (drop (8 * i + 8) s) i front length-own j h)
      side (no h) =
          later (take (8 * i) s) (eight z) (drop (8 * i + 8) s) i front (length-eight z) j (omega arith)
          ∙ sym (ap (λ (t : List ℕ). number_at t j) apart ∙ later (take (8 * i) s) own (drop (8 * i + 8) s) i front length-own j (omega arith))

  -- a write sets one number of the list
  pub numbers-set : (z : ℤ) → SFits w64 z → numbers (with_number s i z) ≡ set (numbers s) i z
  numbers-set z f =
      let l : length (with_number s i z) ≡ length s = length-with s i z room in
      let l1 : length (numbers (with_number s i z)) ≡ length s / 8 = length-numbers (with_number s i z) ∙ ap (λ (n : ℕ). n / 8) l in
      let l2 : length (set (numbers s) i z) ≡ length s / 8 = length-set (numbers s) i z ∙ length-numbers s in
      ext_get_or (pos 0) (numbers (with_number s i z)) (set (numbers s) i z) (l1 ∙ sym l2)
      (λ j h. numbers-at (with_number s i z) j (omega (arith, length-numbers (with_number s i z))) ∙ here j (omega arith) (ℕ_discrete j i))
    where
      here : (j : ℕ) → j < length s / 8 → Dec (j ≡ i) → number_at (with_number s i z) j ≡ set (numbers s) i z at j
      here j h (yes e) = rw e (read_same z f ∙ sym (get_or-set_same (numbers s) i z (pos 0) (omega (arith, length-numbers s))))
      here j h (no ne) = read-other z j ne ∙ sym (get_or-set_other (numbers s) i j z (pos 0) ne ∙ numbers-at s j h)

-- ---- filling a list `out` from the front with the numbers of l

module _ (l : List ℤ) (out : List ℕ) where
  pub fill_none : out ≡ encoded (take 0 l) ++ drop (8 * 0) out
  unfolding encoded
  fill_none = refl

  pub fill-next : (i : ℕ) (z : ℤ) → i < length l → 8 * length l ≤ length out → z ≡ l at i → with_number (encoded (take i l) ++ drop (8 * i) out) i z ≡ encoded (take (i + 1) l) ++ drop (8 * (i + 1)) out
  fill-next i z h room e =
      let n : length (take i l) ≡ i = length-take-le i l (omega arith) in
      let k : length (encoded (take i l)) ≡ 8 * i = length-encoded (take i l) ∙ ap (λ (j : ℕ). 8 * j) n in
      let written : take (8 * i) (encoded (take i l) ++ drop (8 * i) out) ≡ encoded (take i l) = take_at (encoded (take i l)) (drop (8 * i) out) (8 * i) k in
      let k8 : 8 * i + 8 ≡ length (encoded (take i l)) + 8 = omega arith in
      let f8 : 8 * i + 8 ≡ 8 * (i + 1) = omega arith in
      let left : drop (8 * i + 8) (encoded (take i l) ++ drop (8 * i) out) ≡ drop (8 * (i + 1)) out = ap (λ (j : ℕ). drop j (encoded (take i l) ++ drop (8 * i) out)) k8 ∙ drop-append-add (encoded (take i l)) (drop (8 * i) out) 8 ∙ drop-drop 8 (8 * i) out ∙ ap (λ (j : ℕ). drop j out) f8 in
      let more : encoded (take (i + 1) l) ≡ encoded (take i l) ++ eight (l at i) = ap (λ (j : ℕ). encoded (take j l)) (add-one i) ∙ ap encoded (take-suc l i (pos 0) h) ∙ encoded-append (take i l) (l at i ∷ []) ∙ ap (λ (t : List ℕ). encoded (take i l) ++ t) (encoded-one (l at i)) in
      rw (written, left, e, more) (sym (append_assoc (encoded (take i l)) (eight (l at i)) (drop (8 * (i + 1)) out)))

  pub fill_done : (i : ℕ) → length l ≤ i → length out ≡ 8 * length l → encoded (take i l) ++ drop (8 * i) out ≡ encoded l
  fill_done i h e = rw (drop_of_length-le out {i = 8 * i} (omega arith), take_all i l h) (append-nil (encoded l))
