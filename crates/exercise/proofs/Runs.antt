-- Laws of things written one after the other: their length, what is read from them, and that reading and writing again gives the bytes. Assumes nothing.
use mathlib.Core.Path.{◌≡◌, refl, sym, ap, ap₂, ◌∙◌, subst}
use mathlib.Core.List.{List, [], ◌∷◌, ◌++◌, append_assoc, append-nil}
use Prim.Native.Nat.{ℕ, zero, suc, ◌+◌, ◌*◌, ◌/◌, ◌%◌, ◌^◌, ◌≤◌, ◌<◌}
use native.Mathlib.Nat.{mul-suc, mul-le-mul_left}
use native.Mathlib.Omega.{arith}
use lib.ListN.{length, get_or, take, length-append}
use lib.Seq.{take-add}
use Rattle.numbers.specs.Bytes.{Bytes}
use Rattle.ints.specs.Each.{Every}
use Rattle.ints.specs.Table.{tab}
use Rattle.ints.proofs.Gather.{every_append}
use Rattle.ints.proofs.Tables.{tab-ext, tab-front}
use Rattle.exercise.specs.Packed.{bytes_at}
use Rattle.exercise.specs.Written.{bytes_high, run}
use Rattle.exercise.proofs.Packing.{length_high, high-at, at_after, high-back}

-- thing i of n, `size` bytes each, ends no later than they do
pub in-turn : (size i n : ℕ) → i < n → size * i + size ≤ size * n
in-turn size i n h = omega (arith, mul-suc size i, mul-le-mul_left size h)

module _ {A : Type 0} (size : ℕ) (bits : A → ℕ) where
  pub length_run : (xs : List A) → length (run size bits xs) ≡ size * length xs
  unfolding run
  length_run [] = omega arith
  length_run (x ∷ xs) = length-append (bytes_high size (bits x)) (run size bits xs) ∙ omega (arith, length_high size (bits x), length_run xs, mul-suc size (length xs))

  pub run-append : (xs ys : List A) → run size bits (xs ++ ys) ≡ run size bits xs ++ run size bits ys
  unfolding run
  run-append [] ys = refl
  run-append (x ∷ xs) ys = ap (λ (t : List ℕ). bytes_high size (bits x) ++ t) (run-append xs ys) ∙ sym (append_assoc (bytes_high size (bits x)) (run size bits xs) (run size bits ys))

  pub run-one : (x : A) → run size bits (x ∷ []) ≡ bytes_high size (bits x)
  unfolding run
  run-one x = append-nil (bytes_high size (bits x))

  -- the first, and those after it
  module _ (x : A) (xs : List A) where
    run-first : bits x < 256 ^ size → bytes_at (run size bits (x ∷ xs)) (size * 0) size ≡ bits x
    unfolding run
    run-first h = high-at [] (run size bits xs) size (bits x) (size * 0) (omega arith) h

    run-later : (i : ℕ) → bytes_at (run size bits (x ∷ xs)) (size * suc i) size ≡ bytes_at (run size bits xs) (size * i) size
    unfolding run
    run-later i =
        let e : size * suc i ≡ length (bytes_high size (bits x)) + size * i = omega (arith, length_high size (bits x), mul-suc size i) in
        ap (λ (k : ℕ). bytes_at (bytes_high size (bits x) ++ run size bits xs) k size) e ∙ at_after (bytes_high size (bits x)) (run size bits xs) (size * i) size

  module _ (P : A → Type 0) (small : (x : A) → P x → bits x < 256 ^ size) where
    -- what is read from a run is what was written
    pub run-read : (of : ℕ → A) → ((x : A) → P x → of (bits x) ≡ x) → (xs : List A) → Every P xs → tab (λ i. of (bytes_at (run size bits xs) (size * i) size)) (length xs) ≡ xs
    unfolding tab
    run-read of back [] e = refl
    run-read of back (x ∷ xs) e =
        tab-front (λ i. of (bytes_at (run size bits (x ∷ xs)) (size * i) size)) (length xs)
        ∙ ap₂ ◌∷◌ (ap of (run-first x xs (small x e.0)) ∙ back x e.0) (tab-ext _ _ (length xs) (λ i _. ap of (run-later x xs i)) ∙ run-read of back xs e.1)

    -- what holds of the bits of each holds at each place
    pub run-each : (Q : ℕ → Type 0) → ((x : A) → P x → Q (bits x)) → (xs : List A) → Every P xs → (i : ℕ) → i < length xs → Q (bytes_at (run size bits xs) (size * i) size)
    run-each Q q [] e i h = absurd (omega arith)
    run-each Q q (x ∷ xs) e zero h = subst Q (sym (run-first x xs (small x e.0))) (q x e.0)
    run-each Q q (x ∷ xs) e (suc i) h = subst Q (sym (run-later x xs i)) (run-each Q q xs e.1 i (omega arith))

  -- things that were read from bytes are written as those bytes
  pub run-back : (s : List ℕ) → Bytes s → (f : ℕ → A) (n : ℕ) → size * n ≤ length s → ((i : ℕ) → i < n → bits (f i) ≡ bytes_at s (size * i) size) → run size bits (tab f n) ≡ take (size * n) s
  unfolding tab run
  run-back s b f zero l h = let none : 0 ≡ size * 0 = omega arith in ap (λ (k : ℕ). take k s) none
  run-back s b f (suc n) l h =
      let k : size * suc n ≡ size * n + size = mul-suc size n in
      run-append (tab f n) (f n ∷ [])
      ∙ ap₂ ◌++◌ (run-back s b f n (omega arith) (λ i j. h i (omega arith))) (run-one (f n) ∙ ap (bytes_high size) (h n (omega arith)) ∙ high-back s b (size * n) size (omega arith))
      ∙ sym (ap (λ (j : ℕ). take j s) k ∙ take-add (size * n) size s)

-- ---- what is written are bytes

abbrev pub AllBytes : List ℕ → Type 0
AllBytes = Every (λ b. b < 256)

pub all-high : (size v : ℕ) → AllBytes (bytes_high size v)
unfolding bytes_high
all-high zero v = tt
all-high (suc size) v = every_append (λ b. b < 256) (bytes_high size (v / 256)) (v % 256 ∷ []) (all-high size (v / 256)) (omega arith, tt)

pub all-run : {A : Type 0} (size : ℕ) (bits : A → ℕ) (xs : List A) → AllBytes (run size bits xs)
unfolding run
all-run size bits [] = tt
all-run size bits (x ∷ xs) = every_append (λ b. b < 256) (bytes_high size (bits x)) (run size bits xs) (all-high size (bits x)) (all-run size bits xs)

pub all-bytes : (s : List ℕ) → AllBytes s → Bytes s
all-bytes s a = record { each = each s a }
  where
    each : (s : List ℕ) → AllBytes s → (i : ℕ) → i < length s → get_or s i 0 < 256
    each [] a i h = absurd (omega arith)
    each (x ∷ s) a zero h = a.0
    each (x ∷ s) a (suc i) h = each s a.1 i (omega arith)
