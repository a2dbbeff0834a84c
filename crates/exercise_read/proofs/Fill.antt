-- A list filled with the numbers of one thing after the other, as many for each; and the lists of a file. Assumes nothing.
use mathlib.Core.Path.{◌≡◌, refl, sym, ap, ap₂, ◌∙◌}
use mathlib.Core.List.{List, [], ◌∷◌, ◌++◌, append_assoc, append-nil}
use Prim.Native.Nat.{ℕ, zero, suc, ◌+◌, ◌*◌, ◌^◌, ◌<◌}
use native.Mathlib.Nat.{mul-suc}
use native.Mathlib.Numerals.{add-one}
use native.Mathlib.Omega.{arith}
use lib.IntN.{ℤ, pos}
use lib.ListN.{length, take, drop, length-append, drop_of_length-le}
use lib.Seq.{take_at, drop-append-add, drop-drop}
use mir.Syntax.{w64}
use mir.Val.{to_z}
use mir.Facts.{to_z_pos}
use Rattle.ints.specs.Table.{tab}
use Rattle.numbers.specs.Bytes.{encoded}
use Rattle.numbers.proofs.Laws.{length-encoded, encoded-append}
use Rattle.hour.specs.declared.Edition.{Edition}
use Rattle.exercise.specs.File.{row_at, rows_in, transaction_at, transactions_in}
use Rattle.exercise.specs.declared.Item.{Item}
use Rattle.exercise.specs.Inside.{item_length}
use Rattle.exercise.specs.Lists.{row_numbers, transaction_numbers, in_turns}
use Rattle.exercise.proofs.Turns.{turns-last, turns-none}
use Rattle.exercise_read.specs.Inside.{numbers_at, listed_at}

-- things by another name
turns-of : {A : Type 0} (f : A → List ℤ) (g : ℕ → A) (n : ℕ) → in_turns (λ (numbers : List ℤ). numbers) (tab (λ i. f (g i)) n) ≡ in_turns f (tab g n)
turns-of f g zero = turns-none (λ (numbers : List ℤ). numbers) (λ i. f (g i)) ∙ sym (turns-none f g)
turns-of f g (suc n) = turns-last (λ (numbers : List ℤ). numbers) (λ i. f (g i)) n ∙ ap (λ (t : List ℤ). t ++ f (g n)) (turns-of f g n) ∙ sym (turns-last f g n)

pub rows-listed : (s : List ℕ) (n : ℕ) → listed_at Item.Row s n ≡ encoded (in_turns row_numbers (rows_in s n))
rows-listed s n = ap encoded (turns-of row_numbers (row_at s) n)

pub transactions-listed : (edition : Edition) (s : List ℕ) (n : ℕ) → listed_at (Item.Transaction edition) s n ≡ encoded (in_turns (transaction_numbers edition) (transactions_in edition s n))
transactions-listed edition s n = ap encoded (turns-of (transaction_numbers edition) (transaction_at edition s) n)

each : (item : Item) (s : List ℕ) (i : ℕ) → length (numbers_at item s i) ≡ item_length item
each Item.Row s i = refl
each (Item.Transaction Edition.PathOnly) s i = refl
each (Item.Transaction Edition.WithSeller) s i = refl

-- `size` bytes for each
module _ (item : Item) (size : ℕ) (e : size ≡ 8 * item_length item) (s out : List ℕ) where
  abbrev numbers-at : ℕ → List ℤ
  numbers-at = numbers_at item s

  abbrev numbers-to : ℕ → List ℤ
  numbers-to i = in_turns (λ (numbers : List ℤ). numbers) (tab numbers-at i)

  abbrev so_far : ℕ → List ℕ
  so_far i = listed_at item s i

  long : (i : ℕ) → length (so_far i) ≡ size * i
  long zero = ap (λ (l : List ℤ). length (encoded l)) (turns-none (λ (numbers : List ℤ). numbers) numbers-at) ∙ length-encoded [] ∙ omega arith
  long (suc i) =
      ap (λ (l : List ℤ). length (encoded l)) (turns-last (λ (numbers : List ℤ). numbers) numbers-at i)
      ∙ length-encoded (numbers-to i ++ numbers-at i)
      ∙ omega (arith, e, mul-suc size i, length-append (numbers-to i) (numbers-at i), each item s i, length-encoded (numbers-to i), long i)

  -- before the first, one more, after the last
  pub fill_none : out ≡ so_far 0 ++ drop (size * 0) out
  unfolding encoded
  fill_none =
      let none : 0 ≡ size * 0 = omega arith in
      ap (λ (k : ℕ). drop k out) none ∙ sym (ap (λ (l : List ℤ). encoded l ++ drop (size * 0) out) (turns-none (λ (numbers : List ℤ). numbers) numbers-at))

  pub fill-next : (i : ℕ) (l : List ℕ) → l ≡ so_far i ++ drop (size * i) out → take (size * i) l ++ (encoded (numbers-at i) ++ drop (size * i + size) l) ≡ so_far (i + 1) ++ drop (size * (i + 1)) out
  fill-next i l f =
      let written : take (size * i) l ≡ so_far i = ap (take (size * i)) f ∙ take_at (so_far i) (drop (size * i) out) (size * i) (long i) in
      let k : size * i + size ≡ length (so_far i) + size = omega (arith, long i) in
      let next : size * i + size ≡ size * (i + 1) = sym (mul-suc size i) ∙ ap (λ (j : ℕ). size * j) (sym (add-one i)) in
      let left : drop (size * i + size) l ≡ drop (size * (i + 1)) out = ap₂ drop k f ∙ drop-append-add (so_far i) (drop (size * i) out) size ∙ drop-drop size (size * i) out ∙ ap (λ (j : ℕ). drop j out) next in
      let more : so_far (i + 1) ≡ so_far i ++ encoded (numbers-at i) =
      ap so_far (add-one i) ∙ ap encoded (turns-last (λ (numbers : List ℤ). numbers) numbers-at i) ∙ encoded-append (numbers-to i) (numbers-at i) in
      ap₂ (λ (a b : List ℕ). a ++ (encoded (numbers-at i) ++ b)) written left
      ∙ sym (append_assoc (so_far i) (encoded (numbers-at i)) (drop (size * (i + 1)) out))
      ∙ ap (λ (t : List ℕ). t ++ drop (size * (i + 1)) out) (sym more)

  pub fill_done : (n : ℕ) → length out ≡ size * n → so_far n ++ drop (size * n) out ≡ so_far n
  fill_done n f = ap (λ (t : List ℕ). so_far n ++ t) (drop_of_length-le out {i = size * n} (omega (arith, f))) ∙ append-nil (so_far n)

-- ---- five, six and seven numbers as i64

pub five-signed : (a b c d e : ℕ) → a < 2 ^ 63 → b < 2 ^ 63 → c < 2 ^ 63 → d < 2 ^ 63 → e < 2 ^ 63
    → (to_z w64 a ∷ to_z w64 b ∷ to_z w64 c ∷ to_z w64 d ∷ to_z w64 e ∷ []) ≡ pos a ∷ pos b ∷ pos c ∷ pos d ∷ pos e ∷ []
five-signed a b c d e p q r s t = rw (to_z_pos w64 p, to_z_pos w64 q, to_z_pos w64 r, to_z_pos w64 s, to_z_pos w64 t)

pub six-signed : (a b c d e f : ℕ) → a < 2 ^ 63 → b < 2 ^ 63 → c < 2 ^ 63 → d < 2 ^ 63 → e < 2 ^ 63 → f < 2 ^ 63
    → (to_z w64 a ∷ to_z w64 b ∷ to_z w64 c ∷ to_z w64 d ∷ to_z w64 e ∷ to_z w64 f ∷ []) ≡ pos a ∷ pos b ∷ pos c ∷ pos d ∷ pos e ∷ pos f ∷ []
six-signed a b c d e f p q r s t u = rw (to_z_pos w64 p, to_z_pos w64 q, to_z_pos w64 r, to_z_pos w64 s, to_z_pos w64 t, to_z_pos w64 u)

pub seven-signed : (a b c d e f g : ℕ) → a < 2 ^ 63 → b < 2 ^ 63 → c < 2 ^ 63 → d < 2 ^ 63 → e < 2 ^ 63 → f < 2 ^ 63 → g < 2 ^ 63
    → (to_z w64 a ∷ to_z w64 b ∷ to_z w64 c ∷ to_z w64 d ∷ to_z w64 e ∷ to_z w64 f ∷ to_z w64 g ∷ []) ≡ pos a ∷ pos b ∷ pos c ∷ pos d ∷ pos e ∷ pos f ∷ pos g ∷ []
seven-signed a b c d e f g p q r s t u v = rw (to_z_pos w64 p, to_z_pos w64 q, to_z_pos w64 r, to_z_pos w64 s, to_z_pos w64 t, to_z_pos w64 u, to_z_pos w64 v)
