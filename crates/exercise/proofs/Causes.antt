-- The number of a cause is the refusal of the order, of a file and of an hour in lists of numbers; what is found there is outside its range. Assumes nothing.
use mathlib.Core.Path.{◌≡◌, refl, sym, ap, ap₂, ◌∙◌}
use mathlib.Core.Logic.{inr}
use mathlib.Core.Bool.{Bool, true, false, ◌&&◌}
use mathlib.Core.List.{List}
use Prim.Native.Nat.{ℕ, ◌*◌, ◌≤◌}
use native.Mathlib.Omega.{arith}
use lib.Dec.{leb, eqb}
use lib.IntN.{ℤ, pos}
use lib.ListN.{length}
use borrow.Author.Tests.{leb-true, leb-false, le-leb, lt-leb, eqb-true, eq-eqb}
use Rattle.ints.specs.Number.{between}
use Rattle.ints.specs.Refusal.{pick, unless}
use Rattle.ints.specs.Turn.{◌then◌}
use Rattle.ints.proofs.Bools.{same, and-true}
use Rattle.ints.proofs.Tests.{count-from-0}
use Rattle.ints.proofs.Turns.{then-later, then-assoc, then-nothing, then-under}
use Rattle.hour.specs.Cause.{Cause, as_number, stands_at, of_file, of_header, of_list, cause, no_cause, tested, ◌or◌, content_cause, credits_cause}
use Rattle.hour.specs.Order.{outputs_refusal, content_refusal}
use Rattle.hour.specs.Surplus.{surplus, shares}
use Rattle.hour.proofs.Causes.{Outside, none-outside, Stands, HasHour, line-stands, tested-stands, or-stands, content-stands, credits-stands, as-number, or-number, tested-number, line-number, next-line, content-number, credits-number, tested-outside, or-outside, content-outside, surplus-outside}
use Rattle.exercise.specs.Cause.{file_numbers, given_numbers, header_cause, headless_cause, frame_cause, hour_cause, counts_cause, lists_cause, given_cause}
use Rattle.exercise.specs.Decoding.{count_of}
use Rattle.hour.specs.declared.Edition.{Edition}
use Rattle.exercise.specs.File.{header, places_of, hour_of}
use Rattle.exercise.specs.Layout.{header_size, edition_of}
use Rattle.exercise.specs.Inside.{Small}
use Rattle.exercise.specs.Lists.{Content, transaction_length, edition_given, hour_given, no_spare, counts_refusal, lists_refusal, write_refusal}
use Rattle.exercise.specs.Order.{spare_of, in_bytes, header_refusal, frame_refusal, settled_refusal, hour_refusal}
use Rattle.exercise.specs.Written.{file_of}
use Rattle.exercise.specs.declared.Header.{Header}
use Rattle.exercise.proofs.Lists.{counts-right}
use Rattle.exercise.proofs.Whole.{small, laid, sized-most}

-- ---- tests of natural numbers

-- exactly m
exactly : (n m : ℕ) → between (pos m) (pos m) (pos n) ≡ eqb n m
exactly n m = same _ (eqb n m)
    (λ e. let b = and-true (leb m n) (leb n m) e in eq-eqb n m (omega (arith, leb-true m n b.0, leb-true n m b.1)))
    (λ e. let q = eqb-true n m e in ap₂ ◌&&◌ (le-leb m n (omega (arith, q))) (le-leb n m (omega (arith, q))))

exactly-number : (refusal part number field n m : ℕ) → m ≤ 9223372036854775807 → (tested refusal part number field (as_number n) (pos m) (pos m)).refusal ≡ unless (eqb n m) refusal 0
exactly-number refusal part number field n m h =
    tested-number refusal part number field (as_number n) (pos m) (pos m) ∙ ap (λ (t : Bool). unless t refusal 0) (as-number m (pos m) n (le-leb m 9223372036854775807 h) ∙ exactly n m)

up-to-number : (refusal part number field n m : ℕ) → m ≤ 9223372036854775807 → (tested refusal part number field (as_number n) (pos 0) (pos m)).refusal ≡ unless (leb n m) refusal 0
up-to-number refusal part number field n m h =
    tested-number refusal part number field (as_number n) (pos 0) (pos m) ∙ ap (λ (t : Bool). unless t refusal 0) (as-number 0 (pos m) n (le-leb m 9223372036854775807 h) ∙ count-from-0 m n)

-- ---- a file

pub end-small : (h : Header) → Small h → (places_of h).end ≤ 9223372036854775807
end-small h small = let l = laid h in omega (arith, l.first, l.prices, l.rows, l.transactions, small.locations, small.rows, small.transactions, sized-most (edition_of h.edition) h.transactions)

pub header-number : (h : Header) → Small h → (bytes : ℕ) → (header_cause h bytes).refusal ≡ header_refusal h bytes
unfolding header_cause header_refusal
header-number h small bytes =
    next-line _ _ (leb h.edition 1) 8 _ (up-to-number 9 of_header 0 4 h.edition 1 (omega arith))
    (next-line _ _ (leb h.rows 2048) 0 _ (up-to-number 1 of_header 0 2 h.rows 2048 (omega arith))
    (next-line _ _ (leb h.transactions 256) 0 _ (up-to-number 1 of_header 0 3 h.transactions 256 (omega arith))
    (exactly-number 9 of_file 0 0 bytes (places_of h).end (end-small h small))))

pub frame-number : (file : List ℕ) → (frame_cause file).refusal ≡ frame_refusal file
unfolding frame_cause frame_refusal
frame-number file =
    next-line _ _ (leb header_size (length file)) 8 _ (line-number (leb header_size (length file)) (cause 9 of_file 0 0 (as_number (length file)) (pos 83) (pos 19077))) (header-number (header file) (small file) (length file))

-- a file's content, whatever its header
pub file-content-number : (file : List ℕ) → (content_cause (hour_of file) (spare_of file)).refusal ≡ content_refusal (hour_of file) (spare_of file)
file-content-number file = content-number (hour_of file) (omega (arith, (small file).participants)) (omega (arith, (small file).locations)) (spare_of file)

pub hour-number : (file : List ℕ) → (hour_cause file).refusal ≡ (frame_refusal file then settled_refusal file)
unfolding hour_cause
hour-number file =
    let hour = hour_of file in
    or-number (frame_cause file) (content_cause hour (spare_of file) or credits_cause hour)
    ∙ ap₂ (λ (a b : ℕ). a then b) (frame-number file)
    (or-number (content_cause hour (spare_of file)) (credits_cause hour)
    ∙ ap₂ (λ (a b : ℕ). a then b) (file-content-number file) (credits-number hour))

-- with output lists as long as they have to be, it is the hour's; a file that is refused up to its length gets its number whatever the lists are
pub settle-number : (counted : ℕ → ℕ) (file : List ℕ) (lengths : List ℕ) → (frame_refusal file ≡ 0 → outputs_refusal (counted (hour_of file).participants) lengths ≡ 0) → hour_refusal counted file lengths ≡ (hour_cause file).refusal
unfolding hour_refusal
settle-number counted file lengths long = then-under (frame_refusal file) _ (settled_refusal file) (λ e. then-later _ (settled_refusal file) (long e)) ∙ sym (hour-number file)

-- ---- an hour in lists of numbers

pub counts-number : (p l r t e : ℤ) → (counts_cause p l r t e).refusal ≡ counts_refusal p l r t e
unfolding counts_cause counts_refusal
counts-number p l r t e =
    next-line _ _ (between (pos 0) (pos 1) e) 8 _ (tested-number 9 of_header 0 4 e (pos 0) (pos 1))
    (next-line _ _ (between (pos 1) (pos 64) p) 0 _ (tested-number 1 of_header 0 0 p (pos 1) (pos 64))
    (next-line _ _ (between (pos 1) (pos 64) l) 0 _ (tested-number 1 of_header 0 1 l (pos 1) (pos 64))
    (next-line _ _ (between (pos 0) (pos 2048) r) 0 _ (tested-number 1 of_header 0 2 r (pos 0) (pos 2048))
    (tested-number 1 of_header 0 3 t (pos 0) (pos 256)))))

-- so many that the lengths of their lists are held
pub record Listed (l r t : ℕ) : Type 0 where
  pub locations : l ≤ 64
  pub rows : r ≤ 2048
  pub transactions : t ≤ 256

-- a transaction has six or seven numbers
pub numbers-most : (edition : Edition) (n : ℕ) → transaction_length edition * n ≤ 7 * n
numbers-most Edition.PathOnly n = omega arith
numbers-most Edition.WithSeller n = omega arith

pub lists-number : (l r t : ℕ) (edition : Edition) (prices row_list transaction_list : ℕ) → Listed l r t → (lists_cause l r t edition prices row_list transaction_list).refusal ≡ lists_refusal l r t edition prices row_list transaction_list
unfolding lists_cause lists_refusal
lists-number l r t edition prices row_list transaction_list few =
    next-line _ _ (eqb prices (in_bytes (26 * l))) 0 _ (exactly-number 1 of_list 0 0 prices (in_bytes (26 * l)) (omega (arith, few.locations)))
    (next-line _ _ (eqb row_list (in_bytes (6 * r))) 0 _ (exactly-number 1 of_list 0 1 row_list (in_bytes (6 * r)) (omega (arith, few.rows)))
    (exactly-number 1 of_list 0 2 transaction_list (in_bytes (transaction_length edition * t)) (omega (arith, few.transactions, numbers-most edition t))))

module _ (c : Content) where
  -- the order to the last transaction
  abbrev counts : ℕ
  counts = counts_refusal c.participants c.locations c.rows c.transactions c.edition

  abbrev lists : ℕ
  lists = lists_refusal (count_of c.locations) (count_of c.rows) (count_of c.transactions) (edition_given c) (length c.prices) (length c.row_list) (length c.transaction_list)

  abbrev listed : Cause
  listed = lists_cause (count_of c.locations) (count_of c.rows) (count_of c.transactions) (edition_given c) (length c.prices) (length c.row_list) (length c.transaction_list)

  -- the counts of an hour that passes their order
  few-counted : counts ≡ 0 → (count_of c.participants ≤ 64) × Listed (count_of c.locations) (count_of c.rows) (count_of c.transactions)
  few-counted e = let k = counts-right c.participants c.locations c.rows c.transactions c.edition e in
      (k.0.few, record { locations = k.1.few; rows = k.2.few; transactions = k.3.few })

  lists-told : counts ≡ 0 → listed.refusal ≡ lists
  lists-told e = lists-number (count_of c.locations) (count_of c.rows) (count_of c.transactions) (edition_given c) (length c.prices) (length c.row_list) (length c.transaction_list) (few-counted e).1

  content-told : counts ≡ 0 → (content_cause (hour_given c) no_spare).refusal ≡ content_refusal (hour_given c) no_spare
  content-told e = let few = few-counted e in content-number (hour_given c) (omega (arith, few.0)) (omega (arith, few.1.locations)) no_spare

  pub given-number : (given_cause c).refusal ≡ (counts then lists then content_refusal (hour_given c) no_spare)
  unfolding given_cause
  given-number =
      or-number (counts_cause c.participants c.locations c.rows c.transactions c.edition) (listed or content_cause (hour_given c) no_spare)
      ∙ ap (λ (n : ℕ). n then (listed or content_cause (hour_given c) no_spare).refusal) (counts-number c.participants c.locations c.rows c.transactions c.edition)
      ∙ then-under counts _ _ (λ e. or-number listed (content_cause (hour_given c) no_spare) ∙ ap₂ (λ (a b : ℕ). a then b) (lists-told e) (content-told e))

  -- with room for the file, it is the writer's
  pub write-number : (room : ℕ) → write_refusal c room ≡ ((given_cause c).refusal then unless (leb (length (file_of (hour_given c))) room) 1 0)
  unfolding write_refusal
  write-number room =
      let last = unless (leb (length (file_of (hour_given c))) room) 1 0 in
      ap (λ (n : ℕ). counts then n) (then-assoc lists (content_refusal (hour_given c) no_spare) last)
      ∙ then-assoc counts (lists then content_refusal (hour_given c) no_spare) last
      ∙ ap (λ (n : ℕ). n then last) (sym given-number)

  pub room-number : (room : ℕ) → length (file_of (hour_given c)) ≤ room → write_refusal c room ≡ (given_cause c).refusal
  room-number room l =
      write-number room ∙ ap (λ (t : Bool). (given_cause c).refusal then unless t 1 0) (le-leb (length (file_of (hour_given c))) room l) ∙ then-nothing (given_cause c).refusal

-- ---- what is found is outside its range

header-outside : (h : Header) (bytes : ℕ) → Outside (header_cause h bytes)
unfolding header_cause
header-outside h bytes =
    or-outside _ _ (tested-outside _ _ _ _ _ _ _) (or-outside _ _ (tested-outside _ _ _ _ _ _ _) (or-outside _ _ (tested-outside _ _ _ _ _ _ _) (tested-outside _ _ _ _ _ _ _)))

headless-outside : (bytes : ℕ) → Outside (headless_cause bytes)
headless-outside bytes = by (leb header_size bytes) refl
  where
    by : (t : Bool) → leb header_size bytes ≡ t → Outside (pick t no_cause (cause 9 of_file 0 0 (as_number bytes) (pos 83) (pos 19077)))
    by true e = none-outside
    by false e = record { beyond = inr (as-number 83 (pos 19077) bytes refl ∙ ap (λ (b : Bool). b && leb bytes 19077) (lt-leb 83 bytes (omega (arith, leb-false 5 bytes e)))) }

pub hour-outside : (file : List ℕ) → Outside (hour_cause file)
unfolding hour_cause frame_cause
hour-outside file =
    or-outside _ _ (or-outside _ _ (headless-outside (length file)) (header-outside (header file) (length file)))
    (or-outside _ _ (content-outside (hour_of file) (spare_of file)) (surplus-outside (surplus (hour_of file)) (shares (hour_of file))))

pub given-outside : (c : Content) → Outside (given_cause c)
unfolding given_cause counts_cause lists_cause
given-outside c =
    or-outside _ _ (or-outside _ _ (tested-outside _ _ _ _ _ _ _) (or-outside _ _ (tested-outside _ _ _ _ _ _ _) (or-outside _ _ (tested-outside _ _ _ _ _ _ _) (or-outside _ _ (tested-outside _ _ _ _ _ _ _) (tested-outside _ _ _ _ _ _ _)))))
    (or-outside _ _ (or-outside _ _ (tested-outside _ _ _ _ _ _ _) (or-outside _ _ (tested-outside _ _ _ _ _ _ _) (tested-outside _ _ _ _ _ _ _))) (content-outside (hour_given c) no_spare))

-- ---- what is found is what stands at the place that is told

pub hour-stands : (file : List ℕ) → Stands (file_numbers file) (hour_cause file)
unfolding hour_cause frame_cause header_cause file_numbers stands_at
hour-stands file =
    let n = file_numbers file in
    or-stands n _ _
    (or-stands n _ _ (line-stands n (leb header_size (length file)) 9 of_file 0 0 (as_number (length file)) (pos 83) (pos 19077) refl)
    (or-stands n _ _ (tested-stands n 9 of_header 0 4 _ _ _ refl) (or-stands n _ _ (tested-stands n 1 of_header 0 2 _ _ _ refl) (or-stands n _ _ (tested-stands n 1 of_header 0 3 _ _ _ refl) (tested-stands n 9 of_file 0 0 _ _ _ refl)))))
    (or-stands n _ _ (content-stands (hour_of file) (spare_of file) n has) (credits-stands (hour_of file) (spare_of file) n has))
  where
    has : HasHour (hour_of file) (spare_of file) (file_numbers file)
    has = record { price = λ j. refl; row = λ i. refl; transaction = λ i. refl; surplus-is = λ k. refl; share = λ p. refl }

pub given-stands : (c : Content) → Stands (given_numbers c) (given_cause c)
unfolding given_cause counts_cause lists_cause given_numbers stands_at
given-stands c =
    let n = given_numbers c in
    or-stands n _ _ (or-stands n _ _ (tested-stands n 9 of_header 0 4 _ _ _ refl) (or-stands n _ _ (tested-stands n 1 of_header 0 0 _ _ _ refl) (or-stands n _ _ (tested-stands n 1 of_header 0 1 _ _ _ refl) (or-stands n _ _ (tested-stands n 1 of_header 0 2 _ _ _ refl) (tested-stands n 1 of_header 0 3 _ _ _ refl)))))
    (or-stands n _ _ (or-stands n _ _ (tested-stands n 1 of_list 0 0 _ _ _ refl) (or-stands n _ _ (tested-stands n 1 of_list 0 1 _ _ _ refl) (tested-stands n 1 of_list 0 2 _ _ _ refl)))
    (content-stands (hour_given c) no_spare n (record { price = λ j. refl; row = λ i. refl; transaction = λ i. refl; surplus-is = λ k. refl; share = λ p. refl })))
