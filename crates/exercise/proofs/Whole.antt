-- A file that passes the order to its length: its edition exists, it has exactly the length that the header says, and its parts lie one after the other. Assumes nothing.
use mathlib.Core.Path.{◌≡◌, refl, sym, ap, ◌∙◌, subst}
use mathlib.Core.List.{List}
use Prim.Native.Nat.{ℕ, zero, suc, ◌+◌, ◌*◌, ◌-◌, ◌≤◌}
use native.Mathlib.Nat.{mul-le-mul_right}
use native.Mathlib.Omega.{arith}
use lib.Dec.{leb, eqb}
use lib.ListN.{length, length-take, length-drop}
use borrow.Author.Tests.{leb-true, eqb-true}
use Rattle.ints.proofs.Refusals.{passed}
use Rattle.exercise.specs.File.{header, places_of, places, bytes_from}
use Rattle.exercise.specs.Layout.{header_size, transaction_size, edition_number, edition_of}
use Rattle.hour.specs.declared.Edition.{Edition}
use Rattle.exercise.specs.Inside.{Small}
use Rattle.exercise.specs.Order.{header_refusal, frame_refusal}
use Rattle.exercise.specs.declared.Header.{Header}
use Rattle.exercise.specs.declared.Places.{Places}

pub small : (file : List ℕ) → Small (header file)
unfolding header
small file = record { participants = omega arith; locations = omega arith; rows = omega arith; transactions = omega arith }

-- where the parts lie
pub record Laid (h : Header) (p : Places) : Type 0 where
  pub first : p.prices ≡ 5
  pub prices : p.prices + 3 * (26 * h.locations) ≡ p.rows
  pub rows : p.rows + 6 * h.rows ≡ p.transactions
  pub transactions : p.transactions + transaction_size (edition_of h.edition) * h.transactions ≡ p.end

pub laid : (h : Header) → Laid h (places_of h)
unfolding places_of
laid h = record { first = omega arith; prices = omega arith; rows = omega arith; transactions = omega arith }

pub record Whole (file : List ℕ) : Type 0 where
  pub edition : (header file).edition ≤ 1
  pub rows : (header file).rows ≤ 2048
  pub transactions : (header file).transactions ≤ 256
  pub begun : 5 ≤ length file
  pub ended : length file ≡ (places file).end

pub whole : (file : List ℕ) → frame_refusal file ≡ 0 → Whole file
unfolding frame_refusal header_refusal
whole file e =
    let h = header file in
    let p1 = passed (leb header_size (length file)) 8 _ e in
    let p2 = passed (leb h.edition 1) 8 _ p1.1 in
    let p3 = passed (leb h.rows 2048) 0 _ p2.1 in
    let p4 = passed (leb h.transactions 256) 0 _ p3.1 in
    let p5 = passed (eqb (length file) (places file).end) 8 0 p4.1 in
    record {
      edition = leb-true h.edition 1 p2.0;
      rows = leb-true h.rows 2048 p3.0;
      transactions = leb-true h.transactions 256 p4.0;
      begun = leb-true 5 (length file) p1.0;
      ended = eqb-true (length file) (places file).end p5.0;
    }

-- the same of what code has read
pub record Found (file : List ℕ) (h : Header) (p : Places) : Type 0 where
  pub lies : Laid h p
  pub same : p ≡ places file
  pub last : length file ≡ p.end

pub found : (file : List ℕ) → frame_refusal file ≡ 0 → (h : Header) → h ≡ header file → (p : Places) → p ≡ places_of h → Found file h p
found file e h f p g =
    let same = g ∙ ap places_of f in
    record { lies = subst (Laid h) (sym g) (laid h); same = same; last = (whole file e).ended ∙ ap (λ (q : Places). q.end) (sym same) }

pub small-read : (file : List ℕ) (h : Header) → h ≡ header file → Small h
small-read file h e = subst Small (sym e) (small file)

-- a bytes_from that lies within a file has the bytes between its two places
pub part_length : (from to : ℕ) (file : List ℕ) → from ≤ to → to ≤ length file → length (bytes_from from to file) ≡ to - from
part_length from to file h l = simp (length-take, length-drop) (omega arith)

-- the number of an edition is that of its header
pub number_of : (n : ℕ) → n ≤ 1 → edition_number (edition_of n) ≡ n
number_of zero h = refl
number_of (suc zero) h = refl
number_of (suc (suc n)) h = absurd (omega arith)

pub edition-back : (edition : Edition) → edition_of (edition_number edition) ≡ edition
edition-back Edition.PathOnly = refl
edition-back Edition.WithSeller = refl

pub numbered : (edition : Edition) → edition_number edition ≤ 1
numbered Edition.PathOnly = omega arith
numbered Edition.WithSeller = omega arith

-- a transaction has six or seven bytes
pub sized : (edition : Edition) → (6 ≤ transaction_size edition) × (transaction_size edition ≤ 7)
sized Edition.PathOnly = (omega arith, omega arith)
sized Edition.WithSeller = (omega arith, omega arith)

-- so many of them no more than seven times as many
pub sized-most : (edition : Edition) (n : ℕ) → transaction_size edition * n ≤ 7 * n
sized-most edition n = mul-le-mul_right n (sized edition).1

-- a file has a participant
pub some-participant : (file : List ℕ) → 1 ≤ (header file).participants
unfolding header
some-participant file = omega arith

-- .. and a location
pub some-location : (file : List ℕ) → 1 ≤ (header file).locations
unfolding header
some-location file = omega arith
