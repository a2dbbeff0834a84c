-- The load's order over slices: 1 where one is ragged or too long. Assumes nothing.
use mathlib.Core.Path.{◌≡◌, refl, ap₂}
use mathlib.Core.Bool.{Bool, true, false, ◌&&◌}
use mathlib.Core.List.{List}
use Prim.Native.Nat.{ℕ, ◌/◌, ◌≤◌}
use native.Mathlib.Omega.{arith}
use lib.IntN.{ℤ}
use lib.ListN.{length}
use borrow.Author.Tests.{le-leb}
use Rattle.ints.specs.Refusal.{unless}
use Rattle.ints.proofs.Bools.{and-true}
use Rattle.numbers.specs.Bytes.{numbers}
use Rattle.numbers.proofs.Laws.{length-numbers}
use Rattle.load.specs.Order.{load_refusal}
use Rattle.load.proofs.Lengths.{too_long}
use Rattle.numbers.specs.Lists.{whole}
use Rattle.numbers.specs.Inside.{listed}
use Rattle.load_bytes.specs.Inside.{AllListed}
use Rattle.wunzelihle.specs.Load.{load_bytes_given, load_bytes_refusal}

-- a line that gives 1, as all later ones do where its test holds
one_line : (t : Bool) (later : ℕ) → (t ≡ true → later ≡ 1) → unless t 1 later ≡ 1
one_line true later h = h refl
one_line false later h = refl

module _ (metered distributor : ℤ) (loads imports generation : List ℕ) (areas : ℤ) (area_parts contracts tranches : List ℕ) (bytes : ℕ) where
  -- a slice that is no list, or is too long
  pub not_listed : (AllListed loads imports generation area_parts contracts tranches bytes → ⊥) → load_bytes_refusal metered distributor loads imports generation areas area_parts contracts tranches bytes ≡ 1
  unfolding load_bytes_refusal
  not_listed ragged =
      one_line (whole (length loads)) _ (λ a.
      one_line (whole (length imports)) _ (λ b.
      one_line (whole (length generation)) _ (λ c.
      one_line (whole (length area_parts)) _ (λ d.
      one_line (whole (length contracts)) _ (λ e.
      one_line (whole (length tranches)) _ (λ f.
      one_line (whole bytes) _ (λ g.
      too_long (load_bytes_given metered distributor loads imports generation areas area_parts contracts tranches) (bytes / 8)
      (λ h. ragged (record {
        loads-listed = short loads 64 a h.loads-fit;
        imports-listed = short imports 64 b h.imports-fit;
        generation-listed = short generation 64 c h.generation-fit;
        parts-listed = short area_parts 1024 d h.parts-fit;
        contracts-listed = short contracts 768 e h.contracts-fit;
        tranches-listed = short tranches 64 f h.tranches-fit;
        result-listed = ap₂ ◌&&◌ g (le-leb (bytes / 8) 4096 h.result_fits);
      })))))))))
    where
      short : (s : List ℕ) (most : ℕ) → whole (length s) ≡ true → length (numbers s) ≤ most → listed (length s) most ≡ true
      short s most e h = ap₂ ◌&&◌ e (le-leb (length s / 8) most (omega (arith, length-numbers s)))

  -- lists
  pub all_listed : AllListed loads imports generation area_parts contracts tranches bytes
      → load_bytes_refusal metered distributor loads imports generation areas area_parts contracts tranches bytes ≡ load_refusal (load_bytes_given metered distributor loads imports generation areas area_parts contracts tranches) (bytes / 8)
  unfolding load_bytes_refusal
  all_listed l =
      simp (
        (and-true (whole (length loads)) _ l.loads-listed).0,
        (and-true (whole (length imports)) _ l.imports-listed).0,
        (and-true (whole (length generation)) _ l.generation-listed).0,
        (and-true (whole (length area_parts)) _ l.parts-listed).0,
        (and-true (whole (length contracts)) _ l.contracts-listed).0,
        (and-true (whole (length tranches)) _ l.tranches-listed).0,
        (and-true (whole bytes) _ l.result-listed).0,
      )
