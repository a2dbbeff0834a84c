-- Slices that are lists. Assumes nothing.
use mathlib.Core.Path.{◌≡◌}
use mathlib.Core.Bool.{true}
use Prim.Native.Nat.{ℕ, ◌/◌, ◌%◌, ◌≤◌}
use lib.Dec.{leb}
use borrow.Author.Tests.{leb-true, eqb-true}
use Rattle.ints.proofs.Bools.{and-true}
use Rattle.numbers.specs.Lists.{whole}
use Rattle.numbers.specs.Inside.{listed}

module _ (bytes most : ℕ) (e : listed bytes most ≡ true) where
  pub is_whole : bytes % 8 ≡ 0
  is_whole = eqb-true (bytes % 8) 0 (and-true (whole bytes) (leb (bytes / 8) most) e).0

  pub fits : bytes / 8 ≤ most
  fits = leb-true (bytes / 8) most (and-true (whole bytes) (leb (bytes / 8) most) e).1
