-- The charge of p goes by p's own positions and transactions alone, and one more of them adds its own part. Assumes nothing.
use mathlib.Core.Path.{◌≡◌, sym, ap, ◌∙◌}
use mathlib.Core.Bool.{Bool, false, not, ◌&&◌, and-false}
use mathlib.Core.List.{List, [], ◌∷◌, ◌++◌}
use Prim.Native.Nat.{ℕ}
use lib.Dec.{eqb}
use lib.IntN.{ℤ, pos, ◌+ℤ◌, +ℤ_assoc, +ℤ_comm}
use Rattle.ints.specs.Each.{Every}
use Rattle.ints.specs.Sum.{Σℤ, only}
use Rattle.ints.proofs.Adding.{owed-last}
use Rattle.ints.proofs.Gather.{Σ-keep, every-last}
use Rattle.hour.specs.declared.Transaction.{Transaction}
use Rattle.hour.specs.InsideParts.{position_part, position_parts, transaction_part, transaction_parts, own_positions, own_transactions, PositionPlaced, TransactionPlaced}
use Rattle.hour.specs.Charges.{own_position, own_transaction, carried, ahead_at, real_at, ahead_path, real_path, position_charge, path_charge, charge}
use Rattle.hour.specs.Hour.{Prices, Position}
use Rattle.hour.proofs.Theorem.{same}

-- ---- p's own alone

module _ (p : ℕ) where
  -- a position or transaction of another participant passes no test that asks for p's
  others : (a b c d : Bool) → a ≡ false → (a && b && c && d) ≡ false
  others a b c d e = ap (λ (a : Bool). a && b && c && d) e

  -- what p withdraws, and injects, at a location: t chooses the one or the other
  at_own : (t : Position → Bool) (xs : List Position) (m k l : ℕ)
      → Σℤ (λ x. only (t x && (own_position m k p x && eqb x.location l)) (pos x.kw)) (own_positions p xs)
      ≡ Σℤ (λ x. only (t x && (own_position m k p x && eqb x.location l)) (pos x.kw)) xs
  at_own t xs m k l =
      Σ-keep (λ x. eqb x.participant p) (λ x. t x && (own_position m k p x && eqb x.location l)) (λ x. pos x.kw)
      (λ x e. ap (λ (b : Bool). t x && b) (others (eqb x.participant p) (eqb x.market m) (eqb x.interval k) (eqb x.location l) e) ∙ and-false (t x)) xs

  carried-own : (transactions : List Transaction) (m k i j : ℕ) → carried (own_transactions p transactions) m k p i j ≡ carried transactions m k p i j
  carried-own transactions m k i j =
      Σ-keep (λ t. eqb t.participant p) (λ t. own_transaction m k p t && eqb t.source i && eqb t.sink j) (λ t. pos t.kw.0)
      (λ t e. ap (λ (b : Bool). b && eqb t.sink j) (others (eqb t.participant p) (eqb t.market m) (eqb t.interval k) (eqb t.source i) e)) transactions

  pub own-only : (prices : Prices) (xs : List Position) (transactions : List Transaction) → charge prices (own_positions p xs) (own_transactions p transactions) p ≡ charge prices xs transactions p
  unfolding charge position_charge path_charge ahead_at real_at ahead_path real_path
  own-only prices xs transactions = simp (at_own (λ x. x.withdrawal) xs, at_own (λ x. not x.withdrawal) xs, carried-own transactions)

-- ---- one position, or one transaction, more: what an open hour that takes one in, or out, goes by

pub charge-more : (prices : Prices) (xs : List Position) (x : Position) (transactions : List Transaction) (p : ℕ)
    → Every (PositionPlaced prices.locations) xs → PositionPlaced prices.locations x → Every (TransactionPlaced prices.locations) transactions
    → charge prices (xs ++ (x ∷ [])) transactions p ≡ charge prices xs transactions p +ℤ only (eqb x.participant p) (position_part prices x)
charge-more prices xs x transactions p d h e =
    let z = only (eqb x.participant p) (position_part prices x) in
    let a = position_parts prices xs p in
    let b = transaction_parts prices transactions p in
    sym (same prices (xs ++ (x ∷ [])) transactions p (every-last (PositionPlaced prices.locations) xs x d h) e)
    ∙ ap (λ (y : ℤ). y +ℤ b) (owed-last (λ x. x.participant) (position_part prices) p xs x)
    ∙ +ℤ_assoc a z b ∙ ap (λ (y : ℤ). a +ℤ y) (+ℤ_comm z b) ∙ sym (+ℤ_assoc a b z)
    ∙ ap (λ (y : ℤ). y +ℤ z) (same prices xs transactions p d e)

pub charge-more-transaction : (prices : Prices) (xs : List Position) (transactions : List Transaction) (t : Transaction) (p : ℕ)
    → Every (PositionPlaced prices.locations) xs → Every (TransactionPlaced prices.locations) transactions → TransactionPlaced prices.locations t
    → charge prices xs (transactions ++ (t ∷ [])) p ≡ charge prices xs transactions p +ℤ only (eqb t.participant p) (transaction_part prices t)
charge-more-transaction prices xs transactions t p d e h =
    let z = only (eqb t.participant p) (transaction_part prices t) in
    let a = position_parts prices xs p in
    let b = transaction_parts prices transactions p in
    sym (same prices xs (transactions ++ (t ∷ [])) p d (every-last (TransactionPlaced prices.locations) transactions t e h))
    ∙ ap (λ (y : ℤ). a +ℤ y) (owed-last (λ t. t.participant) (transaction_part prices) p transactions t)
    ∙ sym (+ℤ_assoc a b z)
    ∙ ap (λ (y : ℤ). y +ℤ z) (same prices xs transactions p d e)
