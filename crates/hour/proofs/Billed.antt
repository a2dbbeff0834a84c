-- From the exact totals and shares of an hour to its output lists. Assumes nothing.
use mathlib.Core.Path.{◌≡◌, refl, ap, ap₂, ◌∙◌}
use mathlib.Core.Bool.{Bool, true, false}
use mathlib.Core.List.{List, [], ◌∷◌}
use Prim.Native.Nat.{ℕ, ◌+◌}
use native.Mathlib.Omega.{arith}
use lib.Dec.{eqb}
use lib.IntN.{ℤ, pos, ◌+ℤ◌, ◌-ℤ◌}
use lib.ListN.{length}
use lib.Signed.{le_z}
use borrow.Author.Tests.{le-leb}
use Rattle.ints.specs.InsideEvery.{owed}
use Rattle.ints.specs.Sum.{Σℤ, sum_to, only, sum}
use Rattle.ints.specs.Table.{◌at◌, tab}
use Rattle.ints.proofs.Gather.{every-tab}
use Rattle.ints.proofs.Sums.{sum_to-ext}
use Rattle.ints.proofs.Tables.{length-tab, get_or-tab, tab-ext, tab-self}
use Rattle.units.specs.Units.{cents_of}
use Rattle.split.specs.Split.{parts}
use Rattle.hour.specs.Charges.{exact_congestion_of, exact_loss_of, congestion_charge, loss_charge, congestion_charges_of, loss_charges_of}
use Rattle.hour.specs.Hour.{Hour, congestion_prices, loss_prices}
use Rattle.hour.specs.InsideTotals.{Charged, Shared, rounded, net_at, netted, Natural}
use Rattle.hour.specs.Order.{surplus_refusal}
use Rattle.hour.specs.Surplus.{surplus, is_share, share_kw, share_of, shares, credits, nets}

-- ---- lists of totals

by-numbers : (f : ℕ → ℤ) {xs : List ℤ} → ((p : ℕ) → xs at p ≡ f p) → xs ≡ tab f (length xs)
by-numbers f {xs} h = tab-self (pos 0) xs ∙ tab-ext _ _ (length xs) (λ p _. h p)

-- totals, rounded
rounded-tab : (f : ℕ → ℤ) (n : ℕ) → rounded (tab f n) ≡ tab (λ p. cents_of (f p)) n
unfolding rounded
rounded-tab f n = ap (tab (λ p. cents_of (tab f n at p))) (length-tab f n) ∙ tab-ext _ _ n (λ p l. ap cents_of (get_or-tab f (pos 0) n p l))

-- the totals and shares of an hour are lists by the tariff
module _ (hour : Hour) {totals : List ℤ} where
  pub congestion-totals : Charged hour.edition (congestion_prices hour) hour.rows hour.transactions totals → totals ≡ tab (exact_congestion_of hour) (length totals)
  congestion-totals c = by-numbers (exact_congestion_of hour) c.each

  pub loss-totals : Charged hour.edition (loss_prices hour) hour.rows hour.transactions totals → totals ≡ tab (exact_loss_of hour) (length totals)
  loss-totals c = by-numbers (exact_loss_of hour) c.each

  pub share-totals : Shared hour.rows totals → totals ≡ tab (share_of hour) (length totals)
  unfolding owed
  share-totals c = by-numbers (share_of hour) c.each

-- .. and with one for each participant they are what is billed
module _ (hour : Hour) {n : ℕ} (is : n ≡ hour.participants) {totals : List ℤ} where
  pub congestion-charges : totals ≡ tab (exact_congestion_of hour) n → rounded totals ≡ congestion_charges_of hour
  unfolding congestion_charges_of
  congestion-charges e = ap rounded e ∙ rounded-tab (exact_congestion_of hour) n ∙ ap (tab (congestion_charge hour)) is

  pub loss-charges : totals ≡ tab (exact_loss_of hour) n → rounded totals ≡ loss_charges_of hour
  unfolding loss_charges_of
  loss-charges e = ap rounded e ∙ rounded-tab (exact_loss_of hour) n ∙ ap (tab (loss_charge hour)) is

  pub the-shares : totals ≡ tab (share_of hour) n → totals ≡ shares hour
  unfolding shares
  the-shares e = e ∙ ap (tab (share_of hour)) is

-- ---- no share is below 0

sum-natural : {A : Type 0} (f : A → ℤ) → ((x : A) → (n : ℕ) × (f x ≡ pos n)) → (xs : List A) → (n : ℕ) × (Σℤ f xs ≡ pos n)
unfolding Σℤ
sum-natural f h [] = (0, refl)
sum-natural f h (x ∷ xs) = let a = h x in
    let b = sum-natural f h xs in
    (a.0 + b.0, ap₂ ◌+ℤ◌ a.1 b.1)

only-natural : (b : Bool) (z : ℤ) → (n : ℕ) × (z ≡ pos n) → (n : ℕ) × (only b z ≡ pos n)
only-natural true z h = h
only-natural false z h = (0, refl)

pub shares-natural : (hour : Hour) → Natural (shares hour)
unfolding shares
shares-natural hour = every-tab (λ z. le_z (pos 0) z ≡ true) (share_of hour) hour.participants (λ p _. natural p)
  where
    natural : (p : ℕ) → le_z (pos 0) (share_of hour p) ≡ true
    natural p =
        let n = sum-natural (λ r. only (eqb r.participant p) (share_kw r)) (λ r. only-natural (eqb r.participant p) (share_kw r) (only-natural (is_share r.market r.kind) (pos r.kw.0) (r.kw.0, refl))) hour.rows in
        ap (le_z (pos 0)) n.1 ∙ le-leb 0 n.0 (omega arith)

-- ---- of the lists of an hour

module _ (hour : Hour) where
  -- the sum of the loss charges
  pub the-surplus : (lost : List ℤ) → rounded lost ≡ loss_charges_of hour → sum (rounded lost) ≡ surplus hour
  unfolding loss_charges_of surplus
  the-surplus lost e =
      ap (λ (xs : List ℤ). sum_to (λ p. xs at p) (length xs)) e
      ∙ ap (sum_to (λ p. tab (loss_charge hour) hour.participants at p)) (length-tab (loss_charge hour) hour.participants)
      ∙ sum_to-ext _ _ hour.participants (λ p l. get_or-tab (loss_charge hour) (pos 0) hour.participants p l)

  pub the-nets : netted (congestion_charges_of hour) (loss_charges_of hour) (credits hour) ≡ nets hour
  unfolding netted congestion_charges_of loss_charges_of nets
  the-nets =
      ap (tab (net_at (tab (congestion_charge hour) hour.participants) (tab (loss_charge hour) hour.participants) (credits hour))) (length-tab (congestion_charge hour) hour.participants)
      ∙ tab-ext _ _ hour.participants (λ p l.
      ap₂ (λ (c k : ℤ). c +ℤ k -ℤ credits hour at p)
      (get_or-tab (congestion_charge hour) (pos 0) hour.participants p l) (get_or-tab (loss_charge hour) (pos 0) hour.participants p l))

  -- what is paid out
  module _ (lost given : List ℤ) (e : rounded lost ≡ loss_charges_of hour) (s : given ≡ shares hour) where
    pub the-refusal : surplus_refusal (sum (rounded lost)) given ≡ surplus_refusal (surplus hour) (shares hour)
    the-refusal = ap₂ surplus_refusal (the-surplus lost e) s

    pub the-credits : parts (sum (rounded lost)) given ≡ credits hour
    unfolding credits
    the-credits = ap₂ parts (the-surplus lost e) s

    pub net-lists : (charged : List ℤ) → rounded charged ≡ congestion_charges_of hour → netted (rounded charged) (rounded lost) (parts (sum (rounded lost)) given) ≡ nets hour
    net-lists charged f =
        ap₂ (λ (c l : List ℤ). netted c l (parts (sum (rounded lost)) given)) f e
        ∙ ap (netted (congestion_charges_of hour) (loss_charges_of hour)) the-credits ∙ the-nets
