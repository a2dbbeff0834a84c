-- Who shares in the surplus and who doesn't, and the surplus and credits of document 01's statement program, computed. Assumes nothing.
use Rattle.std.specs.Prelude.{◌≡◌, refl, true, false, [], ◌∷◌, ℕ, pos, neg_ℤ, replicate}
use Rattle.ints.specs.Sum.{Σℤ, sum_nat, sum_to}
use Rattle.ints.specs.Table.{tab}
use Rattle.units.specs.Units.{cents_of}
use Rattle.split.specs.Split.{total, cut_down, remainder, units_left, before, place, part, parts}
use Rattle.hour.specs.Hour.{day_ahead, real_time, load, generation, export, import, decrement_bid, Hour}
use Rattle.hour.specs.Charges.{ahead_at, real_at, ahead_path, real_path, position_charge, path_charge, charge, congestion_charges_of, loss_charges_of}
use Rattle.hour.specs.CasesCharges.{each}
use Rattle.hour.specs.Surplus.{is_share, share_kw, surplus, shares, credits, nets}
use Rattle.hour.specs.declared.Edition.TheVariants as Edition
use Rattle.hour.specs.declared.Row.{Row}

-- ---- shares

load-shares : is_share real_time load ≡ true
load-shares = refl

export-shares : is_share real_time export ≡ true
export-shares = refl

generation-shares : is_share real_time generation ≡ false
generation-shares = refl

import-shares : is_share real_time import ≡ false
import-shares = refl

load-ahead : is_share day_ahead load ≡ false
load-ahead = refl

export-ahead : is_share day_ahead export ≡ false
export-ahead = refl

-- "Counting decrement bids as load in the surplus" (document 01, "Traps for the careless")
bid : is_share day_ahead decrement_bid ≡ false
bid = refl

-- a row of one in real time is refused (4) before it could count
bid-in-real-time : is_share real_time decrement_bid ≡ false
bid-in-real-time = refl

-- by so many kW, in whichever interval
export-kw : share_kw (record { market = 1; kind = 2; interval = 7; participant = 1; location = 0; kw = record { 0 = 100000 } }) ≡ pos 100000
export-kw = refl

import-kw : share_kw (record { market = 1; kind = 3; interval = 7; participant = 1; location = 0; kw = record { 0 = 100000 } }) ≡ pos 0
import-kw = refl

-- ---- document 01, the statement program: 2 participants at 2 locations, real time, interval 0, no congestion

abbrev row : ℕ → ℕ → ℕ → ℕ → ℕ → ℕ → Row
row m kind k p l kw = record { market = m; kind = kind; interval = k; participant = p; location = l; kw = record { 0 = kw } }

-- 0 draws 200,000 kW at location 1; 1 feeds 110,000 in at location 0 and exports 100,000 at location 1
abbrev statement : Hour
statement = record {
  participants = 2;
  locations = 2;
  congestion_ahead = replicate 2 (pos 0);
  congestion_real = replicate 24 (pos 0);
  loss_ahead = pos 120 ∷ pos 600 ∷ [];
  loss_real = each (λ k. pos 120 ∷ pos 600 ∷ []);
  rows = row real_time load 0 0 1 200000 ∷ row real_time generation 0 1 0 110000 ∷ row real_time export 0 1 1 100000 ∷ [];
  edition = Edition.PathOnly;
  transactions = [];
}

-- "0 0 1000 927 73", "1 0 390 463 -73"

loss : loss_charges_of statement ≡ pos 1000 ∷ pos 390 ∷ []
unfolding loss_charges_of tab cents_of charge position_charge path_charge ahead_at real_at ahead_path real_path Σℤ sum_to
loss = refl

amount : surplus statement ≡ pos 1390
unfolding surplus cents_of charge position_charge path_charge ahead_at real_at ahead_path real_path Σℤ sum_to
amount = refl

by-load-and-exports : shares statement ≡ pos 200000 ∷ pos 100000 ∷ []
unfolding shares tab Σℤ
by-load-and-exports = refl

credit : credits statement ≡ pos 927 ∷ pos 463 ∷ []
unfolding credits parts part cut_down remainder units_left before place total sum_nat surplus shares tab cents_of charge position_charge path_charge ahead_at real_at ahead_path real_path Σℤ sum_to
credit = refl

net : nets statement ≡ pos 73 ∷ neg_ℤ (pos 73) ∷ []
unfolding nets credits parts part cut_down remainder units_left before place total sum_nat surplus shares tab cents_of charge position_charge path_charge ahead_at real_at ahead_path real_path Σℤ sum_to
net = refl

-- ---- "A participant's exact total is rounded once": two rows, in two intervals, of 0.4 cents each, at 1 dollar. Rounded apart they'd be nothing

abbrev two : Hour
two = record {
  participants = 1;
  locations = 1;
  congestion_ahead = pos 0 ∷ [];
  congestion_real = replicate 12 (pos 1000);
  loss_ahead = pos 0 ∷ [];
  loss_real = replicate 12 (pos 1000);
  rows = row real_time load 0 0 0 48 ∷ row real_time load 1 0 0 48 ∷ [];
  edition = Edition.PathOnly;
  transactions = [];
}

congestion-once : congestion_charges_of two ≡ pos 1 ∷ []
unfolding congestion_charges_of tab cents_of charge position_charge path_charge ahead_at real_at ahead_path real_path Σℤ sum_to
congestion-once = refl

loss-once : loss_charges_of two ≡ pos 1 ∷ []
unfolding loss_charges_of tab cents_of charge position_charge path_charge ahead_at real_at ahead_path real_path Σℤ sum_to
loss-once = refl

-- ---- a surplus below 0 is cut toward zero: 926 and 463 and a unit left for the first, with the sign put back
owed_back : parts (neg_ℤ (pos 1390)) (pos 200000 ∷ pos 100000 ∷ []) ≡ neg_ℤ (pos 927) ∷ neg_ℤ (pos 463) ∷ []
unfolding parts part cut_down remainder units_left before place total sum_nat tab
owed_back = refl
