-- The elements of a tabulated list. Assumes nothing.
use mathlib.Core.Path.{◌≡◌}
use mathlib.Core.Logic.{⊎_elim}
use mathlib.Core.List.Memᴰ
use mathlib.Core.List.{Memᴰ}
use Prim.Native.Nat.{ℕ, zero, suc, ◌<◌}
use native.Mathlib.Omega.{arith}
use Rattle.ints.specs.Table.{tab}

-- each is f i for some i below n
pub from-tab : {A : Type 0} (f : ℕ → A) (n : ℕ) (x : A) → Memᴰ x (tab f n) → (i : ℕ) × (i < n) × (x ≡ f i)
unfolding tab
from-tab f zero x m = absurd (Memᴰ.not-nil m)
from-tab f (suc n) x m =
    ⊎_elim
    (λ l. let g = from-tab f n x l in (g.0, omega arith, g.2))
    (λ r. (n, omega arith, Memᴰ.eq_of_singleton r))
    (Memᴰ.append_cases (tab f n) m)
