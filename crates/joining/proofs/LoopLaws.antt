-- Laws of lists that loops fill.
use Prim.Native.Nat.{ℕ, zero, suc, ◌+◌, ◌<◌}
use mathlib.Core.Path.{◌≡◌, refl, ◌∙◌}
use mathlib.Core.List.{List}
use lib.ListN.{length, get_or, set, replicate}
use lib.Seq.{get_or-set_same, get_or-set_other}
use native.Mathlib.Omega.{arith}
use native.Mathlib.Decide.{ℕ_discrete}

-- one more element of a list that is filled from the front by f
pub filled : (f : ℕ → ℕ) (l : List ℕ) (i v : ℕ) → i < length l → v ≡ f i → ((k : ℕ) → k < i → get_or l k 0 ≡ f k) → (k : ℕ) → k < i + 1 → get_or (set l i v) k 0 ≡ f k
filled f l i v b e h k c = go (ℕ_discrete k i)
  where
    go : Dec (k ≡ i) → get_or (set l i v) k 0 ≡ f k
    go (yes q) = rw (q, get_or-set_same l i v 0 b) e
    go (no q) = get_or-set_other l i k v 0 q ∙ h k (omega (arith, q))

pub zeros_at : (n y : ℕ) → ◌≡◌ {A = ℕ} (get_or (replicate n 0) y 0) 0
zeros_at zero y = refl
zeros_at (suc n) zero = refl
zeros_at (suc n) (suc y) = zeros_at n y
