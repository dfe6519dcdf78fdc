-- Eight words that a closure makes, one for each number.
use Prim.Native.Nat.{ℕ, zero, suc, ◌+◌, ◌≤◌, ◌<◌}
use mathlib.Core.Path.{◌≡◌, ◌∙◌}
use mathlib.Core.List.{List}
use denote.Param.Members.{Mut}
use lib.ListN.{get_or}
use native.Mathlib.Omega.{arith}
use native.Mathlib.Decide.{ℕ_discrete}
use Rattle.std.specs.Fn.{Called}
use Rattle.std.specs.Array.{IsFromFnResult, IsFromFnResultFrom}
use Rattle.std.proofs.lemmas.List.FromFn.{fill_by_all}
use Rattle.slots.specs.Slots.{words8}

module _ {F : Type 0} (g : Mut F (ℕ × Unit {0}) ℕ) (h : ℕ → ℕ) where
  made_from : (f : F) (ys : List ℕ) (i n : ℕ) → ((x y : ℕ) (q : F) → Called g f (x, tt) y q → (q ≡ f) × (y ≡ h x))
      → IsFromFnResultFrom g f ys i n → (k : ℕ) → i ≤ k → k < i + n → get_or ys k 0 ≡ h k
  made_from f ys i zero each r k a b = absurd (omega arith)
  made_from f ys i (suc n) each r k a b =
      let here = each i r.1 r.0 r.3 in
      let rest : IsFromFnResultFrom g f ys (i + 1) n = rw here.0 at r.4 in
      go here.1 (λ c. made_from f ys (i + 1) n each rest k c (omega arith)) (ℕ_discrete k i)
    where
      go : r.1 ≡ h i → (i + 1 ≤ k → get_or ys k 0 ≡ h k) → Dec (k ≡ i) → get_or ys k 0 ≡ h k
      go m ih (yes e) = rw e (r.2.1 0 ∙ m)
      go m ih (no d) = ih (omega arith)

  -- a closure that changes nothing makes the eight words that its function gives
  pub made8 : {f : F} {ys : List ℕ} → ((x y : ℕ) (q : F) → Called g f (x, tt) y q → (q ≡ f) × (y ≡ h x))
      → IsFromFnResult g f ys 8 → ys ≡ words8 h
  unfolding words8
  made8 {f = f} {ys = ys} each r = fill_by_all h ys 8 0 r.long (λ k b. made_from f ys 0 8 each r.each k (omega arith) b)
