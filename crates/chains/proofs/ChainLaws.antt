use Prim.Native.Nat.{ℕ, zero, suc, ◌+◌, ◌-◌, ◌%◌, ◌<◌}
use mathlib.Core.Path.{◌≡◌, refl}
use mathlib.Core.List.{List}
use mathlib.Core.Bool.{true, false}
use lib.ListN.{get_or, set}
use lib.Dec.{eqb}
use native.Mathlib.Numerals.{add-one, sub-one}
use borrow.Author.Tests.{eq-eqb, ne_eqb}
use native.Mathlib.Omega.{arith}
use Rattle.laws.specs.Choice.{pick}
use Rattle.chains.specs.Chains.{found_from, unlink, home, find, taken, pushed, relinked, longer}
use Rattle.laws.specs.Sizes.{chain_count, free_head, key_limit}

pub home_label : (w : ℕ) → (w ≡ 0 → ⊥) → key_limit + (w - 1) % chain_count ≡ home w
unfolding home
home_label zero h = absurd (h refl)
home_label (suc w) h = rw sub-one

pub home_free : (w : ℕ) → w ≡ 0 → free_head ≡ home w
unfolding home
home_free zero h = refl
home_free (suc w) h = absurd (omega arith)

pub found_step : (link label : List ℕ) (w f x : ℕ) → 0 < f → (x ≡ 0 → ⊥)
    → found_from link label w f x ≡ pick (eqb (get_or label ((x - 1) % key_limit) 0) w) ((x - 1) % key_limit) (found_from link label w (f - 1) (get_or link ((x - 1) % key_limit) 0))
unfolding found_from
found_step link label w zero x h n = absurd (omega arith)
found_step link label w (suc f) zero h n = absurd (n refl)
found_step link label w (suc f) (suc k) h n = rw (sub-one, sub-one)

pub found_none : (link label : List ℕ) (w f x : ℕ) → x ≡ 0 → found_from link label w f x ≡ key_limit
unfolding found_from
found_none link label w zero x e = refl
found_none link label w (suc f) zero e = refl
found_none link label w (suc f) (suc k) e = absurd (omega arith)

pub found_out : (link label : List ℕ) (w f x : ℕ) → f ≡ 0 → found_from link label w f x ≡ key_limit
unfolding found_from
found_out link label w zero x e = refl
found_out link label w (suc f) x e = absurd (omega arith)

pub found_hit : (link label : List ℕ) (w f x : ℕ) → 0 < f → (x ≡ 0 → ⊥) → get_or label ((x - 1) % key_limit) 0 ≡ w → found_from link label w f x ≡ (x - 1) % key_limit
found_hit link label w f x h n e = rw (eq-eqb _ _ e) at (found_step link label w f x h n)

pub found_miss : (link label : List ℕ) (w f g x : ℕ) → f ≡ g + 1 → (x ≡ 0 → ⊥) → (get_or label ((x - 1) % key_limit) 0 ≡ w → ⊥)
    → found_from link label w f x ≡ found_from link label w g (get_or link ((x - 1) % key_limit) 0)
found_miss link label w f g x h n e = let i : f - 1 ≡ g = omega arith in rw (ne_eqb _ _ e, i) at (found_step link label w f x (omega arith) n)

pub unlink_step : (link : List ℕ) (k f at x : ℕ) → 0 < f → (x ≡ 0 → ⊥)
    → unlink link k f at x ≡ pick (eqb (x - 1) k) (set link at (get_or link k 0)) (unlink link k (f - 1) ((x - 1) % key_limit) (get_or link ((x - 1) % key_limit) 0))
unfolding unlink
unlink_step link k zero at x h n = absurd (omega arith)
unlink_step link k (suc f) at zero h n = absurd (n refl)
unlink_step link k (suc f) at (suc j) h n = rw (sub-one, sub-one)

pub unlink_none : (link : List ℕ) (k f at x : ℕ) → x ≡ 0 → unlink link k f at x ≡ link
unfolding unlink
unlink_none link k zero at x e = refl
unlink_none link k (suc f) at zero e = refl
unlink_none link k (suc f) at (suc j) e = absurd (omega arith)

pub unlink_out : (link : List ℕ) (k f at x : ℕ) → f ≡ 0 → unlink link k f at x ≡ link
unfolding unlink
unlink_out link k zero at x e = refl
unlink_out link k (suc f) at x e = absurd (omega arith)

pub unlink_hit : (link : List ℕ) (k f at x : ℕ) → 0 < f → (x ≡ 0 → ⊥) → x - 1 ≡ k → unlink link k f at x ≡ set link at (get_or link k 0)
unlink_hit link k f at x h n e = rw (eq-eqb _ _ e) at (unlink_step link k f at x h n)

pub unlink_miss : (link : List ℕ) (k f g at x : ℕ) → f ≡ g + 1 → (x ≡ 0 → ⊥) → (x - 1 ≡ k → ⊥)
    → unlink link k f at x ≡ unlink link k g ((x - 1) % key_limit) (get_or link ((x - 1) % key_limit) 0)
unlink_miss link k f g at x h n e = let i : f - 1 ≡ g = omega arith in rw (ne_eqb _ _ e, i) at (unlink_step link k f at x (omega arith) n)

pub find_start : (link label : List ℕ) (w at x : ℕ) → at ≡ home w → x ≡ get_or link at 0 → find link label w ≡ found_from link label w key_limit x
unfolding find
find_start link label w at x e f = rw (f, e)

pub relinked_is : (link label link₁ : List ℕ) (k w j old at : ℕ) → j ≡ k → old ≡ home (get_or label j 0) → link₁ ≡ unlink link j key_limit old (get_or link old 0) → at ≡ home w
    → set (set link₁ j (get_or link₁ at 0)) at (k + 1) ≡ relinked link label k w
unfolding relinked taken pushed
relinked_is link label link₁ k w j old at a b c d = rw (add-one, c, b, a, d)

pub longer_end : (link : List ℕ) (i x : ℕ) → i ≡ 0 → longer link i x ≡ true
unfolding longer
longer_end link zero x h = refl
longer_end link (suc i) x h = absurd (omega arith)

pub longer_none : (link : List ℕ) (i x : ℕ) → 0 < i → x ≡ 0 → longer link i x ≡ false
unfolding longer
longer_none link zero x h e = absurd (omega arith)
longer_none link (suc i) zero h e = refl
longer_none link (suc i) (suc x) h e = absurd (omega arith)

pub longer_step : (link : List ℕ) (i j x : ℕ) → i ≡ j + 1 → (x ≡ 0 → ⊥) → longer link i x ≡ longer link j (get_or link ((x - 1) % key_limit) 0)
unfolding longer
longer_step link zero j x h e = absurd (omega arith)
longer_step link (suc i) j zero h e = absurd (e refl)
longer_step link (suc i) j (suc x) h e = let k : i ≡ j = omega arith in rw (k, sub-one)
