-- SCOPE.md, 'Paths and keys': terms as trees, places in them, and their keys.
use Rattle.std.specs.Prelude.{ℕ, zero, suc, ◌+◌, ◌≤◌, ◌≡◌, refl, ◌⊎◌, List, [], ◌∷◌, ◌++◌, Bool, true, false, leb, eqb, length}
use Rattle.std.proofs.Common.{sym, ap, ◌∙◌, inl, inr, ⊎_elim, add-zero, arith, eq-eqb, eqb-true, length-append}
use Rattle.std.proofs.Math.Option.{Option, some, none}
use Rattle.laws.specs.Members.{In, NoDup, in_append, in_left, in_right, nodup_append}
use Rattle.laws.specs.Choice.{pick}
use Rattle.laws.specs.Sizes.{variable_base}

mutual
  pub data Tm : Type 0 where
    node : ℕ → Args → Tm

  pub data Args : Type 0 where
    nil : Args
    cons : Tm → Args → Args

-- what stands at the end of a path: a symbol, or the star, 256
unfoldable pub end_of : ℕ → ℕ
end_of x = pick (leb variable_base x) 256 x

-- steps from the root: the symbol, and the argument's number from 0
pub data Place : Type 0 where
  root : Place
  step : Place → ℕ → ℕ → Place

pub data Key : Type 0 where
  key : Place → ℕ → Key

unfoldable mutual
  pub size : Tm → ℕ
  size (node x us) = suc (sizes us)

  pub sizes : Args → ℕ
  sizes nil = 0
  sizes (cons t us) = size t + sizes us

-- the keys of the term that stands at a place, one for each item, in the items' order
unfoldable mutual
  pub keys_t : Place → Tm → List Key
  keys_t P (node x us) = key P (end_of x) ∷ keys_a P (end_of x) 0 us

  pub keys_a : Place → ℕ → ℕ → Args → List Key
  keys_a P e i nil = []
  keys_a P e i (cons t us) = keys_t (step P e i) t ++ keys_a P e (suc i) us

mutual
  unfolding keys_t size

  pub keys_length : (P : Place) (t : Tm) → length (keys_t P t) ≡ size t
  keys_length P (node x us) = ap suc (keys_a_length P (end_of x) 0 us)

  pub keys_a_length : (P : Place) (e i : ℕ) (us : Args) → length (keys_a P e i us) ≡ sizes us
  keys_a_length P e i nil = refl
  keys_a_length P e i (cons t us) = rw (length-append, keys_length (step P e i) t, keys_a_length P e (suc i) us)

-- Q goes on from P
data Under (P : Place) : Place → Type 0 where
  here : Under P P
  more : {Q : Place} {e i : ℕ} → Under P Q → Under P (step Q e i)

deep : Place → ℕ
deep root = 0
deep (step P e i) = suc (deep P)

under_deep : (P Q : Place) → Under P Q → deep P ≤ deep Q
unfolding deep
under_deep P Q here = omega arith
under_deep P Q (more {Q = R} u) = omega (arith, under_deep P R u)

under_trans : (P Q R : Place) → Under P Q → Under Q R → Under P R
under_trans P Q R u here = u
under_trans P Q R u (more {Q = S} v) = more (under_trans P Q S u v)

under_same : (P P' Q : Place) → Under P Q → Under P' Q → deep P ≡ deep P' → P ≡ P'
unfolding deep
under_same P P' Q here here d = refl
under_same P P' Q here (more {Q = R} v) d = absurd (omega (arith, under_deep P' R v))
under_same P P' Q (more {Q = R} u) here d = absurd (omega (arith, under_deep P R u))
under_same P P' Q (more {Q = R} u) (more v) d = under_same P P' R u v d

abbrev place : Key → Place
place (key P e) = P

mutual
  unfolding keys_t

  keys_under : (P : Place) (t : Tm) (K : Key) → In K (keys_t P t) → Under P (place K)
  keys_under P (node x us) K (inl e) = rw e here
  keys_under P (node x us) K (inr h) = let r = keys_a_under P (end_of x) 0 us K h in under_trans P _ _ (more here) r.2

  keys_a_under : (P : Place) (e i : ℕ) (us : Args) (K : Key) → In K (keys_a P e i us) → (j : ℕ) × (i ≤ j) × Under (step P e j) (place K)
  keys_a_under P e i nil K h = absurd h
  keys_a_under P e i (cons t us) K h = go (λ z. keys_under (step P e i) t K z) (λ z. keys_a_under P e (suc i) us K z) (in_append K (keys_t (step P e i) t) (keys_a P e (suc i) us) h)
    where
      go : (In K (keys_t (step P e i) t) → Under (step P e i) (place K)) → (In K (keys_a P e (suc i) us) → (j : ℕ) × (suc i ≤ j) × Under (step P e j) (place K))
          → In K (keys_t (step P e i) t) ⊎ In K (keys_a P e (suc i) us) → (j : ℕ) × (i ≤ j) × Under (step P e j) (place K)
      go a b (inl h) = (i, omega arith, a h)
      go a b (inr h) = let r = b h in (r.0, omega arith, r.2)

step_number : (P : Place) (e i j : ℕ) → step P e i ≡ step P e j → i ≡ j
step_number P e i j h = cc

-- all keys of a term are different
mutual
  unfolding keys_t deep

  pub keys_nodup : (P : Place) (t : Tm) → NoDup (keys_t P t)
  keys_nodup P (node x us) = ((λ h. let r = keys_a_under P (end_of x) 0 us (key P (end_of x)) h in let d = under_deep _ _ r.2 in omega arith), keys_a_nodup P (end_of x) 0 us)

  pub keys_a_nodup : (P : Place) (e i : ℕ) (us : Args) → NoDup (keys_a P e i us)
  keys_a_nodup P e i nil = tt
  keys_a_nodup P e i (cons t us) = nodup_append (keys_t (step P e i) t) (keys_a P e (suc i) us) (keys_nodup (step P e i) t) (keys_a_nodup P e (suc i) us)
      (λ K a b. let r = keys_a_under P e (suc i) us K b in
      let z = step_number P e i r.0 (under_same (step P e i) (step P e r.0) (place K) (keys_under (step P e i) t K a) r.2 refl) in omega (arith, r.1))

-- the term at a place of a term
unfoldable pub nth : ℕ → Args → Option Tm
nth i nil = none
nth zero (cons t us) = some t
nth (suc i) (cons t us) = nth i us

unfoldable pub down : ℕ → ℕ → Option Tm → Option Tm
down e i none = none
down e i (some (node x us)) = pick (eqb (end_of x) e) (nth i us) none

unfoldable pub sub_at : Place → Tm → Option Tm
sub_at root t = some t
sub_at (step P e i) t = down e i (sub_at P t)

unfoldable pub top_of : Option Tm → Option ℕ
top_of none = none
top_of (some (node x us)) = some (end_of x)

-- a term has the key (P, e) when e stands at P
unfoldable pub HasKey : Tm → Key → Type 0
HasKey t (key P e) = top_of (sub_at P t) ≡ some e

eqb_same : (n : ℕ) → eqb n n ≡ true
eqb_same n = eq-eqb n n refl

pub down_some : (e i x : ℕ) (us : Args) → end_of x ≡ e → down e i (some (node x us)) ≡ nth i us
unfolding down
down_some e i x us h = rw (eq-eqb (end_of x) e h)

-- what is in the list of keys stands in the term
mutual
  unfolding keys_t HasKey sub_at top_of nth

  keys_t_has : (t : Tm) (P : Place) (u : Tm) (K : Key) → sub_at P t ≡ some u → In K (keys_t P u) → HasKey t K
  keys_t_has t P (node x us) K s (inl e) = rw e (rw s)
  keys_t_has t P (node x us) K s (inr h) = keys_a_has t P x us 0 us K s (λ j. ap (λ (m : ℕ). nth m us) (omega arith)) h

  keys_a_has : (t : Tm) (P : Place) (x : ℕ) (all : Args) (i : ℕ) (us : Args) (K : Key) → sub_at P t ≡ some (node x all) → ((j : ℕ) → nth (i + j) all ≡ nth j us)
      → In K (keys_a P (end_of x) i us) → HasKey t K
  keys_a_has t P x all i nil K s n h = absurd h
  keys_a_has t P x all i (cons u us) K s n h = ⊎_elim
      (λ a. keys_t_has t (step P (end_of x) i) u K (ap (down (end_of x) i) s ∙ down_some (end_of x) i x all refl ∙ (rw add-zero at (n 0))) a)
      (λ a. keys_a_has t P x all (suc i) us K s (λ j. let z : suc i + j ≡ i + suc j = omega arith in rw z (n (suc j))) a)
      (in_append K (keys_t (step P (end_of x) i) u) (keys_a P (end_of x) (suc i) us) h)

pub in_has : (t : Tm) (K : Key) → In K (keys_t root t) → HasKey t K
unfolding sub_at
in_has t K h = keys_t_has t root t K refl h

-- and the other way round
nth_in : (P : Place) (e i j : ℕ) (us : Args) (u : Tm) (K : Key) → nth i us ≡ some u → In K (keys_t (step P e (j + i)) u) → In K (keys_a P e j us)
unfolding nth keys_a
nth_in P e i j nil u K s h = let z : ◌≡◌ {A = ℕ} 0 1 = cc in absurd (omega arith)
nth_in P e zero j (cons t us) u K s h = let z : t ≡ u = cc in in_left K (keys_t (step P e j) t) (keys_a P e (suc j) us) (rw (z, ← add-zero j) h)
nth_in P e (suc i) j (cons t us) u K s h = let z : j + suc i ≡ suc j + i = omega arith in
    in_right K (keys_t (step P e j) t) (keys_a P e (suc j) us) (nth_in P e i (suc j) us u K s (rw z at h))

sub_in : (t : Tm) (Q : Place) (u : Tm) (K : Key) → sub_at Q t ≡ some u → In K (keys_t Q u) → In K (keys_t root t)
unfolding sub_at down keys_t
sub_in t root u K s h = let z : t ≡ u = cc in rw z h
sub_in t (step P f i) u K s h = go (sub_at P t) refl s (λ v q. sub_in t P v K q)
  where
    go : (o : Option Tm) → sub_at P t ≡ o → down f i o ≡ some u → ((v : Tm) → sub_at P t ≡ some v → In K (keys_t P v) → In K (keys_t root t)) → In K (keys_t root t)
    go none e d r = let z : ◌≡◌ {A = ℕ} 0 1 = cc in absurd (omega arith)
    go (some (node x us)) e d r = r (node x us) e (fit (eqb (end_of x) f) refl d)
      where
        fit : (b : Bool) → eqb (end_of x) f ≡ b → pick b (nth i us) none ≡ some u → In K (keys_t P (node x us))
        fit false q d = let z : ◌≡◌ {A = ℕ} 0 1 = cc in absurd (omega arith)
        fit true q d = let y : f ≡ end_of x = sym (eqb-true _ _ q) in let n : 0 + i ≡ i = omega arith in inr (nth_in P (end_of x) i 0 us u K d (rw (n, ← y) h))

pub has_in : (t : Tm) (K : Key) → HasKey t K → In K (keys_t root t)
unfolding HasKey top_of keys_t
has_in t (key P e) h = go (sub_at P t) refl h
  where
    go : (o : Option Tm) → sub_at P t ≡ o → top_of o ≡ some e → In (key P e) (keys_t root t)
    go none q d = let z : ◌≡◌ {A = ℕ} 0 1 = cc in absurd (omega arith)
    go (some (node x us)) q d = sub_in t P (node x us) (key P e) q (inl (let z : end_of x ≡ e = cc in rw z))

-- keys are closed: where there is one, there is its parent
pub has_parent : (t : Tm) (P : Place) (e i f : ℕ) → HasKey t (key (step P e i) f) → HasKey t (key P e)
unfolding HasKey sub_at down top_of
has_parent t P e i f h = go (sub_at P t) h
  where
    go : (o : Option Tm) → top_of (down e i o) ≡ some f → top_of o ≡ some e
    go none h = let z : ◌≡◌ {A = ℕ} 0 1 = cc in absurd (omega arith)
    go (some (node x us)) h = fit (eqb (end_of x) e) refl h
      where
        fit : (b : Bool) → eqb (end_of x) e ≡ b → top_of (pick b (nth i us) none) ≡ some f → some (end_of x) ≡ some e
        fit false q d = let z : ◌≡◌ {A = ℕ} 0 1 = cc in absurd (omega arith)
        fit true q d = let z : end_of x ≡ e = eqb-true _ _ q in rw z
