-- Serves SCOPE.md, 'The solver's record': unification on flat terms: bindings, the substitution that they make, and
-- the steps.
use Rattle.std.specs.Prelude.{◌≡◌, refl, ◌⊎◌, ◌≢◌, List, [], ◌∷◌, ℕ, ◌<◌, length}
use Rattle.std.proofs.Common.{sym, ap, ◌∙◌, inl, inr, append-nil}
use Rattle.std.proofs.Math.Decide.{ℕ_discrete}
use Rattle.theory.specs.Flat.{Item, Terms}
use Rattle.theory.specs.Subst.{vars, app, app_vars, app_app, Occurs, app_agree, Sub, app_terms, occurs}

abbrev pub pick_decided : {A B : Type 0} → Dec A → B → B → B
pick_decided (yes a) u v = u
pick_decided (no f) u v = v

-- x becomes u, every other variable stays
unfoldable pub one : ℕ → List Item → ℕ → List Item
one x u y = pick_decided (ℕ_discrete x y) u (vars y)

pub one_same : (x : ℕ) (u : List Item) → one x u x ≡ u
unfolding one
one_same x u = go (ℕ_discrete x x)
  where
    go : (d : Dec (x ≡ x)) → pick_decided d u (vars x) ≡ u
    go (yes e) = refl
    go (no f) = absurd (f refl)

pub one_other : (x : ℕ) (u : List Item) (y : ℕ) → x ≢ y → one x u y ≡ vars y
unfolding one
one_other x u y h = go (ℕ_discrete x y)
  where
    go : (d : Dec (x ≡ y)) → pick_decided d u (vars y) ≡ vars y
    go (yes e) = absurd (h e)
    go (no f) = refl

-- what does not mention x stays
pub app_one_free : (x : ℕ) (u l : List Item) → ¬ Occurs x l → app (one x u) l ≡ l
app_one_free x u l h = app_agree (one x u) vars l (λ y i. one_other x u y (λ e. h (rw e i))) ∙ app_vars l

infix 20 ◌:=◌
pub data Bind : Type 0 where
  ◌:=◌ : ℕ → List Item → Bind

-- the substitution that bindings make, the newest first: each is carried through all values made before
abbrev pub full : List Bind → ℕ → List Item
full [] y = vars y
full ((x := t) ∷ B) y = app (one x (app (full B) t)) (full B y)

-- σ makes both sides of each binding the same
abbrev pub Solves : (ℕ → List Item) → List Bind → Type 0
Solves σ [] = Unit {0}
Solves σ ((x := t) ∷ B) = (σ x ≡ app σ t) × Solves σ B

-- a variable with no binding stays
abbrev pub Unbound : ℕ → List Bind → Type 0
Unbound y [] = Unit {0}
Unbound y ((x := t) ∷ B) = (x ≢ y) × Unbound y B

pub unbound : (y : ℕ) (B : List Bind) → Unbound y B → full B y ≡ vars y
unbound y [] u = refl
unbound y ((x := t) ∷ B) u = rw (unbound y B u.1) (append-nil _ ∙ one_other x (app (full B) t) y u.0)

-- each binding was made of a variable with no value, that does not stand in its value
abbrev pub GoodBindings : List Bind → Type 0
GoodBindings [] = Unit {0}
GoodBindings ((x := t) ∷ B) = Unbound x B × (¬ Occurs x (app (full B) t)) × GoodBindings B

-- A. σ after the bindings is σ
-- one binding more: if σ after θ is σ, and σ x is app σ t, then σ after (x := θ t) after θ is σ
absorbs_step : (σ θ : ℕ → List Item) (x : ℕ) (t : List Item) → ((z : ℕ) → app σ (θ z) ≡ σ z) → σ x ≡ app σ t
    → (y : ℕ) → app σ (app (one x (app θ t)) (θ y)) ≡ σ y
absorbs_step σ θ x t ih s y = app_app σ (one x (app θ t)) (θ y) ∙ app_agree (λ z. app σ (one x (app θ t) z)) σ (θ y) (λ z i. at z (ℕ_discrete x z)) ∙ ih y
  where
    θt : app σ (app θ t) ≡ σ x
    θt = app_app σ θ t ∙ app_agree (λ z. app σ (θ z)) σ t (λ z i. ih z) ∙ sym s

    at : (z : ℕ) → Dec (x ≡ z) → app σ (one x (app θ t) z) ≡ σ z
    at z (yes e) = rw (← e, one_same) θt
    at z (no f) = rw (one_other x (app θ t) z f) (append-nil (σ z))

pub absorbs : (σ : ℕ → List Item) (B : List Bind) → Solves σ B → (y : ℕ) → app σ (full B y) ≡ σ y
absorbs σ [] s y = append-nil (σ y)
absorbs σ ((x := t) ∷ B) s y = absorbs_step σ (full B) x t (absorbs σ B s.1) s.0 y

pub absorbs_app : (σ : ℕ → List Item) (B : List Bind) → Solves σ B → (l : List Item) → app σ (app (full B) l) ≡ app σ l
absorbs_app σ B s l = app_app σ (full B) l ∙ app_agree (λ z. app σ (full B z)) σ l (λ z i. absorbs σ B s z)

-- B. the bindings' substitution solves them
-- what solves them does so after any other
solves_after : (ρ θ : ℕ → List Item) (B : List Bind) → Solves θ B → Solves (λ y. app ρ (θ y)) B
solves_after ρ θ [] s = tt
solves_after ρ θ ((x := t) ∷ B) s = (ap (app ρ) s.0 ∙ app_app ρ θ t, solves_after ρ θ B s.1)

pub solved : (B : List Bind) → GoodBindings B → Solves (full B) B
solved [] g = tt
solved ((x := t) ∷ B) g = (here, solves_after (one x (app (full B) t)) (full B) B (solved B g.2))
  where
    here : app (one x (app (full B) t)) (full B x) ≡ app (full ((x := t) ∷ B)) t
    here = rw (unbound x B g.0) (append-nil _ ∙ one_same x (app (full B) t) ∙ sym (app_one_free x (app (full B) t) (app (full B) t) g.1) ∙ app_app (one x (app (full B) t)) (full B) t)

-- C. idempotent
pub idempotent : (B : List Bind) → GoodBindings B → (y : ℕ) → app (full B) (full B y) ≡ full B y
idempotent B g = absorbs (full B) B (solved B g)

-- a binding of B
abbrev pub Has : ℕ → List Item → List Bind → Type 0
Has x t [] = ⊥
Has x t ((y := u) ∷ B) = ((x ≡ y) × (t ≡ u)) ⊎ Has x t B

pub solves_has : (σ : ℕ → List Item) (x : ℕ) (t : List Item) (B : List Bind) → Has x t B → Solves σ B → σ x ≡ app σ t
solves_has σ x t [] h s = absurd h
solves_has σ x t ((y := u) ∷ B) (inl p) s = rw (p.0, p.1) s.0
solves_has σ x t ((y := u) ∷ B) (inr h) s = solves_has σ x t B h s.1

-- no variable is both free and bound
pub not_both : (y : ℕ) (u : List Item) (B : List Bind) → Unbound y B → Has y u B → ⊥
not_both y u [] n h = h
not_both y u ((x := t) ∷ B) n (inl p) = n.0 (sym p.0)
not_both y u ((x := t) ∷ B) n (inr h) = not_both y u B n.1 h

module _ (ar : ℕ → ℕ) where
  pub one_sub : (x : ℕ) (u : List Item) → Terms ar 1 u → Sub ar (one x u)
  one_sub x u h y = go (ℕ_discrete x y)
    where
      go : Dec (x ≡ y) → Terms ar 1 (one x u y)
      go (yes e) = rw (← e, one_same) h
      go (no f) = rw (one_other x u y f) tt

  abbrev pub Values : List Bind → Type 0
  Values [] = Unit {0}
  Values ((x := t) ∷ B) = Terms ar 1 t × Values B

  pub full_sub : (B : List Bind) → Values B → Sub ar (full B)
  full_sub [] v y = tt
  full_sub ((x := t) ∷ B) v y = app_terms ar (one x (app (full B) t)) (one_sub x (app (full B) t) (app_terms ar (full B) (full_sub B v.1) 1 t v.0)) 1 (full B y) (full_sub B v.1 y)

  module _ (σ : ℕ → List Item) (w : Sub ar σ) where
    -- x stands in the value of t under the bindings, and that is not x itself
    pub circular : (B : List Bind) → Solves σ B → (x : ℕ) (t : List Item) → Occurs x (app (full B) t) → 1 < length (app (full B) t) → σ x ≡ app σ t → ⊥
    circular B s x t i b e = occurs ar σ w x (app (full B) t) i b (rw (absorbs_app σ B s t) e)
