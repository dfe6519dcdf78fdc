-- SCOPE.md, 'The solver's record', and demand 3: most general unifiers; two that take the smallest variable are equal.
use Rattle.std.specs.Prelude.{◌≡◌, refl, ◌⊎◌, List, [], ◌∷◌, ℕ, ◌≤◌}
use Rattle.std.proofs.Common.{sym, ap, ◌∙◌, inl, inr, append-nil, arith}
use Rattle.std.proofs.Math.Decide.{ℕ_discrete}
use Rattle.theory.specs.Flat.{Item, sy, va, Terms, readable}
use Rattle.theory.specs.Subst.{vars, app, app_vars, app_app, Occurs, app_agree, Sub}
use Rattle.theory.specs.Unify.{one, one_same, one_other}

-- a value that is a variable is no larger one
abbrev pub Least : (ℕ → List Item) → Type 0
Least θ = (x y : ℕ) → θ x ≡ vars y → y ≤ x

module _ (ar : ℕ → ℕ) where
  -- θ makes s and t the same, and every substitution that does so is the same after θ
  pub record Mgu (s t : List Item) (θ : ℕ → List Item) : Type 0 where
    pub sub : Sub ar θ
    pub unifies : app θ s ≡ app θ t
    pub general : (σ : ℕ → List Item) → Sub ar σ → app σ s ≡ app σ t → (x : ℕ) → app σ (θ x) ≡ σ x

  -- where σ leaves l as it is, it leaves each variable of l
  pub fixed : (σ : ℕ → List Item) → Sub ar σ → (l : List Item) → app σ l ≡ l → (x : ℕ) → Occurs x l → σ x ≡ vars x
  fixed σ w [] e x i = absurd i
  fixed σ w (sy s ∷ l) e x i = fixed σ w l (cc) x i
  fixed σ w (va y ∷ l) e x i =
      let h = readable ar 1 (σ y) (vars y) (app σ l) l (w y) tt e in
      go h.0 (fixed σ w l h.1 x) i
    where
      go : σ y ≡ vars y → (Occurs x l → σ x ≡ vars x) → (x ≡ y) ⊎ Occurs x l → σ x ≡ vars x
      go a f (inl p) = rw p a
      go a f (inr j) = f j

  -- only a variable becomes a variable
  pub var_of_var : (σ : ℕ → List Item) (l : List Item) (z : ℕ) → Terms ar 1 l → app σ l ≡ vars z → (y : ℕ) × (l ≡ vars y)
  var_of_var σ [] z t e = absurd t
  var_of_var σ (sy s ∷ l) z t e = let c : ◌≡◌ {A = ℕ} 0 1 = cc in absurd (omega arith)
  var_of_var σ (va y ∷ []) z t e = (y, refl)
  var_of_var σ (va y ∷ i ∷ l) z t e = absurd t

  pub unique : (s t : List Item) (θ η : ℕ → List Item) → Mgu s t θ → Mgu s t η → Least θ → Least η → (x : ℕ) → θ x ≡ η x
  unique s t θ η p q a b x =
      sym (q.general θ p.sub p.unifies x)
      ∙ app_agree θ vars (η x) (λ z i. stays z (fixed η q.sub (η x) (q.general η q.sub q.unifies x) z i))
      ∙ app_vars (η x)
    where
      stays : (z : ℕ) → η z ≡ vars z → θ z ≡ vars z
      stays z e =
          let h = p.general η q.sub q.unifies z in
          let v = var_of_var η (θ z) z (p.sub z) (h ∙ e) in
          let k : η v.0 ≡ vars z = sym (append-nil _) ∙ ap (app η) (sym v.1) ∙ h ∙ e in
          let u : v.0 ≡ z = omega (arith, a z v.0 v.1, b v.0 z k) in
          v.1 ∙ ap vars u

  -- Least is kept by each binding: of two variables the larger is bound, to the smaller
  pub least_step : (θ : ℕ → List Item) → Sub ar θ → (x : ℕ) (u : List Item) → Terms ar 1 u → ((y : ℕ) → u ≡ vars y → y ≤ x) → Least θ → Least (λ z. app (one x u) (θ z))
  least_step θ w x u h c a z y e =
      let v = var_of_var (one x u) (θ z) y (w z) e in
      let k : one x u v.0 ≡ vars y = sym (append-nil _) ∙ ap (app (one x u)) (sym v.1) ∙ e in
      go v.0 (a z v.0 v.1) k (ℕ_discrete x v.0)
    where
      go : (n : ℕ) → n ≤ z → one x u n ≡ vars y → Dec (x ≡ n) → y ≤ z
      go n b k (yes p) = omega (arith, c y (sym (one_same x u) ∙ ap (one x u) p ∙ k))
      go n b k (no f) = let q : n ≡ y = cc (one_other x u n f) in omega arith

  -- the three properties as textbooks have them: the same terms, any other unifier factors, applied twice it is itself
  pub record Most (s t : List Item) (θ : ℕ → List Item) : Type 0 where
    pub sub : Sub ar θ
    pub unifies : app θ s ≡ app θ t
    pub factors : (σ : ℕ → List Item) → Sub ar σ → app σ s ≡ app σ t → (ρ : ℕ → List Item) × Sub ar ρ
        × ((x : ℕ) → σ x ≡ app ρ (θ x))
    pub idempotent : (x : ℕ) → app θ (θ x) ≡ θ x

  -- they say the same
  pub mgu_most : (s t : List Item) (θ : ℕ → List Item) → Mgu s t θ → Most s t θ
  mgu_most s t θ p = record { sub = p.sub; unifies = p.unifies; factors = λ σ w e. (σ, w, λ x. sym (p.general σ w e x)); idempotent = p.general θ p.sub p.unifies }

  pub most_mgu : (s t : List Item) (θ : ℕ → List Item) → Most s t θ → Mgu s t θ
  most_mgu s t θ p = record { sub = p.sub; unifies = p.unifies; general = λ σ w e x. go σ (p.factors σ w e) x }
    where
      go : (σ : ℕ → List Item) → ((ρ : ℕ → List Item) × Sub ar ρ × ((x : ℕ) → σ x ≡ app ρ (θ x))) → (x : ℕ) → app σ (θ x) ≡ σ x
      go σ f x = app_agree σ (λ y. app f.0 (θ y)) (θ x) (λ y i. f.2 y) ∙ sym (app_app f.0 θ (θ x)) ∙ ap (app f.0) (p.idempotent x) ∙ sym (f.2 x)

  -- substitutions with the same values have the same properties
  pub most_same : (s t : List Item) (θ η : ℕ → List Item) → ((x : ℕ) → θ x ≡ η x) → Most s t θ → Most s t η
  most_same s t θ η h p = record {
    sub = λ x. rw (← h x) (p.sub x);
    unifies = app_agree η θ s (λ x i. sym (h x)) ∙ p.unifies ∙ app_agree θ η t (λ x i. h x);
    factors = λ σ w e. (let f = p.factors σ w e in (f.0, f.1, λ x. f.2 x ∙ ap (app f.0) (h x)));
    idempotent = λ x. app_agree η θ (η x) (λ y i. sym (h y)) ∙ ap (app θ) (sym (h x)) ∙ p.idempotent x ∙ h x;
  }
