-- Serves SCOPE.md, 'The solver's record': a most general unifier brings in nothing. A variable of neither term stands
-- in no other value (`absent`), and keeps itself as its value where the smallest variables are taken (`stays`,
-- `changed_occurs`); a change of items that keeps terms terms and leaves variables and both terms alone leaves every
-- value alone (`kept`).
use Rattle.std.specs.Prelude.{◌≡◌, ◌⊎◌, ◌≢◌, List, [], ◌∷◌, map, ℕ, suc}
use Rattle.std.proofs.Math.Path.{refl}
use Rattle.std.proofs.Common.{sym, ap, ◌∙◌, inl, inr, append-nil, arith}
use Rattle.std.proofs.lemmas.List.{map-append}
use Rattle.std.proofs.Math.Decide.{ℕ_discrete}
use Rattle.theory.specs.Flat.{Item, sy, va, Terms}
use Rattle.theory.specs.Subst.{vars, app, app_vars, app_agree, Occurs, in?, Sub}
use Rattle.theory.specs.Unify.{pick_decided}
use Rattle.theory.specs.Canon.{Least, Mgu, fixed, var_of_var}

module _ (ar : ℕ → ℕ) (s t : List Item) (θ : ℕ → List Item) (m : Mgu ar s t θ) where
  -- θ with another value for z
  unfoldable other : ℕ → List Item → ℕ → List Item
  other z u y = pick_decided (ℕ_discrete z y) u (θ y)

  other_same : (z : ℕ) (u : List Item) → other z u z ≡ u
  unfolding other
  other_same z u = go (ℕ_discrete z z)
    where
      go : (d : Dec (z ≡ z)) → pick_decided d u (θ z) ≡ u
      go (yes e) = refl
      go (no n) = absurd (n refl)

  other_else : (z : ℕ) (u : List Item) (y : ℕ) → z ≢ y → other z u y ≡ θ y
  unfolding other
  other_else z u y n = go (ℕ_discrete z y)
    where
      go : (d : Dec (z ≡ y)) → pick_decided d u (θ y) ≡ θ y
      go (yes e) = absurd (n e)
      go (no f) = refl

  other_sub : (z : ℕ) (u : List Item) → Terms ar 1 u → Sub ar (other z u)
  unfolding other
  other_sub z u p y = go (ℕ_discrete z y)
    where
      go : (d : Dec (z ≡ y)) → Terms ar 1 (pick_decided d u (θ y))
      go (yes e) = p
      go (no n) = m.sub y

  module _ (z : ℕ) (ns : ¬ Occurs z s) (nt : ¬ Occurs z t) where
    agrees : (u l : List Item) → ¬ Occurs z l → app (other z u) l ≡ app θ l
    agrees u l n = app_agree (other z u) θ l (λ y i. other_else z u y (λ e. n (rw e i)))

    other_unifies : (u : List Item) → app (other z u) s ≡ app (other z u) t
    other_unifies u = agrees u s ns ∙ m.unifies ∙ sym (agrees u t nt)

    -- a variable of neither term keeps itself as its value
    pub stays : Least θ → θ z ≡ vars z
    stays a = go (ℕ_discrete z v.0)
      where
        h : app (other z (vars z)) (θ z) ≡ vars z
        h = m.general (other z (vars z)) (other_sub z (vars z) tt) (other_unifies (vars z)) z ∙ other_same z (vars z)

        v : (w : ℕ) × (θ z ≡ vars w)
        v = var_of_var ar (other z (vars z)) (θ z) z (m.sub z) h

        go : Dec (z ≡ v.0) → θ z ≡ vars z
        go (yes e) = v.1 ∙ ap vars (sym e)
        go (no n) =
            let k : θ v.0 ≡ vars z = sym (other_else z (vars z) v.0 n) ∙ sym (append-nil _) ∙ ap (app (other z (vars z))) (sym v.1) ∙ h in
            absurd (n (omega (arith, a z v.0 v.1, a v.0 z k)))

    -- and stands in no other value
    pub absent : (x : ℕ) → x ≢ z → ¬ Occurs z (θ x)
    absent x n i =
        let e = m.general (other z (vars (suc z))) (other_sub z (vars (suc z)) tt) (other_unifies (vars (suc z))) x in
        let f = fixed ar (other z (vars (suc z))) (other_sub z (vars (suc z)) tt) (θ x) (e ∙ other_else z (vars (suc z)) x (λ p. n (sym p))) z i in
        let g : vars (suc z) ≡ vars z = sym (other_same z (vars (suc z))) ∙ f in
        let c : suc z ≡ z = cc in omega arith

  -- the variables that change occur in one of the terms
  pub changed_occurs : Least θ → (x : ℕ) → θ x ≢ vars x → Occurs x s ⊎ Occurs x t
  changed_occurs a x n = go (in? x s) (in? x t)
    where
      go : Dec (Occurs x s) → Dec (Occurs x t) → Occurs x s ⊎ Occurs x t
      go (yes i) d = inl i
      go (no i) (yes j) = inr j
      go (no i) (no j) = absurd (n (stays x i j a))

  -- a change of items that leaves variables and both terms alone leaves every value alone: with h a map of the
  -- undeclared symbols to others of arity 0, no value has any of them
  module _ (h : Item → Item) (hv : (x : ℕ) → h (va x) ≡ va x) (ht : (k : ℕ) (l : List Item) → Terms ar k l → Terms ar k (map h l)) where
    mapped : (l : List Item) → map h l ≡ l → app (λ x. map h (θ x)) l ≡ map h (app θ l)
    mapped [] e = refl
    mapped (sy f ∷ l) e = let a : h (sy f) ≡ sy f = cc in let b : map h l ≡ l = cc in rw (a, mapped l b)
    mapped (va x ∷ l) e = let b : map h l ≡ l = cc in rw (mapped l b) (sym (map-append h (θ x) (app θ l)))

    pub kept : map h s ≡ s → map h t ≡ t → (x : ℕ) → map h (θ x) ≡ θ x
    kept a b x = sym (m.general (λ y. map h (θ y)) (λ y. ht 1 (θ y) (m.sub y)) (mapped s a ∙ ap (map h) m.unifies ∙ sym (mapped t b)) x)
        ∙ app_agree (λ y. map h (θ y)) vars (θ x) (λ z i. ap (map h) (fixed ar θ m.sub (θ x) (m.general θ m.sub m.unifies x) z i) ∙ rw (hv z)) ∙ app_vars (θ x)
