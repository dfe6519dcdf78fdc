-- Robinson's method (SCOPE.md, 'The solver's record'): the invariant of its state, kept by each step, and what holds
-- at each end.
use Rattle.std.specs.Prelude.{◌≡◌, refl, ◌≢◌, ◌↔◌, List, [], ◌∷◌, ◌++◌, ℕ, suc, ◌+◌, ◌≤◌, length}
use Rattle.std.proofs.Common.{sym, ◌∙◌, arith}
use Rattle.std.proofs.lemmas.List.{append_cancel_left}
use Rattle.theory.specs.Flat.{Item, sy, va, Terms, terms_append, readable}
use Rattle.theory.specs.Subst.{vars, app, app_append, Occurs, Sub, app_terms}
use Rattle.theory.specs.Unify.{Bind, ◌:=◌, full, Solves, GoodBindings, Unbound, Values, full_sub, solved, absorbs}
use Rattle.theory.specs.Unify.{circular, Has, solves_has}
use Rattle.theory.specs.Canon.{Least, Mgu, least_step}

module _ (ar : ℕ → ℕ) (σ : ℕ → List Item) (w : Sub ar σ) where
  decompose : (f : ℕ) (l m : List Item) → (app σ (sy f ∷ l) ≡ app σ (sy f ∷ m)) ↔ (app σ l ≡ app σ m)
  decompose f l m = ((λ e. cc), (λ e. cc))

  clash : (f g : ℕ) (l m : List Item) → f ≢ g → app σ (sy f ∷ l) ≡ app σ (sy g ∷ m) → ⊥
  clash f g l m h e = h (cc)

  same_var : (x : ℕ) (l m : List Item) → (app σ (va x ∷ l) ≡ app σ (va x ∷ m)) ↔ (app σ l ≡ app σ m)
  same_var x l m = ((λ e. append_cancel_left (σ x) (app σ l) (app σ m) e), (λ e. cc))

  -- a variable with a binding is replaced by its value
  follow : (x : ℕ) (t l : List Item) → σ x ≡ app σ t → app σ (va x ∷ l) ≡ app σ (t ++ l)
  follow x t l e = rw (app_append, e)

  bind : (x : ℕ) (t l m : List Item) → Terms ar 1 t → (app σ (va x ∷ l) ≡ app σ (t ++ m)) ↔ ((σ x ≡ app σ t) × (app σ l ≡ app σ m))
  bind x t l m h = (
    (λ e. readable ar 1 (σ x) (app σ t) (app σ l) (app σ m) (w x) (app_terms ar σ w 1 t h) (rw app_append at e)),
    (λ p. rw (app_append, p.0, p.1)),
  )

module _ (ar : ℕ → ℕ) where
  -- B the bindings made so far; l and m, k terms each, are still to be made the same
  pub record RobinsonInv (s t : List Item) (B : List Bind) (k : ℕ) (l m : List Item) : Type 0 where
    pub good : GoodBindings B
    pub values : Values ar B
    pub least : Least (full B)
    pub left : Terms ar k l
    pub right : Terms ar k m
    pub same : (σ : ℕ → List Item) → Sub ar σ → (app σ s ≡ app σ t) ↔ (Solves σ B × (app σ l ≡ app σ m))

  pub start : (s t : List Item) → Terms ar 1 s → Terms ar 1 t → RobinsonInv s t [] 1 s t
  start s t p q = record {
    good = tt;
    values = tt;
    least = λ x y e. (let h : x ≡ y = cc in omega arith);
    left = p;
    right = q;
    same = λ σ w. ((λ e. (tt, e)), (λ h. h.1));
  }

  module _ (s t : List Item) (B : List Bind) where
    -- the pending pair is replaced by one that the same solvers make equal
    turn : (k j : ℕ) (l m l' m' : List Item) → RobinsonInv s t B k l m → Terms ar j l' → Terms ar j m'
        → ((σ : ℕ → List Item) → Sub ar σ → Solves σ B → (app σ l ≡ app σ m) ↔ (app σ l' ≡ app σ m')) → RobinsonInv s t B j l' m'
    turn k j l m l' m' v p q h = record {
      good = v.good;
      values = v.values;
      least = v.least;
      left = p;
      right = q;
      same = λ σ w. (
        (λ e. let d = (v.same σ w).0 e in (d.0, (h σ w d.0).0 d.1)),
        (λ d. (v.same σ w).1 (d.0, (h σ w d.0).1 d.1)),
      );
    }

    pub step_symbol : (k f : ℕ) (l m : List Item) → RobinsonInv s t B (suc k) (sy f ∷ l) (sy f ∷ m) → RobinsonInv s t B (ar f + k) l m
    step_symbol k f l m v = turn (suc k) (ar f + k) (sy f ∷ l) (sy f ∷ m) l m v v.left v.right (λ σ w z. decompose ar σ w f l m)

    pub step_same : (k x : ℕ) (l m : List Item) → RobinsonInv s t B (suc k) (va x ∷ l) (va x ∷ m) → RobinsonInv s t B k l m
    step_same k x l m v = turn (suc k) k (va x ∷ l) (va x ∷ m) l m v v.left v.right (λ σ w z. same_var ar σ w x l m)

    pub step_swap : (k : ℕ) (l m : List Item) → RobinsonInv s t B k l m → RobinsonInv s t B k m l
    step_swap k l m v = turn k k l m m l v v.right v.left (λ σ w z. ((λ e. sym e), (λ e. sym e)))

    pub step_follow : (k x : ℕ) (u l m : List Item) → Has x u B → Terms ar 1 u → RobinsonInv s t B (suc k) (va x ∷ l) m → RobinsonInv s t B (suc k) (u ++ l) m
    step_follow k x u l m h p v = turn (suc k) (suc k) (va x ∷ l) m (u ++ l) m v
        (let e : 1 + k ≡ suc k = omega arith in rw e at (terms_append ar 1 k u l p v.left)) v.right
        (λ σ w z. let e = follow ar σ w x u l (solves_has σ x u B h z) in ((λ d. sym e ∙ d), (λ d. e ∙ d)))

    pub step_bind : (k x : ℕ) (u l m : List Item) → Terms ar 1 u → Terms ar k m → Unbound x B → ¬ Occurs x (app (full B) u)
        → ((y : ℕ) → app (full B) u ≡ vars y → y ≤ x) → RobinsonInv s t B (suc k) (va x ∷ l) (u ++ m) → RobinsonInv s t ((x := u) ∷ B) k l m
    step_bind k x u l m p q a n c v = record {
      good = (a, n, v.good);
      values = (p, v.values);
      least = least_step ar (full B) w₀ x (app (full B) u) (app_terms ar (full B) w₀ 1 u p) c v.least;
      left = v.left;
      right = q;
      same = λ σ w. (
        (λ e. let d = (v.same σ w).0 e in let b = (bind ar σ w x u l m p).0 d.1 in ((b.0, d.0), b.1)),
        (λ d. (v.same σ w).1 (d.0.1, (bind ar σ w x u l m p).1 (d.0.0, d.1))),
      );
    }
      where
        w₀ : Sub ar (full B)
        w₀ = full_sub ar B v.values

    -- the ends
    pub found : (l : List Item) → RobinsonInv s t B 0 l l → Mgu ar s t (full B)
    found l v = record {
      sub = full_sub ar B v.values;
      unifies = (v.same (full B) (full_sub ar B v.values)).1 (solved B v.good, refl);
      general = λ σ w e x. absorbs σ B ((v.same σ w).0 e).0 x;
    }

    pub none_clash : (k f g : ℕ) (l m : List Item) → f ≢ g → RobinsonInv s t B k (sy f ∷ l) (sy g ∷ m) → (σ : ℕ → List Item) → Sub ar σ → app σ s ≡ app σ t → ⊥
    none_clash k f g l m h v σ w e = clash ar σ w f g l m h ((v.same σ w).0 e).1

    in_length₁ : (x : ℕ) (l : List Item) → Occurs x l → 1 ≤ length l
    in_length₁ x [] i = absurd i
    in_length₁ x (a ∷ l) i = omega arith

    pub none_circular : (k x f : ℕ) (u l m : List Item) → Terms ar 1 (sy f ∷ u) → Occurs x (app (full B) u)
        → RobinsonInv s t B (suc k) (va x ∷ l) (sy f ∷ u ++ m) → (σ : ℕ → List Item) → Sub ar σ → app σ s ≡ app σ t → ⊥
    none_circular k x f u l m p i v σ w e =
        let d = (v.same σ w).0 e in
        let b = (bind ar σ w x (sy f ∷ u) l m p).0 d.1 in
        circular ar σ w B d.0 x (sy f ∷ u) i (omega (arith, in_length₁ x (app (full B) u) i)) b.0
