-- Serves SCOPE.md, 'The relations themselves': matching: a substitution that turns l into m, found in one walk.
use Rattle.std.specs.Prelude.{◌≡◌, refl, ◌≢◌, ◌↔◌, List, [], ◌∷◌, ◌++◌, ℕ, suc, ◌+◌}
use Rattle.std.proofs.Common.{sym, ap, ◌∙◌, inl, inr}
use Rattle.std.proofs.Math.Decide.{ℕ_discrete}
use Rattle.theory.specs.Flat.{Item, sy, va, Terms, readable}
use Rattle.theory.specs.Subst.{vars, app, Sub}
use Rattle.theory.specs.Unify.{pick_decided, Bind, ◌:=◌, Unbound, Values, Has, not_both}

-- the bindings as they stand
abbrev pub once : List Bind → ℕ → List Item
once [] y = vars y
once ((x := t) ∷ B) y = pick_decided (ℕ_discrete x y) t (once B y)

-- σ has the values of B
abbrev pub Agrees : (ℕ → List Item) → List Bind → Type 0
Agrees σ [] = Unit {0}
Agrees σ ((x := u) ∷ B) = (σ x ≡ u) × Agrees σ B

pub agrees_has : (σ : ℕ → List Item) (x : ℕ) (u : List Item) (B : List Bind) → Has x u B → Agrees σ B → σ x ≡ u
agrees_has σ x u [] h a = absurd h
agrees_has σ x u ((y := v) ∷ B) (inl e) a = rw (e.0, e.1) a.0
agrees_has σ x u ((y := v) ∷ B) (inr h) a = agrees_has σ x u B h a.1

-- bindings of different variables: the bindings agree with themselves
abbrev pub Once : List Bind → Type 0
Once [] = Unit {0}
Once ((x := u) ∷ B) = Unbound x B × Once B

module _ (ar : ℕ → ℕ) where
  pub record MatchInv (s t : List Item) (B : List Bind) (k : ℕ) (l m : List Item) : Type 0 where
    pub once_each : Once B
    pub values : Values ar B
    pub left : Terms ar k l
    pub right : Terms ar k m
    pub same : (σ : ℕ → List Item) → Sub ar σ → (app σ s ≡ t) ↔ (Agrees σ B × (app σ l ≡ m))

  pub start : (s t : List Item) → Terms ar 1 s → Terms ar 1 t → MatchInv s t [] 1 s t
  start s t p q = record { once_each = tt; values = tt; left = p; right = q; same = λ σ w. ((λ e. (tt, e)), (λ h. h.1)) }

  module _ (s t : List Item) (B : List Bind) where
    pub step_symbol : (k f : ℕ) (l m : List Item) → MatchInv s t B (suc k) (sy f ∷ l) (sy f ∷ m) → MatchInv s t B (ar f + k) l m
    step_symbol k f l m v = record {
      once_each = v.once_each;
      values = v.values;
      left = v.left;
      right = v.right;
      same = λ σ w. ((λ e. let d = (v.same σ w).0 e in (d.0, tail σ d.1)), (λ d. (v.same σ w).1 (d.0, ap {B = List Item} (λ r. sy f ∷ r) d.1)));
    }
      where
        tail : (σ : ℕ → List Item) → app σ (sy f ∷ l) ≡ sy f ∷ m → app σ l ≡ m
        tail σ e = cc

    pub step_new : (k x : ℕ) (u l m : List Item) → Terms ar 1 u → Terms ar k m → Unbound x B → MatchInv s t B (suc k) (va x ∷ l) (u ++ m) → MatchInv s t ((x := u) ∷ B) k l m
    step_new k x u l m p q n v = record {
      once_each = (n, v.once_each);
      values = (p, v.values);
      left = v.left;
      right = q;
      same = λ σ w. (
        (λ e. let d = (v.same σ w).0 e in let b = readable ar 1 (σ x) u (app σ l) m (w x) p d.1 in ((b.0, d.0), b.1)),
        (λ d. (v.same σ w).1 (d.0.1, rw (d.0.0, d.1))),
      );
    }

    pub step_old : (k x : ℕ) (u l m : List Item) → Terms ar 1 u → Terms ar k m → Has x u B → MatchInv s t B (suc k) (va x ∷ l) (u ++ m) → MatchInv s t B k l m
    step_old k x u l m p q h v = record {
      once_each = v.once_each;
      values = v.values;
      left = v.left;
      right = q;
      same = λ σ w. (
        (λ e. let d = (v.same σ w).0 e in (d.0, (readable ar 1 (σ x) u (app σ l) m (w x) p d.1).1)),
        (λ d. (v.same σ w).1 (d.0, rw (agrees_has σ x u B h d.0, d.1))),
      );
    }

    pub none_symbol : (k f : ℕ) (l m : List Item) (i : Item) → i ≢ sy f → MatchInv s t B k (sy f ∷ l) (i ∷ m) → (σ : ℕ → List Item) → Sub ar σ → app σ s ≡ t → ⊥
    none_symbol k f l m i n v σ w e = n (head σ ((v.same σ w).0 e).1)
      where
        head : (σ : ℕ → List Item) → app σ (sy f ∷ l) ≡ i ∷ m → i ≡ sy f
        head σ e = cc

    pub none_differs : (k x : ℕ) (u u' l m : List Item) → Terms ar 1 u' → Has x u B → u ≢ u' → MatchInv s t B (suc k) (va x ∷ l) (u' ++ m) → (σ : ℕ → List Item) → Sub ar σ → app σ s ≡ t → ⊥
    none_differs k x u u' l m p h n v σ w e =
        let d = (v.same σ w).0 e in n (sym (agrees_has σ x u B h d.0) ∙ (readable ar 1 (σ x) u' (app σ l) m (w x) p d.1).0)

  agrees_ext : (σ τ : ℕ → List Item) (B : List Bind) → ((y : ℕ) (u : List Item) → Has y u B → σ y ≡ τ y) → Agrees σ B → Agrees τ B
  agrees_ext σ τ [] h a = tt
  agrees_ext σ τ ((x := u) ∷ B) h a = (sym (h x u (inl (refl, refl))) ∙ a.0, agrees_ext σ τ B (λ y v k. h y v (inr k)) a.1)

  pub agrees_once : (B : List Bind) → Once B → Agrees (once B) B
  agrees_once [] o = tt
  agrees_once ((x := u) ∷ B) o = (here (ℕ_discrete x x), agrees_ext (once B) (once ((x := u) ∷ B)) B (λ y v h. there y v h (ℕ_discrete x y)) (agrees_once B o.1))
    where
      here : (d : Dec (x ≡ x)) → pick_decided d u (once B x) ≡ u
      here (yes e) = refl
      here (no n) = absurd (n refl)

      there : (y : ℕ) (v : List Item) → Has y v B → (d : Dec (x ≡ y)) → once B y ≡ pick_decided d u (once B y)
      there y v h (yes e) = absurd (not_both x v B o.0 (rw e h))
      there y v h (no n) = refl

  pub once_sub : (B : List Bind) → Values ar B → Sub ar (once B)
  once_sub [] v y = tt
  once_sub ((x := u) ∷ B) v y = go (ℕ_discrete x y) (once_sub B v.1 y)
    where
      go : (d : Dec (x ≡ y)) → Terms ar 1 (once B y) → Terms ar 1 (pick_decided d u (once B y))
      go (yes e) h = v.0
      go (no n) h = h

  pub found : (s t : List Item) (B : List Bind) → MatchInv s t B 0 [] [] → app (once B) s ≡ t
  found s t B v = (v.same (once B) (once_sub B v.values)).1 (agrees_once B v.once_each, refl)
