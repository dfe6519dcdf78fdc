-- SCOPE.md, 'The relations themselves': substitutions, on flat terms. A value is one term by the arities, and a
-- symbol that the signature does not declare has arity 0 there; that gives nothing more to unify or match with:
-- definitions/specs/Declared.antt proves that each relation is the same with values of declared symbols alone, and
-- that a recorded unifier has no others.
use Rattle.std.specs.Prelude.{◌≡◌, refl, ◌⊎◌, List, [], ◌∷◌, ◌++◌, ℕ, zero, suc, ◌+◌, ◌≤◌, ◌<◌, length}
use Rattle.std.proofs.Common.{ap, inl, inr, append_assoc, arith, length-append}
use Rattle.std.proofs.Math.Decide.{ℕ_discrete}
use Rattle.theory.specs.Flat.{Item, sy, va, Terms, terms_append}

-- the substitution that changes nothing
abbrev pub vars : ℕ → List Item
vars x = va x ∷ []

-- every variable of l replaced by its value under σ
abbrev pub app : (ℕ → List Item) → List Item → List Item
app σ [] = []
app σ (sy s ∷ l) = sy s ∷ app σ l
app σ (va x ∷ l) = σ x ++ app σ l

pub app_append : (σ : ℕ → List Item) (l m : List Item) → app σ (l ++ m) ≡ app σ l ++ app σ m
app_append σ [] m = refl
app_append σ (sy s ∷ l) m = rw (app_append σ l m)
app_append σ (va x ∷ l) m = rw (app_append σ l m, append_assoc)

pub app_vars : (l : List Item) → app vars l ≡ l
app_vars [] = refl
app_vars (sy s ∷ l) = rw (app_vars l)
app_vars (va x ∷ l) = rw (app_vars l)

pub app_app : (σ τ : ℕ → List Item) (l : List Item) → app σ (app τ l) ≡ app (λ x. app σ (τ x)) l
app_app σ τ [] = refl
app_app σ τ (sy s ∷ l) = rw (app_app σ τ l)
app_app σ τ (va x ∷ l) = rw (app_append, app_app σ τ l)

-- x stands in l
abbrev pub Occurs : ℕ → List Item → Type 0
Occurs x [] = ⊥
Occurs x (sy s ∷ l) = Occurs x l
Occurs x (va y ∷ l) = (x ≡ y) ⊎ Occurs x l

unfoldable pub in? : (x : ℕ) (l : List Item) → Dec (Occurs x l)
in? x [] = no (λ h. h)
in? x (sy s ∷ l) = in? x l
in? x (va y ∷ l) = go (ℕ_discrete x y) (in? x l)
  where
    go : Dec (x ≡ y) → Dec (Occurs x l) → Dec ((x ≡ y) ⊎ Occurs x l)
    go (yes e) d = yes (inl e)
    go (no f) (yes h) = yes (inr h)
    go (no f) (no g) = no (λ s. elim s [ inl e ↦ f e | inr h ↦ g h ])

pub in_append : (x : ℕ) (l m : List Item) → Occurs x (l ++ m) → Occurs x l ⊎ Occurs x m
in_append x [] m h = inr h
in_append x (sy s ∷ l) m h = in_append x l m h
in_append x (va y ∷ l) m (inl e) = inl (inl e)
in_append x (va y ∷ l) m (inr h) = go (in_append x l m h)
  where
    go : Occurs x l ⊎ Occurs x m → ((x ≡ y) ⊎ Occurs x l) ⊎ Occurs x m
    go (inl a) = inl (inr a)
    go (inr b) = inr b

pub in_left : (x : ℕ) (l m : List Item) → Occurs x l → Occurs x (l ++ m)
in_left x [] m h = absurd h
in_left x (sy s ∷ l) m h = in_left x l m h
in_left x (va y ∷ l) m (inl e) = inl e
in_left x (va y ∷ l) m (inr h) = inr (in_left x l m h)

pub in_right : (x : ℕ) (l m : List Item) → Occurs x m → Occurs x (l ++ m)
in_right x [] m h = h
in_right x (sy s ∷ l) m h = in_right x l m h
in_right x (va y ∷ l) m h = inr (in_right x l m h)

-- substitutions that agree on the variables of l
pub app_agree : (σ τ : ℕ → List Item) (l : List Item) → ((x : ℕ) → Occurs x l → σ x ≡ τ x) → app σ l ≡ app τ l
app_agree σ τ [] h = refl
app_agree σ τ (sy s ∷ l) h = rw (app_agree σ τ l h)
app_agree σ τ (va x ∷ l) h = rw (h x (inl refl), app_agree σ τ l (λ y i. h y (inr i)))

-- a variable of app σ l comes from a value
pub in_app : (σ : ℕ → List Item) (x : ℕ) (l : List Item) → Occurs x (app σ l) → (y : ℕ) × Occurs y l × Occurs x (σ y)
in_app σ x [] h = absurd h
in_app σ x (sy s ∷ l) h = in_app σ x l h
in_app σ x (va y ∷ l) h = go (in_append x (σ y) (app σ l) h) (in_app σ x l)
  where
    go : Occurs x (σ y) ⊎ Occurs x (app σ l) → (Occurs x (app σ l) → (z : ℕ) × Occurs z l × Occurs x (σ z)) → (z : ℕ) × Occurs z (va y ∷ l) × Occurs x (σ z)
    go (inl a) f = (y, inl refl, a)
    go (inr b) f = let r = f b in (r.0, inr r.1, r.2)

pub in_app_of : (σ : ℕ → List Item) (x y : ℕ) (l : List Item) → Occurs y l → Occurs x (σ y) → Occurs x (app σ l)
in_app_of σ x y [] i h = absurd i
in_app_of σ x y (sy s ∷ l) i h = in_app_of σ x y l i h
in_app_of σ x y (va z ∷ l) (inl e) h = in_left x (σ z) (app σ l) (rw e at h)
in_app_of σ x y (va z ∷ l) (inr i) h = in_right x (σ z) (app σ l) (in_app_of σ x y l i h)

module _ (ar : ℕ → ℕ) where
  -- each value is one term
  abbrev pub Sub : (ℕ → List Item) → Type 0
  Sub σ = (x : ℕ) → Terms ar 1 (σ x)

  pub app_terms : (σ : ℕ → List Item) → Sub σ → (k : ℕ) (l : List Item) → Terms ar k l → Terms ar k (app σ l)
  app_terms σ w zero [] t = t
  app_terms σ w zero (i ∷ l) t = absurd t
  app_terms σ w (suc k) [] t = absurd t
  app_terms σ w (suc k) (sy s ∷ l) t = app_terms σ w (ar s + k) l t
  app_terms σ w (suc k) (va x ∷ l) t = let e : 1 + k ≡ suc k = omega arith in rw e at (terms_append ar 1 k (σ x) (app σ l) (w x) (app_terms σ w k l t))

  -- a term has an item
  pub term_length : (k : ℕ) (l : List Item) → Terms ar k l → k ≤ length l
  term_length zero [] t = omega arith
  term_length zero (i ∷ l) t = absurd t
  term_length (suc k) [] t = absurd t
  term_length (suc k) (va x ∷ l) t = let h = term_length k l t in omega arith
  term_length (suc k) (sy s ∷ l) t = let h = term_length (ar s + k) l t in omega arith

  -- no items vanish
  pub app_length : (σ : ℕ → List Item) → Sub σ → (l : List Item) → length l ≤ length (app σ l)
  app_length σ w [] = omega arith
  app_length σ w (sy s ∷ l) = let h = app_length σ w l in omega arith
  app_length σ w (va x ∷ l) = let h = app_length σ w l in let g = term_length 1 (σ x) (w x) in simp length-append (omega arith)

  -- the value of x stands in app σ l, with at least one item for each other item of l
  pub in_length : (σ : ℕ → List Item) → Sub σ → (x : ℕ) (l : List Item) → Occurs x l → length (σ x) + length l ≤ length (app σ l) + 1
  in_length σ w x [] i = absurd i
  in_length σ w x (sy s ∷ l) i = let h = in_length σ w x l i in omega arith
  in_length σ w x (va y ∷ l) (inl e) = let h = app_length σ w l in simp (e, length-append) (omega arith)
  in_length σ w x (va y ∷ l) (inr i) = let h = in_length σ w x l i in let g = term_length 1 (σ y) (w y) in simp length-append (omega arith)

  -- the occurs check: x in t, and t more than one item: no substitution makes x and t the same
  pub occurs : (σ : ℕ → List Item) → Sub σ → (x : ℕ) (t : List Item) → Occurs x t → 1 < length t → σ x ≡ app σ t → ⊥
  occurs σ w x t i b e = omega (arith, in_length σ w x t i, ap length e)
