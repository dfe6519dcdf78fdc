-- SCOPE.md, 'The solver's record': Robinson's method ends: two terms have a most general unifier that takes the
-- smallest variables, or none at all.
use Rattle.std.specs.Prelude.{◌≡◌, refl, ◌⊎◌, ◌≢◌, ℕ, zero, suc, ◌+◌, ◌≤◌, ◌<◌, length}
use Rattle.std.proofs.Common.{sym, ap, ◌∙◌, subst, inl, inr, arith}
use Rattle.std.proofs.Math.Option.{Option}
use mathlib.Core.List.{List, [], ◌∷◌, ◌++◌, append-nil}
use Rattle.std.proofs.Math.Decide.{ℕ_discrete, dec_le}
use Rattle.theory.specs.Flat.{Item, sy, va, Terms}
use Rattle.theory.specs.Subst.{vars, app, app_append, Occurs, in?, in_append, in_left, in_right, Sub}
use Rattle.theory.specs.Unify.{pick_decided, Bind, ◌:=◌, full, GoodBindings, Unbound, unbound, Values, solved, Has}
use Rattle.theory.specs.Unify.{solves_has, not_both}
use Rattle.theory.specs.Canon.{Least, Mgu}
use Rattle.theory.specs.Match.{once}
use Rattle.theory.specs.Robinson.{RobinsonInv, start, step_symbol, step_same, step_swap, step_follow, step_bind}
use Rattle.theory.specs.Robinson.{found, none_clash, none_circular}
use Rattle.theory.specs.Order.{Mem, FollowingEnds, ends}
use Rattle.theory.specs.Cut.{first, rest, first_rest, first_terms, rest_terms}

-- a variable has a binding, or none
unfoldable pub once_cases : (B : List Bind) (y : ℕ) → Has y (once B y) B ⊎ (Unbound y B × (once B y ≡ vars y))
once_cases [] y = inr (tt, refl)
once_cases ((x := t) ∷ B) y = go (ℕ_discrete x y) (once_cases B y)
  where
    go : (d : Dec (x ≡ y)) → Has y (once B y) B ⊎ (Unbound y B × (once B y ≡ vars y))
        → (((y ≡ x) × (pick_decided d t (once B y) ≡ t)) ⊎ Has y (pick_decided d t (once B y)) B) ⊎
        (((x ≢ y) × Unbound y B) × (pick_decided d t (once B y) ≡ vars y))
    go (yes e) h = inl (inl (sym e, refl))
    go (no f) (inl h) = inl (inr h)
    go (no f) (inr h) = inr ((f, h.0), h.1)

-- how many of N have no binding
abbrev pub tally : {A B : Type 0} → A ⊎ B → ℕ
tally (inl a) = 0
tally (inr b) = 1

abbrev pub free : List ℕ → List Bind → ℕ
free [] B = 0
free (v ∷ N) B = tally (once_cases B v) + free N B

free_more : (N : List ℕ) (x : ℕ) (u : List Item) (B : List Bind) → free N ((x := u) ∷ B) ≤ free N B
free_more [] x u B = omega arith
free_more (v ∷ N) x u B = omega (arith, free_more N x u B, go (once_cases ((x := u) ∷ B) v) (once_cases B v))
  where
    go : (p : Has v (once ((x := u) ∷ B) v) ((x := u) ∷ B) ⊎ (Unbound v ((x := u) ∷ B) × (once ((x := u) ∷ B) v ≡ vars v)))
        (q : Has v (once B v) B ⊎ (Unbound v B × (once B v ≡ vars v))) → tally p ≤ tally q
    go (inl a) (inl b) = omega arith
    go (inl a) (inr b) = omega arith
    go (inr a) (inl b) = absurd (not_both v (once B v) B a.0.1 b)
    go (inr a) (inr b) = omega arith

pub free_less : (N : List ℕ) (x : ℕ) (u : List Item) (B : List Bind) → Mem x N → Unbound x B → free N ((x := u) ∷ B) < free N B
free_less [] x u B m n = absurd m
free_less (v ∷ N) x u B (inl e) n = omega (arith, free_more N x u B, go (once_cases ((x := u) ∷ B) v) (once_cases B v))
  where
    go : (p : Has v (once ((x := u) ∷ B) v) ((x := u) ∷ B) ⊎ (Unbound v ((x := u) ∷ B) × (once ((x := u) ∷ B) v ≡ vars v)))
        (q : Has v (once B v) B ⊎ (Unbound v B × (once B v ≡ vars v))) → tally p < tally q
    go p (inl b) = absurd (not_both v (once B v) B (rw (← e) n) b)
    go (inl a) (inr b) = omega arith
    go (inr a) (inr b) = absurd (a.0.0 e)
free_less (v ∷ N) x u B (inr m) n = omega (arith, free_less N x u B m n, go (once_cases ((x := u) ∷ B) v) (once_cases B v))
  where
    go : (p : Has v (once ((x := u) ∷ B) v) ((x := u) ∷ B) ⊎ (Unbound v ((x := u) ∷ B) × (once ((x := u) ∷ B) v ≡ vars v)))
        (q : Has v (once B v) B ⊎ (Unbound v B × (once B v ≡ vars v))) → tally p ≤ tally q
    go (inl a) (inl b) = omega arith
    go (inl a) (inr b) = omega arith
    go (inr a) (inl b) = absurd (not_both v (once B v) B a.0.1 b)
    go (inr a) (inr b) = omega arith

-- every variable of l is in N
abbrev pub Within : List ℕ → List Item → Type 0
Within N l = (z : ℕ) → Occurs z l → Mem z N

abbrev pub Scoped : List ℕ → List Bind → Type 0
Scoped N B = (x : ℕ) (u : List Item) → Has x u B → Within N u

-- the first item is a symbol, or a variable with no binding
abbrev pub Ready : List Bind → List Item → Type 0
Ready B [] = Unit {0}
Ready B (sy s ∷ l) = Unit {0}
Ready B (va x ∷ l) = Unbound x B

module _ (ar : ℕ → ℕ) where
  pub values_has : (B : List Bind) → Values ar B → (x : ℕ) (u : List Item) → Has x u B → Terms ar 1 u
  values_has [] v x u h = absurd h
  values_has ((y := t) ∷ B) v x u (inl e) = rw e.1 v.0
  values_has ((y := t) ∷ B) v x u (inr h) = values_has B v.1 x u h

  module _ (s t : List Item) (N : List ℕ) where
    pub record SolverAt (B : List Bind) (k : ℕ) (l m : List Item) : Type 0 where
      pub inv : RobinsonInv ar s t B k l m
      pub lin : Within N l
      pub rin : Within N m
      pub bin : Scoped N B

    unfoldable pub at_swap : (B : List Bind) (k : ℕ) (l m : List Item) → SolverAt B k l m → SolverAt B k m l
    at_swap B k l m a = record { inv = step_swap ar s t B k l m a.inv; lin = a.rin; rin = a.lin; bin = a.bin }

    pub record SolverFaced (B : List Bind) (k : ℕ) (l m : List Item) : Type 0 where
      pub list : List Item
      pub at : SolverAt B k list m
      pub ready : Ready B list
      pub even : app (full B) list ≡ app (full B) l

    -- bindings followed to the end at the head of the left list
    unfoldable pub at_follow : (B : List Bind) (k x : ℕ) (u l m : List Item) → Has x u B
        → SolverAt B (suc k) (va x ∷ l) m
        → SolverAt B (suc k) (u ++ l) m
    at_follow B k x u l m h a = record {
      inv = step_follow ar s t B k x u l m h (values_has B a.inv.values x u h) a.inv;
      lin = λ z i. side z (in_append z u l i);
      rin = a.rin;
      bin = a.bin;
    }
      where
        side : (z : ℕ) → Occurs z u ⊎ Occurs z l → Mem z N
        side z (inl i) = a.bin x u h z i
        side z (inr i) = a.lin z (inr i)

    pub even_follow : (B : List Bind) (x : ℕ) (u l : List Item) → GoodBindings B → Has x u B → app (full B) (u ++ l) ≡ app (full B) (va x ∷ l)
    even_follow B x u l g h = app_append (full B) u l ∙ ap (λ r. r ++ app (full B) l) (sym (solves_has (full B) x u B h (solved B g)))

    unfoldable pub face_bound : (B : List Bind) (d k x : ℕ) (u l m : List Item) → Has x u B → Terms ar 1 u
        → FollowingEnds B d u → SolverAt B (suc k) (va x ∷ l) m
        → ((y : ℕ) → FollowingEnds B d (vars y) → SolverAt B (suc k) (va y ∷ l) m → SolverFaced B (suc k) (va y ∷ l) m)
        → SolverFaced B (suc k) (va x ∷ l) m
    face_bound B d k x [] l m h p e a ih = absurd p
    face_bound B d k x (sy f ∷ u) l m h p e a ih = record {
      list = sy f ∷ u ++ l;
      at = at_follow B k x (sy f ∷ u) l m h a;
      ready = tt;
      even = even_follow B x
          (sy f ∷ u) l a.inv.good h;
    }
    face_bound B d k x (va y ∷ []) l m h p e a ih =
        let r = ih y e (at_follow B k x (vars y) l m h a) in
        record {
          list = r.list;
          at = r.at;
          ready = r.ready;
          even = r.even ∙ even_follow B x (vars y) l
              a.inv.good h;
        }
    face_bound B d k x (va y ∷ i ∷ u) l m h p e a ih = absurd p

    unfoldable pub face_var : (B : List Bind) (d k x : ℕ) (l m : List Item) → FollowingEnds B d (vars x)
        → SolverAt B (suc k) (va x ∷ l) m → SolverFaced B (suc k) (va x ∷ l) m
    face_var B zero k x l m e a = go (once_cases B x)
      where
        go : Has x (once B x) B ⊎ (Unbound x B × (once B x ≡ vars x)) → SolverFaced B (suc k) (va x ∷ l) m
        go (inr h) = record { list = va x ∷ l; at = a; ready = h.0; even = refl }
        go (inl h) = absurd (e x (inl refl) (once B x) h)
    face_var B (suc d) k x l m e a = go (once_cases B x) (λ y e' a'. face_var B d k y l m e' a')
      where
        go : Has x (once B x) B ⊎ (Unbound x B × (once B x ≡ vars x))
            → ((y : ℕ) → FollowingEnds B d (vars y) → SolverAt B (suc k) (va y ∷ l) m
            → SolverFaced B (suc k) (va y ∷ l) m)
            → SolverFaced B (suc k) (va x ∷ l) m
        go (inr h) ih = record { list = va x ∷ l; at = a; ready = h.0; even = refl }
        go (inl h) ih = face_bound B d k x (once B x) l m h (values_has B a.inv.values x (once B x) h)
            (e x (inl refl) (once B x) h) a ih

    unfoldable pub face : (B : List Bind) (k : ℕ) (l m : List Item) → SolverAt B k l m → SolverFaced B k l m
    face B k [] m a = record { list = []; at = a; ready = tt; even = refl }
    face B k (sy f ∷ l) m a = record { list = sy f ∷ l; at = a; ready = tt; even = refl }
    face B zero (va x ∷ l) m a = absurd a.inv.left
    face B (suc k) (va x ∷ l) m a = face_var B (length B) k x l m (ends B a.inv.good (vars x)) a

    -- the answer
    pub data SolverAnswer : Type 0 where
      bound : (B : List Bind) → GoodBindings B → Mgu ar s t (full B) → Least (full B) → SolverAnswer
      unsolvable : ((σ : ℕ → List Item) → Sub ar σ → app σ s ≡ app σ t → ⊥) → SolverAnswer

    -- x, with no binding, against a term u that is not x
    unfoldable pub at_bind : (B : List Bind) (k x : ℕ) (u l m : List Item) → Terms ar 1 u → Terms ar k m
        → Unbound x B → ¬ Occurs x (app (full B) u)
        → ((y : ℕ) → app (full B) u ≡ vars y → y ≤ x) → SolverAt B (suc k) (va x ∷ l) (u ++ m)
        → SolverAt ((x := u) ∷ B) k l m
    at_bind B k x u l m p q n c y a = record {
      inv = step_bind ar s t B k x u l m p q n c y a.inv;
      lin = λ z i. a.lin z (inr i);
      rin = λ z i. a.rin z (in_right z u m i);
      bin = side;
    }
      where
        side : (z : ℕ) (v : List Item) → Has z v ((x := u) ∷ B) → Within N v
        side z v (inl e) w i = a.rin w (in_left w u m (rw e.1 at i))
        side z v (inr h) w i = a.bin z v h w i

    abbrev pub Fewer : List Bind → Type 0
    Fewer B = (B' : List Bind) (k : ℕ) (l m : List Item) → SolverAt B' k l m → free N B' < free N B → SolverAnswer

    abbrev pub Smaller : List Bind → List Item → Type 0
    Smaller B l₀ = (k : ℕ) (l m : List Item) → SolverAt B k l m
        → length (app (full B) l) < length (app (full B) l₀) → SolverAnswer

    -- a variable with no binding against a symbol
    unfoldable pub var_symbol : (B : List Bind) (k x f : ℕ) (l m : List Item) → Fewer B → Unbound x B
        → SolverAt B (suc k) (va x ∷ l) (sy f ∷ m) → SolverAnswer
    var_symbol B k x f l m ih n a = go (in? x (app (full B) (first ar (ar f + 0) m)))
      where
        more : Terms ar (1 + k) (sy f ∷ m)
        more = let h : 1 + k ≡ suc k = omega arith in rw h a.inv.right

        one₁ : Terms ar 1 (sy f ∷ first ar (ar f + 0) m)
        one₁ = first_terms ar 1 k (sy f ∷ m) more

        a' : SolverAt B (suc k) (va x ∷ l) (sy f ∷ first ar (ar f + 0) m ++ rest ar (ar f + 0) m)
        a' = subst (λ (r : List Item). SolverAt B (suc k) (va x ∷ l) r) (sym (first_rest ar 1 (sy f ∷ m))) a

        go : Dec (Occurs x (app (full B) (first ar (ar f + 0) m))) → SolverAnswer
        go (yes i) = unsolvable (none_circular ar s t B k x f (first ar (ar f + 0) m) l (rest ar (ar f + 0) m) one₁ i a'.inv)
        go (no i) = ih ((x := (sy f ∷ first ar (ar f + 0) m)) ∷ B) k l (rest ar (ar f + 0) m)
            (at_bind B k x (sy f ∷ first ar (ar f + 0) m) l (rest ar (ar f + 0) m) one₁ (rest_terms ar 1 k (sy f ∷ m) more) n i
            (λ y e. let c : ◌≡◌ {A = ℕ} 0 1 = cc in absurd (omega arith)) a')
            (free_less N x (sy f ∷ first ar (ar f + 0) m) B (a.lin x (inl refl)) n)

    -- two different variables with no binding: the larger is bound
    unfoldable pub var_var : (B : List Bind) (k x y : ℕ) (l m : List Item) → Fewer B → Unbound x B → Unbound y B
        → y < x → SolverAt B (suc k) (va x ∷ l) (va y ∷ m) → SolverAnswer
    var_var B k x y l m ih n o b a = ih ((x := vars y) ∷ B) k l m
        (at_bind B k x (vars y) l m tt a.inv.right n (λ i. apart (rw (stay) at i))
        (λ z e. (let c : y ≡ z = cc (stay) in omega arith)) a)
        (free_less N x (vars y) B (a.lin x (inl refl)) n)
      where
        stay : app (full B) (vars y) ≡ vars y
        stay = append-nil _ ∙ unbound y B o

        apart : Occurs x (vars y) → ⊥
        apart (inr x'') = elim x'' [ ]
        apart (inl e) = omega arith

    unfoldable pub step : (B : List Bind) (k : ℕ) (l m : List Item) → SolverAt B k l m → Ready B l → Ready B m → Fewer B
        → Smaller B l → SolverAnswer
    step B zero [] [] a p q ih jh = bound B a.inv.good (found ar s t B [] a.inv) a.inv.least
    step B zero [] (j ∷ m) a p q ih jh = absurd a.inv.right
    step B zero (i ∷ l) m a p q ih jh = absurd a.inv.left
    step B (suc k) [] m a p q ih jh = absurd a.inv.left
    step B (suc k) (i ∷ l) [] a p q ih jh = absurd a.inv.right
    step B (suc k) (sy f ∷ l) (va y ∷ m) a p q ih jh = var_symbol B k y f m l ih q
        (at_swap B (suc k) (sy f ∷ l) (va y ∷ m) a)
    step B (suc k) (va x ∷ l) (sy g ∷ m) a p q ih jh = var_symbol B k x g l m ih p a
    step B (suc k) (sy f ∷ l) (sy g ∷ m) a p q ih jh = go (ℕ_discrete g f)
      where
        go : Dec (g ≡ f) → SolverAnswer
        go (no h) = unsolvable (none_clash ar s t B (suc k) f g l m (λ e. h (sym e)) a.inv)
        go (yes h) = jh (ar f + k) l m
            (record {
              inv = step_symbol ar s t B k f l m
                  (subst (λ (r : ℕ). RobinsonInv ar s t B (suc k) (sy f ∷ l) (sy r ∷ m)) h a.inv);
              lin = a.lin;
              rin = a.rin;
              bin = a.bin;
            })
            (omega arith)
    step B (suc k) (va x ∷ l) (va y ∷ m) a p q ih jh = go (ℕ_discrete y x) (dec_le x y)
      where
        go : Dec (y ≡ x) → Dec (x ≤ y) → SolverAnswer
        go (yes h) d = jh k l m
            (record {
              inv = step_same ar s t B k x l m
                  (subst (λ (r : ℕ). RobinsonInv ar s t B (suc k) (va x ∷ l) (va r ∷ m)) h a.inv);
              lin = λ z i. a.lin z
                  (inr i);
              rin = λ z i. a.rin z (inr i);
              bin = a.bin;
            })
            (rw (unbound x B p) (omega arith))
        go (no h) (no d) = var_var B k x y l m ih p q (omega arith) a
        go (no h) (yes d) = var_var B k y x m l ih q p (omega arith) (at_swap B (suc k) (va x ∷ l) (va y ∷ m) a)

    unfoldable pub by_size : (B : List Bind) → Fewer B → (z k : ℕ) (l m : List Item) → SolverAt B k l m
        → length (app (full B) l) < z → SolverAnswer
    by_size B ih zero k l m a b = absurd (omega arith)
    by_size B ih (suc z) k l m a b =
        let f = face B k l m a in
        let g = face B k m f.list (at_swap B k f.list m f.at) in
        step B k f.list g.list (at_swap B k g.list f.list g.at) f.ready g.ready ih
        (λ k' l' m' a' c. by_size B ih z k' l' m' a' (omega (arith, ap length f.even)))

    unfoldable pub by_free : (n : ℕ) (B : List Bind) (k : ℕ) (l m : List Item) → SolverAt B k l m → free N B < n
        → SolverAnswer
    by_free zero B k l m a b = absurd (omega arith)
    by_free (suc n) B k l m a b = by_size B (λ B' k' l' m' a' c. by_free n B' k' l' m' a' (omega arith))
        (suc (length (app (full B) l))) k l m a (omega arith)

  abbrev pub variables : List Item → List ℕ
  variables [] = []
  variables (sy f ∷ l) = variables l
  variables (va x ∷ l) = x ∷ variables l

  pub variables_in : (l : List Item) → Within (variables l) l
  variables_in [] z i = i
  variables_in (sy f ∷ l) z i = variables_in l z i
  variables_in (va x ∷ l) z (inl e) = inl e
  variables_in (va x ∷ l) z (inr i) = inr (variables_in l z i)

  -- two terms: the one most general unifier, or none
  unfoldable pub solve : (s t : List Item) → Terms ar 1 s → Terms ar 1 t → SolverAnswer s t (variables (s ++ t))
  solve s t p q = by_free s t (variables (s ++ t)) (suc (free (variables (s ++ t)) [])) [] 1 s t
      (record {
        inv = start ar s t p q;
        lin = λ z i. variables_in (s ++ t) z (in_left z s t i);
        rin = λ z i. variables_in
            (s ++ t) z (in_right z s t i);
        bin = λ x u h. absurd h;
      })
      (omega arith)

  -- l is k terms, or not
  unfoldable pub terms? : (k : ℕ) (l : List Item) → Dec (Terms ar k l)
  terms? zero [] = yes tt
  terms? zero (i ∷ l) = no (λ h. h)
  terms? (suc k) [] = no (λ h. h)
  terms? (suc k) (va x ∷ l) = terms? k l
  terms? (suc k) (sy s ∷ l) = terms? (ar s + k) l

  abbrev pub bindings : {s t : List Item} {N : List ℕ} → SolverAnswer s t N → Option (List Bind)
  bindings (bound B g m l) = Option.some B
  bindings (unsolvable h) = Option.none

  abbrev pub asked : (s t : List Item) → Dec (Terms ar 1 s) → Dec (Terms ar 1 t) → Option (List Bind)
  asked s t (yes p) (yes q) = bindings (solve s t p q)
  asked s t (yes p) (no h) = Option.none
  asked s t (no h) d = Option.none

  -- the bindings that Robinson's method finds for two terms
  unfoldable pub solution : List Item → List Item → Option (List Bind)
  solution s t = asked s t (terms? 1 s) (terms? 1 t)

  -- what they are
  abbrev pub RightBindings : List Item → List Item → Option (List Bind) → Type 0
  RightBindings s t (Option.some B) = GoodBindings B × Mgu ar s t (full B) × Least (full B)
  RightBindings s t Option.none = (σ : ℕ → List Item) → Sub ar σ → app σ s ≡ app σ t → ⊥

  pub solution_right : (s t : List Item) → Terms ar 1 s → Terms ar 1 t → RightBindings s t (solution s t)
  unfolding solution
  solution_right s t p q = go (terms? 1 s) (terms? 1 t)
    where
      told : (N : List ℕ) (a : SolverAnswer s t N) → RightBindings s t (bindings a)
      told N (bound B g m l) = (g, m, l)
      told N (unsolvable h) = h

      go : (d : Dec (Terms ar 1 s)) (e : Dec (Terms ar 1 t)) → RightBindings s t (asked s t d e)
      go (yes a) (yes b) = told (variables (s ++ t)) (solve s t a b)
      go (yes a) (no h) = absurd (h q)
      go (no h) e = absurd (h p)
