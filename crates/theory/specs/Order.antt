-- Serves SCOPE.md, 'The solver's record' ('with all bindings carried through'): following the bindings comes to an
-- end: a list of the bound variables in which each value mentions only later ones.
use Rattle.std.specs.Prelude.{◌≡◌, refl, ◌⊎◌, List, [], ◌∷◌, ◌++◌, ℕ, zero, suc, ◌+◌, ◌≤◌, length}
use Rattle.std.proofs.Common.{inl, inr, arith, length-append}
use Rattle.theory.specs.Flat.{Item}
use Rattle.theory.specs.Subst.{app, Occurs, in?, in_app_of}
use Rattle.theory.specs.Unify.{Bind, ◌:=◌, full, GoodBindings, Unbound, unbound, solved, Has, solves_has}
use Rattle.theory.specs.Unify.{not_both}

abbrev pub Mem : ℕ → List ℕ → Type 0
Mem x [] = ⊥
Mem x (y ∷ O) = (x ≡ y) ⊎ Mem x O

pub mem_left : (x : ℕ) (O T : List ℕ) → Mem x O → Mem x (O ++ T)
mem_left x [] T h = absurd h
mem_left x (y ∷ O) T (inl e) = inl e
mem_left x (y ∷ O) T (inr h) = inr (mem_left x O T h)

pub mem_right : (x : ℕ) (O T : List ℕ) → Mem x T → Mem x (O ++ T)
mem_right x [] T h = h
mem_right x (y ∷ O) T h = inr (mem_right x O T h)

abbrev pub pre : {A : Type 0} → Dec A → ℕ → List ℕ → List ℕ
pre (yes a) y O = y ∷ O
pre (no f) y O = O

abbrev pub pre' : {A : Type 0} → Dec A → ℕ → List ℕ → List ℕ
pre' (yes a) y O = O
pre' (no f) y O = y ∷ O

-- of O, the variables in whose value x stands; and the others
abbrev pub keep : ℕ → (ℕ → List Item) → List ℕ → List ℕ
keep x θ [] = []
keep x θ (y ∷ O) = pre (in? x (θ y)) y (keep x θ O)

abbrev pub lose : ℕ → (ℕ → List Item) → List ℕ → List ℕ
lose x θ [] = []
lose x θ (y ∷ O) = pre' (in? x (θ y)) y (lose x θ O)

keep_lose : (x : ℕ) (θ : ℕ → List Item) (O : List ℕ) → length (keep x θ O) + length (lose x θ O) ≡ length O
keep_lose x θ [] = refl
keep_lose x θ (y ∷ O) = go (in? x (θ y)) (keep_lose x θ O)
  where
    go : (d : Dec (Occurs x (θ y))) → length (keep x θ O) + length (lose x θ O) ≡ length O → length (pre d y (keep x θ O)) + length (pre' d y (lose x θ O)) ≡ suc (length O)
    go (yes a) h = omega arith
    go (no f) h = omega arith

keep_mem : (x : ℕ) (θ : ℕ → List Item) (z : ℕ) (O : List ℕ) → Mem z O → Occurs x (θ z) → Mem z (keep x θ O)
keep_mem x θ z [] m i = m
keep_mem x θ z (y ∷ O) m i = go (in? x (θ y)) m (λ n. keep_mem x θ z O n i)
  where
    go : (d : Dec (Occurs x (θ y))) → (z ≡ y) ⊎ Mem z O → (Mem z O → Mem z (keep x θ O)) → Mem z (pre d y (keep x θ O))
    go (yes a) (inl e) h = inl e
    go (yes a) (inr n) h = inr (h n)
    go (no f) (inl e) h = absurd (f (rw e at i))
    go (no f) (inr n) h = h n

lose_mem : (x : ℕ) (θ : ℕ → List Item) (z : ℕ) (O : List ℕ) → Mem z O → ¬ Occurs x (θ z) → Mem z (lose x θ O)
lose_mem x θ z [] m i = m
lose_mem x θ z (y ∷ O) m i = go (in? x (θ y)) m (λ n. lose_mem x θ z O n i)
  where
    go : (d : Dec (Occurs x (θ y))) → (z ≡ y) ⊎ Mem z O → (Mem z O → Mem z (lose x θ O)) → Mem z (pre' d y (lose x θ O))
    go (yes a) (inl e) h = absurd (i (rw e a))
    go (yes a) (inr n) h = h n
    go (no f) (inl e) h = inl e
    go (no f) (inr n) h = inr (h n)

-- each bound variable of l is in O
abbrev pub BoundIn : List Bind → List Item → List ℕ → Type 0
BoundIn B l O = (z : ℕ) → Occurs z l → (v : List Item) → Has z v B → Mem z O

abbrev pub Topo : List Bind → List ℕ → Type 0
Topo B [] = Unit {0}
Topo B (y ∷ O) = ((u : List Item) → Has y u B → BoundIn B u O) × Topo B O

abbrev pub binding_order : List Bind → List ℕ
binding_order [] = []
binding_order ((x := t) ∷ B) = keep x (full B) (binding_order B) ++ x ∷ lose x (full B) (binding_order B)

module _ (B : List Bind) (g : GoodBindings B) (x : ℕ) (t : List Item) (n : Unbound x B) (c : ¬ Occurs x (app (full B) t)) where
  -- θ x is x
  at_x : Occurs x (full B x)
  at_x = rw (unbound x B n) (inl refl)

  -- what a value of y mentions is below y
  up : (y z : ℕ) (u : List Item) → Has y u B → Occurs z u → Occurs x (full B z) → Occurs x (full B y)
  up y z u h i j = rw (solves_has (full B) y u B h (solved B g)) (in_app_of (full B) x z u i j)

  lose_topo : (O : List ℕ) → Topo B O → Topo ((x := t) ∷ B) (lose x (full B) O)
  lose_topo [] p = tt
  lose_topo (y ∷ O) p = go (in? x (full B y)) (lose_topo O p.1)
    where
      go : (d : Dec (Occurs x (full B y))) → Topo ((x := t) ∷ B) (lose x (full B) O) → Topo ((x := t) ∷ B) (pre' d y (lose x (full B) O))
      go (yes a) r = r
      go (no f) r = (at, r)
        where
          at : (u : List Item) → Has y u ((x := t) ∷ B) → BoundIn ((x := t) ∷ B) u (lose x (full B) O)
          at u (inl e) z i v k = absurd (f (rw e.0 at_x))
          at u (inr h) z i v (inl e) = absurd (f (up y z u h i (rw e.0 at_x)))
          at u (inr h) z i v (inr k) = lose_mem x (full B) z O (p.0 u h z i v k) (λ j. f (up y z u h i j))

  keep_topo : (O T : List ℕ) → ((z : ℕ) → Mem z O → (u : List Item) × Has z u B) → Mem x T → ((z : ℕ) → Mem z O → ¬ Occurs x (full B z) → Mem z T) → Topo ((x := t) ∷ B) T → Topo B O → Topo ((x := t) ∷ B) (keep x (full B) O ++ T)
  keep_topo [] T b m s q p = q
  keep_topo (y ∷ O) T b m s q p = go (in? x (full B y)) (keep_topo O T (λ z k. b z (inr k)) m (λ z k. s z (inr k)) q p.1)
    where
      go : (d : Dec (Occurs x (full B y))) → Topo ((x := t) ∷ B) (keep x (full B) O ++ T) → Topo ((x := t) ∷ B) (pre d y (keep x (full B) O) ++ T)
      go (no f) r = r
      go (yes a) r = (at, r)
        where
          side : (z : ℕ) → Mem z O → Dec (Occurs x (full B z)) → Mem z (keep x (full B) O ++ T)
          side z k (yes j) = mem_left z (keep x (full B) O) T (keep_mem x (full B) z O k j)
          side z k (no j) = mem_right z (keep x (full B) O) T (s z (inr k) j)

          at : (u : List Item) → Has y u ((x := t) ∷ B) → BoundIn ((x := t) ∷ B) u (keep x (full B) O ++ T)
          at u h z i v (inl e) = mem_right z (keep x (full B) O) T (rw e.0 m)
          at u (inr h) z i v (inr k) = side z (p.0 u h z i v k) (in? x (full B z))
          at u (inl e) z i v (inr k) = let w = b y (inl refl) in absurd (not_both y w.0 B (rw e.0 n) w.1)

keep_sub : (x : ℕ) (θ : ℕ → List Item) (z : ℕ) (O : List ℕ) → Mem z (keep x θ O) → Mem z O
keep_sub x θ z [] m = m
keep_sub x θ z (y ∷ O) m = go (in? x (θ y)) m (keep_sub x θ z O)
  where
    go : (d : Dec (Occurs x (θ y))) → Mem z (pre d y (keep x θ O)) → (Mem z (keep x θ O) → Mem z O) → (z ≡ y) ⊎ Mem z O
    go (yes a) (inl e) h = inl e
    go (yes a) (inr n) h = inr (h n)
    go (no f) n h = inr (h n)

lose_sub : (x : ℕ) (θ : ℕ → List Item) (z : ℕ) (O : List ℕ) → Mem z (lose x θ O) → Mem z O
lose_sub x θ z [] m = m
lose_sub x θ z (y ∷ O) m = go (in? x (θ y)) m (lose_sub x θ z O)
  where
    go : (d : Dec (Occurs x (θ y))) → Mem z (pre' d y (lose x θ O)) → (Mem z (lose x θ O) → Mem z O) → (z ≡ y) ⊎ Mem z O
    go (no f) (inl e) h = inl e
    go (no f) (inr n) h = inr (h n)
    go (yes a) n h = inr (h n)

mem_append : (x : ℕ) (O T : List ℕ) → Mem x (O ++ T) → Mem x O ⊎ Mem x T
mem_append x [] T h = inr h
mem_append x (y ∷ O) T (inl e) = inl (inl e)
mem_append x (y ∷ O) T (inr h) = go (mem_append x O T h)
  where
    go : Mem x O ⊎ Mem x T → ((x ≡ y) ⊎ Mem x O) ⊎ Mem x T
    go (inl a) = inl (inr a)
    go (inr b) = inr b

-- the order has as many variables as there are bindings, just the bound ones, each above what its value mentions
pub order_length : (B : List Bind) → length (binding_order B) ≡ length B
order_length [] = refl
order_length ((x := t) ∷ B) = simp length-append (omega (arith, keep_lose x (full B) (binding_order B), order_length B))

pub order_bound : (B : List Bind) (z : ℕ) → Mem z (binding_order B) → (u : List Item) × Has z u B
order_bound [] z m = absurd m
order_bound ((x := t) ∷ B) z m = go (order_bound B z) (mem_append z (keep x (full B) (binding_order B)) (x ∷ lose x (full B) (binding_order B)) m)
  where
    old : ((u : List Item) × Has z u B) → (u : List Item) × Has z u ((x := t) ∷ B)
    old h = (h.0, inr h.1)

    go : (Mem z (binding_order B) → (u : List Item) × Has z u B) → Mem z (keep x (full B) (binding_order B)) ⊎ ((z ≡ x) ⊎ Mem z (lose x (full B) (binding_order B))) → (u : List Item) × Has z u ((x := t) ∷ B)
    go ih (inl k) = old (ih (keep_sub x (full B) z (binding_order B) k))
    go ih (inr (inl e)) = (t, inl (e, refl))
    go ih (inr (inr k)) = old (ih (lose_sub x (full B) z (binding_order B) k))

pub order_all : (B : List Bind) (z : ℕ) (u : List Item) → Has z u B → Mem z (binding_order B)
order_all [] z u h = h
order_all ((x := t) ∷ B) z u (inl e) = mem_right z (keep x (full B) (binding_order B)) (x ∷ lose x (full B) (binding_order B)) (inl e.0)
order_all ((x := t) ∷ B) z u (inr h) = go (order_all B z u h) (in? x (full B z))
  where
    go : Mem z (binding_order B) → Dec (Occurs x (full B z)) → Mem z (binding_order ((x := t) ∷ B))
    go m (yes j) = mem_left z (keep x (full B) (binding_order B)) (x ∷ lose x (full B) (binding_order B)) (keep_mem x (full B) z (binding_order B) m j)
    go m (no j) = mem_right z (keep x (full B) (binding_order B)) (x ∷ lose x (full B) (binding_order B)) (inr (lose_mem x (full B) z (binding_order B) m j))

pub order_topo : (B : List Bind) → GoodBindings B → Topo B (binding_order B)
order_topo [] g = tt
order_topo ((x := t) ∷ B) g =
    keep_topo B g.2 x t g.0 g.1 (binding_order B) (x ∷ lose x (full B) (binding_order B)) (order_bound B) (inl refl)
    (λ z m j. inr (lose_mem x (full B) z (binding_order B) m j))
    (last, lose_topo B g.2 x t g.0 g.1 (binding_order B) (order_topo B g.2))
    (order_topo B g.2)
  where
    last : (u : List Item) → Has x u ((x := t) ∷ B) → BoundIn ((x := t) ∷ B) u (lose x (full B) (binding_order B))
    last u (inr h) z i v k = absurd (not_both x u B g.0 h)
    last u (inl e) z i v (inl d) = absurd (g.1 (in_app_of (full B) x z t (rw e.1 at i) (rw (d.0, unbound x B g.0) (inl refl))))
    last u (inl e) z i v (inr k) = lose_mem x (full B) z (binding_order B) (order_all B z v k) (λ j. g.1 (in_app_of (full B) x z t (rw e.1 at i) j))

-- following the bindings from l ends within d levels
abbrev pub FollowingEnds : List Bind → ℕ → List Item → Type 0
FollowingEnds B zero l = (y : ℕ) → Occurs y l → (u : List Item) → Has y u B → ⊥
FollowingEnds B (suc d) l = (y : ℕ) → Occurs y l → (u : List Item) → Has y u B → FollowingEnds B d u

topo_ends_go : (B : List Bind) (d y : ℕ) (u : List Item) → Has y u B → (O : List ℕ) → Topo B O → length O ≤ suc d → Mem y O
    → ((O : List ℕ) → Topo B O → length O ≤ d → (l : List Item) → BoundIn B l O → FollowingEnds B d l) → FollowingEnds B d u
topo_ends_go B d y u k [] p b m ih = absurd m
topo_ends_go B d y u k (z ∷ O) p b (inl e) ih = ih O p.1 (omega arith) u (p.0 u (rw e at k))
topo_ends_go B d y u k (z ∷ O) p b (inr m) ih = topo_ends_go B d y u k O p.1 (omega arith) m ih

pub topo_ends : (B : List Bind) (d : ℕ) (O : List ℕ) → Topo B O → length O ≤ d → (l : List Item) → BoundIn B l O → FollowingEnds B d l
topo_ends B zero [] p b l h = h
topo_ends B zero (y ∷ O) p b l h = absurd (omega arith)
topo_ends B (suc d) O p b l h = λ y i u k. topo_ends_go B d y u k O p b (h y i u k) (topo_ends B d)

pub ends : (B : List Bind) → GoodBindings B → (l : List Item) → FollowingEnds B (length B) l
ends B g l = topo_ends B (length B) (binding_order B) (order_topo B g) (omega (arith, order_length B)) l (λ z i v k. order_all B z v k)
