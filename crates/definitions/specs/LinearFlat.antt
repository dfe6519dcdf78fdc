-- Candidates on flat lists of items: where no variable stands twice, a candidate is an answer.
-- A device of Linear's proof (SCOPE.md, 'The relations themselves').
use Rattle.std.specs.Prelude.{◌≡◌, refl, ◌≢◌, Bool, true, false, List, [], ◌∷◌, ◌++◌, ℕ, zero, suc, ◌+◌, ◌<◌, T}
use Rattle.std.proofs.Common.{sym, ap, ◌∙◌, inl, inr, arith}
use Rattle.std.proofs.Math.Decide.{ℕ_discrete}
use Rattle.theory.specs.Flat.{Item, sy, va, Terms}
use Rattle.theory.specs.Subst.{vars, app, app_append, app_vars, Occurs, in_left, in_right, app_agree, Sub}
use Rattle.theory.specs.Unify.{pick_decided}
use Rattle.theory.specs.Items.{shift, shift_terms}
use Rattle.theory.specs.Relations.{Turns, Renames}

-- l and m, k terms each, agree at each place met; a variable of l (if qv), or of m (if tv), agrees with any term
pub data Cand (ar : ℕ → ℕ) (qv tv : Bool) : ℕ → List Item → List Item → Type 0 where
  done : Cand ar qv tv zero [] []
  both : {k x y : ℕ} {l m : List Item} → Cand ar qv tv k l m → Cand ar qv tv (suc k) (va x ∷ l) (va y ∷ m)
  symb : {k : ℕ} (s : ℕ) {l m : List Item} → Cand ar qv tv (ar s + k) l m → Cand ar qv tv (suc k) (sy s ∷ l) (sy s ∷ m)
  qvar : {k x : ℕ} {l m : List Item} (u : List Item) → T qv → Terms ar 1 u → Cand ar qv tv k l m
      → Cand ar qv tv (suc k) (va x ∷ l) (u ++ m)
  tvar : {k y : ℕ} {l m : List Item} (u : List Item) → T tv → Terms ar 1 u → Cand ar qv tv k l m
      → Cand ar qv tv (suc k) (u ++ l) (va y ∷ m)

-- no variable stands twice
abbrev pub Lin : List Item → Type 0
Lin [] = Unit {0}
Lin (sy s ∷ l) = Lin l
Lin (va x ∷ l) = (¬ Occurs x l) × Lin l

pub lin_right : (u m : List Item) → Lin (u ++ m) → Lin m
lin_right [] m h = h
lin_right (sy s ∷ u) m h = lin_right u m h
lin_right (va x ∷ u) m h = lin_right u m h.1

pub lin_apart : (u m : List Item) → Lin (u ++ m) → (x : ℕ) → Occurs x u → Occurs x m → ⊥
lin_apart [] m h x i j = i
lin_apart (sy s ∷ u) m h x i j = lin_apart u m h x i j
lin_apart (va y ∷ u) m h x (inl e) j = h.0 (in_right y u m (rw e at j))
lin_apart (va y ∷ u) m h x (inr i) j = lin_apart u m h.1 x i j

-- σ with x sent to u
abbrev pub put_value : ℕ → List Item → (ℕ → List Item) → ℕ → List Item
put_value x u σ y = pick_decided (ℕ_discrete x y) u (σ y)

put_same : (x : ℕ) (u : List Item) (σ : ℕ → List Item) → put_value x u σ x ≡ u
put_same x u σ = go (ℕ_discrete x x)
  where
    go : (d : Dec (x ≡ x)) → pick_decided d u (σ x) ≡ u
    go (yes e) = refl
    go (no f) = absurd (f refl)

put_other : (x : ℕ) (u : List Item) (σ : ℕ → List Item) (y : ℕ) → x ≢ y → put_value x u σ y ≡ σ y
put_other x u σ y h = go (ℕ_discrete x y)
  where
    go : (d : Dec (x ≡ y)) → pick_decided d u (σ y) ≡ σ y
    go (yes e) = absurd (h e)
    go (no f) = refl

app_put : (x : ℕ) (u : List Item) (σ : ℕ → List Item) (l : List Item) → ¬ Occurs x l → app (put_value x u σ) l ≡ app σ l
app_put x u σ l h = app_agree (put_value x u σ) σ l (λ y i. put_other x u σ y (λ e. h (rw e i)))

module _ (ar : ℕ → ℕ) where
  put_sub : (x : ℕ) (u : List Item) (σ : ℕ → List Item) → Terms ar 1 u → Sub ar σ → Sub ar (put_value x u σ)
  put_sub x u σ h w y = go (ℕ_discrete x y)
    where
      go : (d : Dec (x ≡ y)) → Terms ar 1 (pick_decided d u (σ y))
      go (yes e) = h
      go (no f) = w y

  -- instance: a candidate with no repeated variable is one
  pub lin_instance : (k : ℕ) (l m : List Item) → Cand ar true false k l m → Lin l → Turns ar l m
  lin_instance k l m done n = record { by = vars; sub = λ x. tt; turns = refl }
  lin_instance k l m (both {x = x} {y = y} {l = l'} {m = m'} c) n = let h = lin_instance _ l' m' c n.1 in
      record { by = put_value x (vars y) h.by; sub = put_sub x (vars y) h.by tt h.sub; turns = rw (put_same, app_put x (vars y) h.by l' n.0, h.turns) }
  lin_instance k l m (symb s c) n = let h = lin_instance _ _ _ c n in record { by = h.by; sub = h.sub; turns = ap {B = List Item} (λ r. sy s ∷ r) h.turns }
  lin_instance k l m (qvar {x = x} {l = l'} {m = m'} u q t c) n = let h = lin_instance _ l' m' c n.1 in
      record { by = put_value x u h.by; sub = put_sub x u h.by t h.sub; turns = rw (put_same, app_put x u h.by l' n.0, h.turns) }
  lin_instance k l m (tvar u q t c) n = absurd q

  -- σ makes l and m the same; what stands in neither stays
  pub record LinUnify (l m : List Item) : Type 0 where
    pub by : ℕ → List Item
    pub sub : Sub ar by
    pub same : app by l ≡ app by m
    pub outside : (z : ℕ) → ¬ Occurs z l → ¬ Occurs z m → by z ≡ vars z

  -- one more variable x against u
  lin_step : (x : ℕ) (u l m : List Item) → Terms ar 1 u → ¬ Occurs x l → ¬ Occurs x u → ¬ Occurs x m
      → ((y : ℕ) → Occurs y u → (Occurs y l → ⊥) × (Occurs y m → ⊥)) → LinUnify l m → LinUnify (va x ∷ l) (u ++ m)
  lin_step x u l m t a b c d h = record {
    by = put_value x u h.by;
    sub = put_sub x u h.by t h.sub;
    same = rw (put_same, app_append, app_put x u h.by l a, app_put x u h.by u b, app_put x u h.by m c, h.same, fix) refl;
    outside = λ z i j. put_other x u h.by z (λ e. i (inl (sym e))) ∙ h.outside z (λ k. i (inr k)) (λ k. j (in_right z u m k));
  }
    where
      fix : app h.by u ≡ u
      fix = app_agree h.by vars u (λ y i. h.outside y (d y i).0 (d y i).1) ∙ app_vars u

  lin_swap : (l m : List Item) → LinUnify l m → LinUnify m l
  lin_swap l m h = record { by = h.by; sub = h.sub; same = sym h.same; outside = λ z i j. h.outside z j i }

  pub lin_unify : (k : ℕ) (l m : List Item) → Cand ar true true k l m → Lin l → Lin m → ((z : ℕ) → Occurs z l → Occurs z m → ⊥) → LinUnify l m
  lin_unify k l m done n p a = record { by = vars; sub = λ x. tt; same = refl; outside = λ z i j. refl }
  lin_unify k l m (both {x = x} {y = y} {l = l'} {m = m'} c) n p a =
      lin_step x (vars y) l' m' tt n.0 (λ i. a x (inl refl) (in_left x (vars y) m' i)) (λ i. a x (inl refl) (inr i))
      (λ z i. ((λ j. a z (inr j) (in_left z (vars y) m' i)), (λ j. lin_apart (vars y) m' p z i j)))
      (lin_unify _ l' m' c n.1 p.1 (λ z i j. a z (inr i) (inr j)))
  lin_unify k l m (symb s {l = l'} {m = m'} c) n p a =
      let h = lin_unify _ l' m' c n p a in
      record { by = h.by; sub = h.sub; same = ap {B = List Item} (λ r. sy s ∷ r) h.same; outside = h.outside }
  lin_unify k l m (qvar {x = x} {l = l'} {m = m'} u q t c) n p a =
      lin_step x u l' m' t n.0 (λ i. a x (inl refl) (in_left x u m' i)) (λ i. a x (inl refl) (in_right x u m' i))
      (λ z i. ((λ j. a z (inr j) (in_left z u m' i)), (λ j. lin_apart u m' p z i j)))
      (lin_unify _ l' m' c n.1 (lin_right u m' p) (λ z i j. a z (inr i) (in_right z u m' j)))
  lin_unify k l m (tvar {y = y} {l = l'} {m = m'} u q t c) n p a =
      lin_swap (va y ∷ m') (u ++ l') (lin_step y u m' l' t p.0 (λ i. a y (in_left y u l' i) (inl refl)) (λ i. a y (in_right y u l' i) (inl refl))
      (λ z i. ((λ j. a z (in_left z u l' i) (inr j)), (λ j. lin_apart u l' n z i j)))
      (lin_swap l' m' (lin_unify _ l' m' c (lin_right u l' n) p.1 (λ z i j. a z (in_right z u l' i) (inr j)))))

  -- a renaming
  abbrev pub ren : (ℕ → ℕ) → ℕ → List Item
  ren ρ x = vars (ρ x)

  abbrev pub putn : ℕ → ℕ → (ℕ → ℕ) → ℕ → ℕ
  putn x u ρ y = pick_decided (ℕ_discrete x y) u (ρ y)

  putn_same : (x u : ℕ) (ρ : ℕ → ℕ) → putn x u ρ x ≡ u
  putn_same x u ρ = go (ℕ_discrete x x)
    where
      go : (d : Dec (x ≡ x)) → pick_decided d u (ρ x) ≡ u
      go (yes e) = refl
      go (no f) = absurd (f refl)

  app_putn : (x u : ℕ) (ρ : ℕ → ℕ) (l : List Item) → ¬ Occurs x l → app (ren (putn x u ρ)) l ≡ app (ren ρ) l
  app_putn x u ρ l h = app_agree (ren (putn x u ρ)) (ren ρ) l (λ y i. go y (ℕ_discrete x y) i)
    where
      go : (y : ℕ) (d : Dec (x ≡ y)) → Occurs y l → vars (pick_decided d u (ρ y)) ≡ vars (ρ y)
      go y (yes e) i = absurd (h (rw e i))
      go y (no f) i = refl

  pub lin_variant : (k : ℕ) (l m : List Item) → Cand ar false false k l m → Lin l → Renames l m
  lin_variant k l m done n = record { to = λ x. x; turns = refl }
  lin_variant k l m (both {x = x} {y = y} {l = l'} {m = m'} c) n = let h = lin_variant _ l' m' c n.1 in
      record { to = putn x y h.to; turns = rw (putn_same, app_putn x y h.to l' n.0, h.turns) }
  lin_variant k l m (symb s c) n = let h = lin_variant _ _ _ c n in record { to = h.to; turns = ap {B = List Item} (λ r. sy s ∷ r) h.turns }
  lin_variant k l m (qvar u q t c) n = absurd q
  lin_variant k l m (tvar u q t c) n = absurd q

  shift_append : (n : ℕ) (l m : List Item) → shift n (l ++ m) ≡ shift n l ++ shift n m
  shift_append n [] m = refl
  shift_append n (sy s ∷ l) m = rw (shift_append n l m)
  shift_append n (va x ∷ l) m = rw (shift_append n l m)

  -- candidates do not look at the numbers of variables
  pub cand_shift : (qv tv : Bool) (n k : ℕ) (l m : List Item) → Cand ar qv tv k l m → Cand ar qv tv k l (shift n m)
  cand_shift qv tv n k l m done = done
  cand_shift qv tv n k l m (both c) = both (cand_shift qv tv n _ _ _ c)
  cand_shift qv tv n k l m (symb s c) = symb s (cand_shift qv tv n _ _ _ c)
  cand_shift qv tv n k l m (qvar {m = m'} u q t c) = rw (shift_append n u m') (qvar (shift n u) q (shift_terms ar n 1 u t) (cand_shift qv tv n _ _ _ c))
  cand_shift qv tv n k l m (tvar u q t c) = tvar u q t (cand_shift qv tv n _ _ _ c)

-- shifted variables: no more often than before, and from n on
pub in_shift : (n x : ℕ) (l : List Item) → Occurs x (shift n l) → (y : ℕ) × (x ≡ n + y) × Occurs y l
in_shift n x [] h = absurd h
in_shift n x (sy s ∷ l) h = in_shift n x l h
in_shift n x (va y ∷ l) (inl e) = (y, e, inl refl)
in_shift n x (va y ∷ l) (inr h) = let r = in_shift n x l h in (r.0, r.1, inr r.2)

pub lin_shift : (n : ℕ) (l : List Item) → Lin l → Lin (shift n l)
lin_shift n [] h = tt
lin_shift n (sy s ∷ l) h = lin_shift n l h
lin_shift n (va x ∷ l) h = ((λ i. let r = in_shift n (n + x) l i in h.0 (let e : x ≡ r.0 = omega (arith, r.1) in rw e r.2)), lin_shift n l h.1)

-- the variables of a list are below n
abbrev pub VariablesBelow : ℕ → List Item → Type 0
VariablesBelow n l = (x : ℕ) → Occurs x l → x < n

pub shift_apart : (n : ℕ) (l m : List Item) → VariablesBelow n l → (z : ℕ) → Occurs z l → Occurs z (shift n m) → ⊥
shift_apart n l m b z i j = let r = in_shift n z m j in omega (arith, b z i, r.1)
