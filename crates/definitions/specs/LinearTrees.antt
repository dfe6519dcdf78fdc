-- From trees to flat lists of items: candidates of trees are candidates of lists, and whatever substitutions make the
-- same is a candidate. Devices of Linear's proof (SCOPE.md, 'The relations themselves').
use Rattle.std.specs.Prelude.{ℕ, suc, ◌+◌, ◌-◌, ◌<◌, ◌≡◌, refl, ◌⊎◌, Bool, true, false, T, eqb}
use Rattle.std.proofs.Common.{sym, ◌∙◌, zero-add, suc-add, arith, leb-true, le-leb, le-ltb, lt-ltb, eqb-true, eq-eqb}
use Rattle.std.proofs.Math.Path.{ap}
use Rattle.std.proofs.Math.Logic.{inl, inr}
use mathlib.Core.List.{List, [], ◌∷◌, ◌++◌, append_assoc}
use Rattle.std.proofs.lemmas.Bool.{lt-leb, eqb-false}
use Rattle.laws.specs.Choice.{pick}
use Rattle.keys.specs.Keys.{Tm, Args, node, nil, cons}
use Rattle.terms.specs.Terms.{Signed}
use Rattle.theory.specs.Flat.{Item, sy, va, Terms, terms_append, readable}
use Rattle.theory.specs.Subst.{vars, app, app_append, Sub, app_terms, Occurs, in_append}
use Rattle.theory.specs.Items.{item16, items16, shift}
use Rattle.definitions.specs.Trees.{count_args, items_t, items_a, IsSymbol, Variable, Shaped, Shapes}
use Rattle.definitions.specs.Candidates.{is_variable, agree, agree_all}
use Rattle.definitions.specs.Spelt.{clash}
use Rattle.definitions.specs.LinearFlat.{VariablesBelow, Cand, both, symb, qvar, tvar}
use Rattle.laws.specs.Sizes.{variable_base}
use Rattle.terms.specs.Terms.{arity}

holds : (b : Bool) → b ≡ true → T b
holds true h = tt
holds false h = clash h

items_append : (l m : List ℕ) → items16 (l ++ m) ≡ items16 l ++ items16 m
items_append [] m = refl
items_append (x ∷ l) m = rw (items_append l m)

-- the items of a tree, and of trees
abbrev pub flat : Tm → List Item
flat u = items16 (items_t u)

abbrev pub flats : Args → List Item
flats us = items16 (items_a us)

flats_nil : flats nil ≡ []
unfolding items_t
flats_nil = refl

flats_cons : (u : Tm) (us : Args) → flats (cons u us) ≡ flat u ++ flats us
unfolding items_t
flats_cons u us = items_append (items_t u) (items_a us)

bare : (us : Args) → count_args us ≡ 0 → flats us ≡ []
unfolding items_t count_args
bare nil c = refl
bare (cons u us) c = absurd (omega arith)

flat_node : (x : ℕ) (us : Args) → flat (node x us) ≡ item16 x ∷ flats us
unfolding items_t
flat_node x us = refl

module _ (sig : List ℕ) (g : Signed sig) where
  abbrev ar : ℕ → ℕ
  ar = arity sig

  -- a tree is a variable, or a symbol with its arguments
  abbrev View : ℕ → Args → Type 0
  View x us = ((is_variable x ≡ true) × (flat (node x us) ≡ vars (x - variable_base)))
      ⊎ ((is_variable x ≡ false) × (flat (node x us) ≡ sy x ∷ flats us) × (count_args us ≡ ar x))

  view : (x : ℕ) (us : Args) → Shaped sig (node x us) → View x us
  unfolding Shaped
  view x us w = go w.0
    where
      go : (IsSymbol sig x × (count_args us ≡ arity sig x)) ⊎ (Variable x × (count_args us ≡ 0)) → View x us
      go (inl h) = let l : x < variable_base = omega (arith, h.0, g.short) in inr (lt-leb variable_base x l, flat_node x us ∙ rw (lt-ltb x variable_base l), h.1)
      go (inr h) = inl (le-leb variable_base x h.0.0, flat_node x us ∙ ap {B = List Item} (λ r. item16 x ∷ r) (bare us h.1) ∙ rw (le-ltb x variable_base h.0.0))

  mutual
    unfolding Shaped count_args

    pub flat_terms : (u : Tm) → Shaped sig u → Terms ar 1 (flat u)
    flat_terms (node x us) w = go (view x us w) (flats_terms us w.1)
      where
        go : View x us → Terms ar (count_args us) (flats us) → Terms ar 1 (flat (node x us))
        go (inl h) t = rw h.1 tt
        go (inr h) t = let e : count_args us ≡ ar x + 0 = omega (arith, h.2) in rw h.1 (rw e at t)

    flats_terms : (us : Args) → Shapes sig us → Terms ar (count_args us) (flats us)
    flats_terms nil w = rw flats_nil tt
    flats_terms (cons u us) w =
        let e : 1 + count_args us ≡ suc (count_args us) = omega arith in
        rw (flats_cons u us, ← e) (terms_append ar 1 (count_args us) (flat u) (flats us) (flat_terms u w.0) (flats_terms us w.1))

  module _ (qv tv : Bool) where
    -- trees that agree, put before lists that agree
    mutual
      unfolding agree Shaped count_args

      pub agree_cand : (q t : Tm) → Shaped sig q → Shaped sig t → agree qv tv q t ≡ true → (k : ℕ) (l m : List Item) → Cand ar qv tv k l m
          → Cand ar qv tv (suc k) (flat q ++ l) (flat t ++ m)
      agree_cand (node x us) (node y vs) w v a k l m c = go (view x us w) (view y vs v) a (λ e s. agree_all_cand us vs w.1 v.1 e s k l m c)
        where
          go : View x us → View y vs
              → pick (is_variable x) (pick (is_variable y) true qv) (pick (is_variable y) tv (pick (eqb x y) (agree_all qv tv us vs) false)) ≡ true
              → (agree_all qv tv us vs ≡ true → count_args us ≡ count_args vs → Cand ar qv tv (count_args us + k) (flats us ++ l) (flats vs ++ m))
              → Cand ar qv tv (suc k) (flat (node x us) ++ l) (flat (node y vs) ++ m)
          go (inl h) (inl i) a f = rw (h.1, i.1) (both c)
          go (inl h) (inr i) a f = rw h.1 (qvar (flat (node y vs)) (holds qv (rw (h.0, i.0) at a)) (flat_terms (node y vs) v) c)
          go (inr h) (inl i) a f = rw i.1 (tvar (flat (node x us)) (holds tv (rw (h.0, i.0) at a)) (flat_terms (node x us) w) c)
          go (inr h) (inr i) a f = fit (eqb x y) refl (rw (h.0, i.0) at a)
            where
              fit : (b : Bool) → eqb x y ≡ b → pick b (agree_all qv tv us vs) false ≡ true → Cand ar qv tv (suc k) (flat (node x us) ++ l) (flat (node y vs) ++ m)
              fit true e z =
                  let q : y ≡ x = sym (eqb-true x y e) in
                  rw (h.1, i.1, q) (symb x (rw h.2 at (f z (h.2 ∙ sym (ap ar q) ∙ sym i.2))))
              fit false e z = clash z

      agree_all_cand : (us vs : Args) → Shapes sig us → Shapes sig vs → agree_all qv tv us vs ≡ true → count_args us ≡ count_args vs → (k : ℕ) (l m : List Item) → Cand ar qv tv k l m
          → Cand ar qv tv (count_args us + k) (flats us ++ l) (flats vs ++ m)
      agree_all_cand nil nil w v a e k l m c = rw (flats_nil, zero-add) c
      agree_all_cand nil (cons u vs) w v a e k l m c = absurd (omega arith)
      agree_all_cand (cons u us) nil w v a e k l m c = absurd (omega arith)
      agree_all_cand (cons u us) (cons z vs) w v a e k l m c = go (agree qv tv u z) refl a (λ b d. agree_cand u z w.0 v.0 b (count_args us + k) (flats us ++ l) (flats vs ++ m) d)
          (λ b. agree_all_cand us vs w.1 v.1 b (omega arith) k l m c)
        where
          go : (b : Bool) → agree qv tv u z ≡ b → pick b (agree_all qv tv us vs) false ≡ true
              → (agree qv tv u z ≡ true → Cand ar qv tv (count_args us + k) (flats us ++ l) (flats vs ++ m) → Cand ar qv tv (suc (count_args us + k)) (flat u ++ (flats us ++ l)) (flat z ++ (flats vs ++ m)))
              → (agree_all qv tv us vs ≡ true → Cand ar qv tv (count_args us + k) (flats us ++ l) (flats vs ++ m))
              → Cand ar qv tv (suc (count_args us) + k) (flats (cons u us) ++ l) (flats (cons z vs) ++ m)
          go true e d f h = rw (flats_cons u us, flats_cons z vs, append_assoc (flat u) (flats us) l, append_assoc (flat z) (flats vs) m, suc-add) (f e (h d))
          go false e d f h = clash d

    -- no answer is missed: σ for the question's variables and τ for the stored term's make both the same;
    -- a side whose variables agree only with variables has only variables for values
    module _ (σ τ : ℕ → List Item) (σ-sub : Sub ar σ) (τ-sub : Sub ar τ)
        (σ-bare : qv ≡ false → (x : ℕ) → (z : ℕ) × (σ x ≡ vars z)) (τ-bare : tv ≡ false → (x : ℕ) → (z : ℕ) × (τ x ≡ vars z)) where
      -- a variable against a symbol
      left_open : (b : Bool) → qv ≡ b → (x y : ℕ) (l m : List Item) → σ x ++ l ≡ sy y ∷ m → b ≡ true
      left_open true e x y l m h = refl
      left_open false e x y l m h = let r = σ-bare e x in let d : σ x ≡ va r.0 ∷ [] = r.1 in let h' : va r.0 ∷ l ≡ sy y ∷ m = rw d at h in
          absurd (let z : ◌≡◌ {A = ℕ} 0 1 = cc in omega arith)

      right_open : (b : Bool) → tv ≡ b → (x y : ℕ) (l m : List Item) → sy x ∷ l ≡ τ y ++ m → b ≡ true
      right_open true e x y l m h = refl
      right_open false e x y l m h = let r = τ-bare e y in let d : τ y ≡ va r.0 ∷ [] = r.1 in let h' : sy x ∷ l ≡ va r.0 ∷ m = rw d at h in
          absurd (let z : ◌≡◌ {A = ℕ} 0 1 = cc in omega arith)

      mutual
        unfolding agree Shaped count_args

        pub same_agree : (q t : Tm) → Shaped sig q → Shaped sig t → (l m : List Item) → app σ (flat q ++ l) ≡ app τ (flat t ++ m) → (agree qv tv q t ≡ true) × (app σ l ≡ app τ m)
        same_agree (node x us) (node y vs) w v l m e = go (view x us w) (view y vs v) e (λ c d. sames_agree us vs w.1 v.1 c l m d)
          where
            go : View x us → View y vs → app σ (flat (node x us) ++ l) ≡ app τ (flat (node y vs) ++ m)
                → (count_args us ≡ count_args vs → app σ (flats us ++ l) ≡ app τ (flats vs ++ m) → (agree_all qv tv us vs ≡ true) × (app σ l ≡ app τ m))
                → (pick (is_variable x) (pick (is_variable y) true qv) (pick (is_variable y) tv (pick (eqb x y) (agree_all qv tv us vs) false)) ≡ true) × (app σ l ≡ app τ m)
            go (inl h) (inl i) e f =
                let d : σ (x - variable_base) ++ app σ l ≡ τ (y - variable_base) ++ app τ m = rw (h.1, i.1) at e in
                (rw (h.0, i.0), (readable ar 1 (σ (x - variable_base)) (τ (y - variable_base)) (app σ l) (app τ m) (σ-sub (x - variable_base)) (τ-sub (y - variable_base)) d).1)
            go (inl h) (inr i) e f =
                let d : σ (x - variable_base) ++ app σ l ≡ app τ (flat (node y vs)) ++ app τ m = rw (h.1, app_append τ (flat (node y vs)) m) at e in
                let s : σ (x - variable_base) ++ app σ l ≡ sy y ∷ app τ (flats vs ++ m) = rw (h.1, i.1) at e in (
                  rw (h.0, i.0) (left_open qv refl (x - variable_base) y (app σ l) (app τ (flats vs ++ m)) s),
                  (readable ar 1 (σ (x - variable_base)) (app τ (flat (node y vs))) (app σ l) (app τ m) (σ-sub (x - variable_base)) (app_terms ar τ τ-sub 1 (flat (node y vs)) (flat_terms (node y vs) v)) d).1,
                )
            go (inr h) (inl i) e f =
                let d : app σ (flat (node x us)) ++ app σ l ≡ τ (y - variable_base) ++ app τ m = rw (i.1, app_append σ (flat (node x us)) l) at e in
                let s : sy x ∷ app σ (flats us ++ l) ≡ τ (y - variable_base) ++ app τ m = rw (h.1, i.1) at e in (
                  rw (h.0, i.0) (right_open tv refl x (y - variable_base) (app σ (flats us ++ l)) (app τ m) s),
                  (readable ar 1 (app σ (flat (node x us))) (τ (y - variable_base)) (app σ l) (app τ m) (app_terms ar σ σ-sub 1 (flat (node x us)) (flat_terms (node x us) w)) (τ-sub (y - variable_base)) d).1,
                )
            go (inr h) (inr i) e f =
                let s : sy x ∷ app σ (flats us ++ l) ≡ sy y ∷ app τ (flats vs ++ m) = rw (h.1, i.1) at e in
                let q : x ≡ y = cc (s) in
                let d : app σ (flats us ++ l) ≡ app τ (flats vs ++ m) = cc (s) in
                let r = f (h.2 ∙ ap ar q ∙ sym i.2) d in
                (rw (h.0, i.0, eq-eqb x y q) r.0, r.1)

        sames_agree : (us vs : Args) → Shapes sig us → Shapes sig vs → count_args us ≡ count_args vs → (l m : List Item) → app σ (flats us ++ l) ≡ app τ (flats vs ++ m)
            → (agree_all qv tv us vs ≡ true) × (app σ l ≡ app τ m)
        sames_agree nil nil w v c l m e = (refl, rw (flats_nil) at e)
        sames_agree nil (cons u vs) w v c l m e = absurd (omega arith)
        sames_agree (cons u us) nil w v c l m e = absurd (omega arith)
        sames_agree (cons u us) (cons z vs) w v c l m e =
            let a = same_agree u z w.0 v.0 (flats us ++ l) (flats vs ++ m) (rw (flats_cons u us, flats_cons z vs, append_assoc (flat u) (flats us) l, append_assoc (flat z) (flats vs) m) at e) in
            let b = sames_agree us vs w.1 v.1 (omega arith) l m a.1 in
            (rw (a.0, b.0), b.1)

  -- a checked term's variables are 0 to 31
  mutual
    unfolding Shaped

    pub flat_below : (u : Tm) → Shaped sig u → VariablesBelow 32 (flat u)
    flat_below (node x us) w z i = go w.0 (view x us w) (λ j. flats_below us w.1 z j)
      where
        one : Variable x → Occurs z (vars (x - variable_base)) → z < 32
        one v (inl e) = omega (arith, e, v.0, v.1)
        one v (inr e) = absurd e

        go : (IsSymbol sig x × (count_args us ≡ arity sig x)) ⊎ (Variable x × (count_args us ≡ 0)) → View x us → (Occurs z (flats us) → z < 32) → z < 32
        go (inl h) (inl v) f = absurd (omega (arith, h.0, g.short, leb-true variable_base x v.0))
        go (inl h) (inr v) f = f (rw v.1 at i)
        go (inr h) (inl v) f = one h.0 (rw v.1 at i)
        go (inr h) (inr v) f = f (rw v.1 at i)

    flats_below : (us : Args) → Shapes sig us → VariablesBelow 32 (flats us)
    flats_below nil w z i = absurd (rw flats_nil at i)
    flats_below (cons u us) w z i = go (in_append z (flat u) (flats us) (rw (flats_cons u us) at i)) (λ j. flat_below u w.0 z j) (λ j. flats_below us w.1 z j)
      where
        go : Occurs z (flat u) ⊎ Occurs z (flats us) → (Occurs z (flat u) → z < 32) → (Occurs z (flats us) → z < 32) → z < 32
        go (inl h) f k = f h
        go (inr h) f k = k h

-- the table read from the other side
mutual
  unfolding agree

  pub agree_swap : (qv tv : Bool) (q t : Tm) → agree qv tv q t ≡ agree tv qv t q
  agree_swap qv tv (node x us) (node y vs) = go (is_variable x) (is_variable y) (eqb x y) (eqb y x) refl refl (agree_all_swap qv tv us vs)
    where
      go : (a b c d : Bool) → eqb x y ≡ c → eqb y x ≡ d → agree_all qv tv us vs ≡ agree_all tv qv vs us
          → pick a (pick b true qv) (pick b tv (pick c (agree_all qv tv us vs) false)) ≡ pick b (pick a true tv) (pick a qv (pick d (agree_all tv qv vs us) false))
      go true true c d e f h = refl
      go true false c d e f h = refl
      go false true c d e f h = refl
      go false false true true e f h = h
      go false false true false e f h = absurd (eqb-false y x f (sym (eqb-true x y e)))
      go false false false true e f h = absurd (eqb-false x y e (sym (eqb-true y x f)))
      go false false false false e f h = refl

  agree_all_swap : (qv tv : Bool) (us vs : Args) → agree_all qv tv us vs ≡ agree_all tv qv vs us
  agree_all_swap qv tv nil nil = refl
  agree_all_swap qv tv nil (cons v vs) = refl
  agree_all_swap qv tv (cons u us) nil = refl
  agree_all_swap qv tv (cons u us) (cons v vs) = rw (agree_swap qv tv u v, agree_all_swap qv tv us vs)

-- the variables moved, or their values
pub app_shift : (σ : ℕ → List Item) (n : ℕ) (l : List Item) → app σ (shift n l) ≡ app (λ x. σ (n + x)) l
app_shift σ n [] = refl
app_shift σ n (sy s ∷ l) = rw (app_shift σ n l)
app_shift σ n (va x ∷ l) = rw (app_shift σ n l)
