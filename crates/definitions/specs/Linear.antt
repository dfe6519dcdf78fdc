-- SCOPE.md, 'The relations themselves': no answer is missed by the candidates, and 'Where q and t have no repeated
-- variable, candidate and answer agree for relations 1 to 4'.
use Rattle.std.specs.Prelude.{ℕ, zero, suc, ◌+◌, ◌-◌, ◌≤◌, ◌<◌, ◌≡◌, refl, ◌⊎◌, ◌↔◌, List, [], ◌∷◌, ◌++◌, Bool}
use Rattle.std.proofs.Math.Path.{sym}
use Rattle.std.proofs.Common.{ap, ◌∙◌, inl, inr, ⊎_elim, append-nil, arith, le-leb, le-ltb, lt-ltb}
use Rattle.std.proofs.Math.Bool.{true, false}
use Rattle.std.proofs.Math.Decide.{ℕ_discrete, dec_le}
use Rattle.std.proofs.lemmas.Bool.{lt-leb}
use Rattle.laws.specs.Choice.{pick}
use Rattle.laws.specs.Members.{NoDup}
use Rattle.laws.specs.Members as Members
use Rattle.terms.specs.Terms.{numbers, Signed, refusal}
use Rattle.theory.specs.Flat.{Item}
use Rattle.theory.specs.Subst.{vars, app, app_vars, Occurs, Sub}
use Rattle.theory.specs.Items.{items16, items, shift, codes_numbers}
use Rattle.theory.specs.Relations.{Instance, Variant, Unifiable}
use Rattle.definitions.specs.Trees.{tree_of}
use Rattle.definitions.specs.Relations.{Stands}
use Rattle.definitions.specs.Decisions.{answer}
use Rattle.definitions.specs.Candidates.{is_variable, agree, candidate, is_candidate}
use Rattle.definitions.specs.Spelt.{clash, tree_shaped, tree_spells}
use Rattle.definitions.specs.LinearFlat.{Cand, done, Lin, lin_instance, lin_variant, lin_unify, cand_shift}
use Rattle.definitions.specs.LinearFlat.{lin_shift, shift_apart, VariablesBelow}
use Rattle.definitions.specs.LinearTrees.{flat, agree_cand, same_agree, flat_below, agree_swap, app_shift}
use Rattle.laws.specs.Sizes.{variable_base}
use Rattle.terms.specs.Terms.{arity}

-- the variables of a list of items, as often as they stand
unfoldable pub variables : List ℕ → List ℕ
variables [] = []
variables (x ∷ xs) = pick (is_variable x) (x ∷ variables xs) (variables xs)

-- no repeated variable
abbrev pub Linear : List ℕ → Type 0
Linear t = NoDup (variables (numbers t))

-- a test for it, which is right by its type
unfoldable pub member? : (x : ℕ) (l : List ℕ) → Dec (Members.In x l)
member? x [] = no (λ h. h)
member? x (y ∷ l) = go (ℕ_discrete x y) (member? x l)
  where
    go : Dec (x ≡ y) → Dec (Members.In x l) → Dec (Members.In x (y ∷ l))
    go (yes e) d = yes (inl e)
    go (no n) (yes i) = yes (inr i)
    go (no n) (no m) = no (⊎_elim n m)

unfoldable pub once? : (l : List ℕ) → Dec (NoDup l)
once? [] = yes tt
once? (x ∷ l) = go (member? x l) (once? l)
  where
    go : Dec (Members.In x l) → Dec (NoDup l) → Dec (NoDup (x ∷ l))
    go (yes i) d = no (λ h. h.0 i)
    go (no n) (yes d) = yes (n, d)
    go (no n) (no m) = no (λ h. m h.1)

unfoldable pub linear? : (t : List ℕ) → Dec (Linear t)
linear? t = once? (variables (numbers t))

-- f(x0,x1) repeats no variable, f(x0,x0) does (SCOPE.md's f, symbol 2)
linear_both : (answer (linear? (0 ∷ 2 ∷ 128 ∷ 0 ∷ 128 ∷ 1 ∷ [])) ≡ true) × (answer (linear? (0 ∷ 2 ∷ 128 ∷ 0 ∷ 128 ∷ 0 ∷ [])) ≡ false)
unfolding linear? once? member? variables numbers ℕ_discrete
linear_both = (refl, refl)

-- the same of items
in_variables : (y : ℕ) (xs : List ℕ) → Occurs y (items16 xs) → Members.In (variable_base + y) (variables xs)
unfolding variables
in_variables y [] h = absurd h
in_variables y (x ∷ xs) h = go (dec_le variable_base x) (in_variables y xs)
  where
    move : variable_base ≤ x → (Occurs y (items16 xs) → Members.In (variable_base + y) (variables xs)) → (y ≡ x - variable_base) ⊎ Occurs y (items16 xs) → Members.In (variable_base + y) (x ∷ variables xs)
    move v f (inl e) = inl (omega arith)
    move v f (inr i) = inr (f i)

    go : Dec (variable_base ≤ x) → (Occurs y (items16 xs) → Members.In (variable_base + y) (variables xs)) → Members.In (variable_base + y) (pick (is_variable x) (x ∷ variables xs) (variables xs))
    go (yes v) f = rw (le-leb variable_base x v) (move v f (rw (le-ltb x variable_base v) at h))
    go (no v) f = let l : x < variable_base = omega arith in rw (lt-leb variable_base x l) (f (rw (lt-ltb x variable_base l) at h))

lin_items : (xs : List ℕ) → NoDup (variables xs) → Lin (items16 xs)
unfolding variables
lin_items [] h = tt
lin_items (x ∷ xs) h = go (dec_le variable_base x) (lin_items xs)
  where
    go : Dec (variable_base ≤ x) → (NoDup (variables xs) → Lin (items16 xs)) → Lin (items16 (x ∷ xs))
    go (yes v) f =
        let n : NoDup (x ∷ variables xs) = rw (le-leb variable_base x v) at h in
        let e : variable_base + (x - variable_base) ≡ x = omega arith in
        rw (le-ltb x variable_base v) ((λ i. n.0 (rw e at (in_variables (x - variable_base) xs i))), f n.1)
    go (no v) f =
        let l : x < variable_base = omega arith in
        let n : NoDup (variables xs) = rw (lt-leb variable_base x l) at h in
        rw (lt-ltb x variable_base l) (f n)

module _ (sig : List ℕ) (g : Signed sig) where
  items_flat : (t : List ℕ) → refusal sig t ≡ 0 → items t ≡ flat (tree_of sig t)
  items_flat t h = ap items16 (codes_numbers t ∙ tree_spells sig t g h)

  lin : (t : List ℕ) → Linear t → Lin (items t)
  lin t l = rw (codes_numbers t) (lin_items (numbers t) l)

  below : (t : List ℕ) → refusal sig t ≡ 0 → VariablesBelow 32 (items t)
  below t h = rw (items_flat t h) (flat_below sig g (tree_of sig t) (tree_shaped sig t g h))

  module _ (q t : List ℕ) (p : refusal sig q ≡ 0) (h : refusal sig t ≡ 0) (qv tv : Bool) where
    cand : agree qv tv (tree_of sig q) (tree_of sig t) ≡ true → Cand (arity sig) qv tv 1 (items q) (items t)
    cand a = rw (items_flat q p, items_flat t h)
        (rw (append-nil (flat (tree_of sig q)), append-nil (flat (tree_of sig t))) at (agree_cand sig g qv tv (tree_of sig q) (tree_of sig t) (tree_shaped sig q g p) (tree_shaped sig t g h) a 0 [] [] done))

    same : (σ τ : ℕ → List Item) → Sub (arity sig) σ → Sub (arity sig) τ → (qv ≡ false → (x : ℕ) → (z : ℕ) × (σ x ≡ vars z)) → (tv ≡ false → (x : ℕ) → (z : ℕ) × (τ x ≡ vars z))
        → app σ (items q) ≡ app τ (items t) → agree qv tv (tree_of sig q) (tree_of sig t) ≡ true
    same σ τ u v b c e =
        let d : app σ (flat (tree_of sig q) ++ []) ≡ app τ (flat (tree_of sig t) ++ []) = rw (append-nil (flat (tree_of sig q)), append-nil (flat (tree_of sig t))) (rw (items_flat q p, items_flat t h) at e) in
        (same_agree sig g qv tv σ τ u v b c (tree_of sig q) (tree_of sig t) (tree_shaped sig q g p) (tree_shaped sig t g h) [] [] d).0

  module _ (q t : List ℕ) (p : refusal sig q ≡ 0) (h : refusal sig t ≡ 0) where
    variant_candidate : Variant q t → is_candidate sig 1 q t ≡ true
    unfolding is_candidate candidate
    variant_candidate a = same q t p h false false (λ x. vars (a.to x)) vars (λ x. tt) (λ x. tt) (λ e x. (a.to x, refl)) (λ e x. (x, refl)) (a.turns ∙ sym (app_vars (items t)))

    instance_candidate : Instance sig q t → is_candidate sig 2 q t ≡ true
    unfolding is_candidate candidate
    instance_candidate a = same q t p h true false a.by vars a.sub (λ x. tt) (λ e x. clash (sym e)) (λ e x. (x, refl)) (a.turns ∙ sym (app_vars (items t)))

    generalization_candidate : Instance sig t q → is_candidate sig 3 q t ≡ true
    unfolding is_candidate candidate
    generalization_candidate a = same q t p h false true vars a.by (λ x. tt) a.sub (λ e x. (x, refl)) (λ e x. clash (sym e)) (app_vars (items q) ∙ sym a.turns)

    unifiable_candidate : Unifiable sig t q → is_candidate sig 4 q t ≡ true
    unfolding is_candidate candidate
    unifiable_candidate a = same q t p h true true (λ x. a.by (32 + x)) a.by (λ x. a.sub (32 + x)) a.sub (λ e x. clash (sym e)) (λ e x. clash (sym e))
        (sym (app_shift a.by 32 (items q)) ∙ sym a.same)

    equal_candidate : t ≡ q → is_candidate sig 0 q t ≡ true
    unfolding is_candidate candidate
    equal_candidate e = same q t p h false false vars vars (λ x. tt) (λ x. tt) (λ e x. (x, refl)) (λ e x. (x, refl)) (rw e)

    -- every answer is a candidate
    pub answer_candidate : (r : ℕ) → r ≤ 4 → Stands sig r t q → is_candidate sig r q t ≡ true
    answer_candidate zero l a = equal_candidate a
    answer_candidate (suc zero) l a = variant_candidate a
    answer_candidate (suc (suc zero)) l a = instance_candidate a
    answer_candidate (suc (suc (suc zero))) l a = generalization_candidate a
    answer_candidate (suc (suc (suc (suc zero)))) l a = unifiable_candidate a
    answer_candidate (suc (suc (suc (suc (suc r))))) l a = absurd (omega arith)

    variant_linear : Linear q → is_candidate sig 1 q t ≡ true → Variant q t
    unfolding is_candidate candidate
    variant_linear l c = lin_variant (arity sig) 1 (items q) (items t) (cand q t p h false false c) (lin q l)

    instance_linear : Linear q → is_candidate sig 2 q t ≡ true → Instance sig q t
    unfolding is_candidate candidate
    instance_linear l c = lin_instance (arity sig) 1 (items q) (items t) (cand q t p h true false c) (lin q l)

    generalization_linear : Linear t → is_candidate sig 3 q t ≡ true → Instance sig t q
    unfolding is_candidate candidate
    generalization_linear l c = lin_instance (arity sig) 1 (items t) (items q) (cand t q h p true false (sym (agree_swap false true (tree_of sig q) (tree_of sig t)) ∙ c)) (lin t l)

    unifiable_linear : Linear q → Linear t → is_candidate sig 4 q t ≡ true → Unifiable sig t q
    unfolding is_candidate candidate
    unifiable_linear l m c =
        let d = cand t q h p true true (sym (agree_swap true true (tree_of sig q) (tree_of sig t)) ∙ c) in
        let u = lin_unify (arity sig) 1 (items t) (shift 32 (items q)) (cand_shift (arity sig) true true 32 1 (items t) (items q) d) (lin t m) (lin_shift 32 (items q) (lin q l))
        (shift_apart 32 (items t) (items q) (below t h)) in
        record { by = u.by; sub = u.sub; same = u.same }

    -- 'Where q and t have no repeated variable, candidate and answer agree for relations 1 to 4'
    pub linear_exact : Linear q → Linear t → (r : ℕ) → 1 ≤ r → r ≤ 4 → (is_candidate sig r q t ≡ true) ↔ Stands sig r t q
    linear_exact l m zero a b = absurd (omega arith)
    linear_exact l m (suc zero) a b = (variant_linear l, variant_candidate)
    linear_exact l m (suc (suc zero)) a b = (instance_linear l, instance_candidate)
    linear_exact l m (suc (suc (suc zero))) a b = (generalization_linear m, generalization_candidate)
    linear_exact l m (suc (suc (suc (suc zero)))) a b = (unifiable_linear l m, unifiable_candidate)
    linear_exact l m (suc (suc (suc (suc (suc r))))) a b = absurd (omega arith)
