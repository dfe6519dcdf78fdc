-- Serves SCOPE.md, 'The relations themselves': matching as a function: the bindings that turn one list of items into
-- another, or a proof that none do.
use Rattle.std.specs.Prelude.{◌≡◌, refl, ◌⊎◌, Bool, true, false, List, [], ◌∷◌, ◌++◌, ℕ, zero, suc, ◌+◌}
use Rattle.std.proofs.Common.{sym, ap, ◌∙◌, subst, inl, inr, arith}
use Rattle.std.proofs.Math.Option.{Option, some, none}
use Rattle.std.proofs.Math.Decide.{ℕ_discrete}
use Rattle.laws.specs.Choice.{pick as cut}
use Rattle.theory.specs.Flat.{Item, sy, va, Terms}
use Rattle.theory.specs.Subst.{vars, app, app_agree, Sub}
use Rattle.theory.specs.Unify.{pick_decided, Bind, ◌:=◌, Unbound, Has}
use Rattle.theory.specs.Cut.{first, rest, first_rest, first_terms, rest_terms}
use Rattle.theory.specs.Match.{once, Agrees, MatchInv, start, step_symbol, step_new, step_old, none_symbol}
use Rattle.theory.specs.Match.{none_differs, once_sub, found}
use Rattle.theory.specs.Relations.{Turns, Renames, Decided, decided_yes, decided_no}
use Rattle.theory.specs.Solver.{once_cases, terms?}

-- the same item, the same items
unfoldable pub item? : (a b : Item) → Dec (a ≡ b)
item? (sy f) (va y) = no (λ e. let z : ◌≡◌ {A = ℕ} 0 1 = cc in omega arith)
item? (va x) (sy g) = no (λ e. let z : ◌≡◌ {A = ℕ} 0 1 = cc in omega arith)
item? (sy f) (sy g) = go (ℕ_discrete f g)
  where
    go : Dec (f ≡ g) → Dec (sy f ≡ sy g)
    go (yes e) = yes (ap sy e)
    go (no n) = no (λ e. n (cc))
item? (va x) (va y) = go (ℕ_discrete x y)
  where
    go : Dec (x ≡ y) → Dec (va x ≡ va y)
    go (yes e) = yes (ap va e)
    go (no n) = no (λ e. n (cc))

unfoldable pub items? : (l m : List Item) → Dec (l ≡ m)
items? [] [] = yes refl
items? [] (j ∷ m) = no (λ e. let z : ◌≡◌ {A = ℕ} 0 1 = cc in omega arith)
items? (i ∷ l) [] = no (λ e. let z : ◌≡◌ {A = ℕ} 0 1 = cc in omega arith)
items? (i ∷ l) (j ∷ m) = go (item? i j) (items? l m)
  where
    go : Dec (i ≡ j) → Dec (l ≡ m) → Dec (◌≡◌ {A = List Item} (i ∷ l) (j ∷ m))
    go (yes a) (yes b) = yes (cc)
    go (yes a) (no n) = no (λ e. n (cc))
    go (no n) d = no (λ e. n (cc))

module _ (ar : ℕ → ℕ) (s t : List Item) where
  pub data Matched : Type 0 where
    hit : (B : List Bind) → MatchInv ar s t B 0 [] [] → Matched
    miss : ((σ : ℕ → List Item) → Sub ar σ → app σ s ≡ t → ⊥) → Matched

  -- what follows from the first term of the target, u, standing against the variable x
  abbrev NextMatched : List Item → Type 0
  NextMatched l = (B : List Bind) (k : ℕ) (m : List Item) → MatchInv ar s t B k l m → Matched

  unfoldable pub against : (B : List Bind) (k x : ℕ) (u l m : List Item) → Terms ar 1 u → Terms ar k m
      → MatchInv ar s t B (suc k) (va x ∷ l) (u ++ m) → NextMatched l
      → Has x (once B x) B ⊎ (Unbound x B × (once B x ≡ vars x)) → Matched
  against B k x u l m p q v ih (inr n) = ih ((x := u) ∷ B) k m (step_new ar s t B k x u l m p q n.0 v)
  against B k x u l m p q v ih (inl h) = go (items? (once B x) u)
    where
      go : Dec (once B x ≡ u) → Matched
      go (yes e) = ih B k m (step_old ar s t B k x u l m p q (subst (λ (r : List Item). Has x r B) e h) v)
      go (no n) = miss (none_differs ar s t B k x (once B x) u l m p h n v)

  unfoldable pub matching : (B : List Bind) (k : ℕ) (l m : List Item) → MatchInv ar s t B k l m → Matched
  matching B zero [] [] v = hit B v
  matching B zero [] (j ∷ m) v = absurd v.right
  matching B zero (i ∷ l) m v = absurd v.left
  matching B (suc k) [] m v = absurd v.left
  matching B (suc k) (sy f ∷ l) [] v = absurd v.right
  matching B (suc k) (sy f ∷ l) (va y ∷ m) v = miss
      (none_symbol ar s t B (suc k) f l m (va y) (λ e. let z : ◌≡◌ {A = ℕ} 0 1 = cc in omega arith) v)
  matching B (suc k) (sy f ∷ l) (sy g ∷ m) v = go (ℕ_discrete g f) (λ k' m' v'. matching B k' l m' v')
    where
      go : Dec (g ≡ f) → ((k' : ℕ) (m' : List Item) → MatchInv ar s t B k' l m' → Matched) → Matched
      go (yes e) ih = ih (ar f + k) m
          (step_symbol ar s t B k f l m (subst (λ (r : ℕ). MatchInv ar s t B (suc k) (sy f ∷ l) (sy r ∷ m)) e v))
      go (no n) ih = miss (none_symbol ar s t B (suc k) f l m (sy g) (λ e. n (cc)) v)
  matching B (suc k) (va x ∷ l) m v =
      let e : 1 + k ≡ suc k = omega arith in
      let r : Terms ar (1 + k) m = rw e v.right in
      against B k x (first ar 1 m) l (rest ar 1 m) (first_terms ar 1 k m r) (rest_terms ar 1 k m r)
      (subst (λ (z : List Item). MatchInv ar s t B (suc k) (va x ∷ l) z) (sym (first_rest ar 1 m)) v)
      (λ B' k' m' v'. matching B' k' l m' v') (once_cases B x)

module _ (ar : ℕ → ℕ) where
  abbrev pub hits : {s t : List Item} → Matched ar s t → Option (List Bind)
  hits (hit B v) = some B
  hits (miss h) = none

  abbrev pub tried : (s t : List Item) → Dec (Terms ar 1 s) → Dec (Terms ar 1 t) → Option (List Bind)
  tried s t (yes p) (yes q) = hits (matching ar s t [] 1 s t (start ar s t p q))
  tried s t (yes p) (no h) = none
  tried s t (no h) d = none

  -- the bindings that turn the term s into the term t
  unfoldable pub matcher : List Item → List Item → Option (List Bind)
  matcher s t = tried s t (terms? ar 1 s) (terms? ar 1 t)

  abbrev Found : List Item → List Item → Option (List Bind) → Type 0
  Found s t (some B) = MatchInv ar s t B 0 [] []
  Found s t none = (σ : ℕ → List Item) → Sub ar σ → app σ s ≡ t → ⊥

  matcher_right : (s t : List Item) → Terms ar 1 s → Terms ar 1 t → Found s t (matcher s t)
  unfolding matcher
  matcher_right s t p q = go (terms? ar 1 s) (terms? ar 1 t)
    where
      told : (a : Matched ar s t) → Found s t (hits a)
      told (hit B v) = v
      told (miss h) = h

      go : (d : Dec (Terms ar 1 s)) (e : Dec (Terms ar 1 t)) → Found s t (tried s t d e)
      go (yes a) (yes b) = told (matching ar s t [] 1 s t (start ar s t a b))
      go (yes a) (no h) = absurd (h q)
      go (no h) e = absurd (h p)

  -- some substitution turns s into t
  abbrev pub bound : Option (List Bind) → Bool
  bound (some B) = true
  bound none = false

  pub turns_right : (s t : List Item) → Terms ar 1 s → Terms ar 1 t → Decided (bound (matcher s t)) (Turns ar s t)
  turns_right s t p q = go (matcher s t) (matcher_right s t p q)
    where
      go : (o : Option (List Bind)) → Found s t o → Decided (bound o) (Turns ar s t)
      go (some B) v = decided_yes (record { by = once B; sub = once_sub ar B v.values; turns = found ar s t B v })
      go none h = decided_no (λ r. h r.by r.sub r.turns)

  -- some replacement of variables by variables does
  abbrev pub is_name : List Item → Bool
  is_name [] = false
  is_name (sy f ∷ l) = false
  is_name (va x ∷ []) = true
  is_name (va x ∷ i ∷ l) = false

  abbrev pub name_of : List Item → ℕ
  name_of [] = 0
  name_of (sy f ∷ l) = 0
  name_of (va x ∷ l) = x

  name_of_lem : (l : List Item) → is_name l ≡ true → vars (name_of l) ≡ l
  name_of_lem [] e = absurd (let z : ◌≡◌ {A = ℕ} 0 1 = cc in omega arith)
  name_of_lem (sy f ∷ l) e = absurd (let z : ◌≡◌ {A = ℕ} 0 1 = cc in omega arith)
  name_of_lem (va x ∷ []) e = refl
  name_of_lem (va x ∷ i ∷ l) e = absurd (let z : ◌≡◌ {A = ℕ} 0 1 = cc in omega arith)

  abbrev pub names_only : List Bind → Bool
  names_only [] = true
  names_only ((x := u) ∷ B) = cut (is_name u) (names_only B) false

  taken : (b c : Bool) → cut b c false ≡ true → (b ≡ true) × (c ≡ true)
  taken true c h = (refl, h)
  taken false true h = absurd (let z : ◌≡◌ {A = ℕ} 0 1 = cc in omega arith)
  taken false false h = absurd (let z : ◌≡◌ {A = ℕ} 0 1 = cc in omega arith)

  once_names : (B : List Bind) → names_only B ≡ true → (y : ℕ) → is_name (once B y) ≡ true
  once_names [] e y = refl
  once_names ((x := u) ∷ B) e y = let r = taken (is_name u) (names_only B) e in go (ℕ_discrete x y) r.0 (once_names B r.1 y)
    where
      go : (d : Dec (x ≡ y)) → is_name u ≡ true → is_name (once B y) ≡ true → is_name (pick_decided d u (once B y)) ≡ true
      go (yes p) a b = a
      go (no n) a b = b

  names_agree : (to : ℕ → ℕ) (B : List Bind) → Agrees (λ x. vars (to x)) B → names_only B ≡ true
  names_agree to [] a = refl
  names_agree to ((x := u) ∷ B) a = let e : is_name u ≡ true = ap is_name (sym a.0) in rw (e, names_agree to B a.1)

  abbrev pub named : Option (List Bind) → Bool
  named (some B) = names_only B
  named none = false

  pub renames_right : (s t : List Item) → Terms ar 1 s → Terms ar 1 t → Decided (named (matcher s t)) (Renames s t)
  renames_right s t p q = go (matcher s t) (matcher_right s t p q)
    where
      go : (o : Option (List Bind)) → Found s t o → Decided (named o) (Renames s t)
      go (some B) v = record {
        holds = λ e. record { to = λ x. name_of (once B x); turns = app_agree (λ x. vars (name_of (once B x))) (once B) s (λ x i. name_of_lem (once B x) (once_names B e x)) ∙ found ar s t B v };
        fails = λ e r. (let z = names_agree r.to B ((v.same (λ x. vars (r.to x)) (λ x. tt)).0 r.turns).0 in let c : ◌≡◌ {A = ℕ} 0 1 = cc in omega arith);
      }
      go none h = decided_no (λ r. h (λ x. vars (r.to x)) (λ x. tt) r.turns)
