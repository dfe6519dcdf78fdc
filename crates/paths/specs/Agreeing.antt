-- The table of candidates of SCOPE.md, 'Paths and keys', is what the walk through the tables finds: the definitions'
-- `agree` against the walk's `Agree`.
use Rattle.std.specs.Prelude.{ℕ, ◌≤◌, ◌<◌, ◌≡◌, refl, ◌⊎◌, ◌↔◌, List, Bool, true, false, T, leb, eqb}
use Rattle.std.proofs.Common.{sym, ap, ◌∙◌, inl, inr, ⊎_elim, arith, le-leb, eqb-true, eq-eqb}
use Rattle.std.proofs.lemmas.Bool.{lt-leb}
use Rattle.laws.specs.Choice.{pick}
use Rattle.keys.specs.Keys.{Tm, Args, node, nil, cons, end_of}
use Rattle.terms.specs.Terms.{Signed, refusal}
use Rattle.definitions.specs.Trees.{count_args, IsSymbol, Variable, Shaped, Shapes, tree_of}
use Rattle.definitions.specs.Candidates.{agree, agree_all, opens, stars, candidate, is_candidate}
use Rattle.definitions.specs.Spelt.{end_variable, end_symbol, shaped_count, tree_shaped}
use Rattle.paths.specs.Cand.{Agree, AllAgree}
use Rattle.laws.specs.Sizes.{variable_base}
use Rattle.terms.specs.Terms.{arity}

false_true : {A : Type 0} → false ≡ true → A
false_true h = absurd (let z : ◌≡◌ {A = ℕ} 0 1 = cc in omega arith)

true_holds : (b : Bool) → b ≡ true → T b
true_holds true h = tt
true_holds false h = false_true h

holds_true : (b : Bool) → T b → b ≡ true
holds_true true h = refl
holds_true false h = absurd h

-- each case of the table: which of the two items is a variable
module _ (qv tv : Bool) (x y : ℕ) (all : Bool) (All : Type 0) where
  abbrev Table : Type 0
  Table = (pick (leb variable_base x) (pick (leb variable_base y) true qv)
      (pick (leb variable_base y) tv (pick (eqb x y) all false)) ≡ true)
      ↔ pick (leb variable_base x) (pick qv (Unit {0}) (end_of y ≡ 256))
      ((T tv × (end_of y ≡ 256)) ⊎ ((end_of y ≡ end_of x) × All))

  both_variables : variable_base ≤ x → variable_base ≤ y → Table
  both_variables h k = rw (le-leb variable_base x h, le-leb variable_base y k) ((λ e. go qv), (λ e. refl))
    where
      go : (b : Bool) → pick b (Unit {0}) (end_of y ≡ 256)
      go true = tt
      go false = end_variable y k

  question_variable : variable_base ≤ x → y < 256 → Table
  question_variable h k = rw (le-leb variable_base x h, lt-leb variable_base y (omega arith)) (go qv)
    where
      go : (b : Bool) → (b ≡ true) ↔ pick b (Unit {0}) (end_of y ≡ 256)
      go true = ((λ e. tt), (λ e. refl))
      go false = ((λ e. false_true e), (λ e. absurd (omega (arith, e, end_symbol y (omega arith)))))

  stored_variable : x < 256 → variable_base ≤ y → Table
  stored_variable h k = rw (lt-leb variable_base x (omega arith), le-leb variable_base y k) (
    (λ e. inl (true_holds tv e, end_variable y k)),
    (λ e. ⊎_elim (λ a. holds_true tv a.0) (λ a. absurd (omega (arith, a.0, end_variable y k, end_symbol x (omega arith)))) e),
  )

  both_symbols : x < 256 → y < 256 → (x ≡ y → (all ≡ true) ↔ All) → Table
  both_symbols h k ih = rw (lt-leb variable_base x (omega arith), lt-leb variable_base y (omega arith)) (to (eqb x y) refl, fro)
    where
      X : end_of x ≡ x
      X = end_symbol x (omega arith)

      Y : end_of y ≡ y
      Y = end_symbol y (omega arith)

      to : (b : Bool) → eqb x y ≡ b → pick b all false ≡ true → (T tv × (end_of y ≡ 256)) ⊎ ((end_of y ≡ end_of x) × All)
      to true e z = let q = eqb-true x y e in inr (Y ∙ sym q ∙ sym X, (ih q).0 z)
      to false e z = false_true z

      fro : (T tv × (end_of y ≡ 256)) ⊎ ((end_of y ≡ end_of x) × All) → pick (eqb x y) all false ≡ true
      fro (inl a) = absurd (omega (arith, a.1, Y))
      fro (inr a) = let q : x ≡ y = sym X ∙ sym a.0 ∙ Y in rw (eq-eqb x y q) ((ih q).1 a.1)

module _ (qv tv : Bool) (sig : List ℕ) (s : Signed sig) where
  mutual
    unfolding agree Agree Shaped count_args

    pub agree_means : (q t : Tm) → Shaped sig q → Shaped sig t → (agree qv tv q t ≡ true) ↔ Agree qv tv q t
    agree_means (node x us) (node y vs) w v = go w.0 v.0
        (λ e. agree_all_means us vs w.1 v.1 (shaped_count sig s.short x us w ∙ ap (λ (z : ℕ). arity sig z) e ∙ sym (shaped_count sig s.short y vs v)))
      where
        go : (IsSymbol sig x × (count_args us ≡ arity sig x)) ⊎ (Variable x × (count_args us ≡ 0)) → (IsSymbol sig y × (count_args vs ≡ arity sig y)) ⊎ (Variable y × (count_args vs ≡ 0))
            → (x ≡ y → (agree_all qv tv us vs ≡ true) ↔ AllAgree qv tv us vs) → Table qv tv x y (agree_all qv tv us vs) (AllAgree qv tv us vs)
        go (inl a) (inl b) ih = both_symbols qv tv x y _ _ (omega (arith, a.0, s.short)) (omega (arith, b.0, s.short)) ih
        go (inl a) (inr b) ih = stored_variable qv tv x y _ _ (omega (arith, a.0, s.short)) b.0.0
        go (inr a) (inl b) ih = question_variable qv tv x y _ _ a.0.0 (omega (arith, b.0, s.short))
        go (inr a) (inr b) ih = both_variables qv tv x y _ _ a.0.0 b.0.0

    agree_all_means : (us vs : Args) → Shapes sig us → Shapes sig vs → count_args us ≡ count_args vs → (agree_all qv tv us vs ≡ true) ↔ AllAgree qv tv us vs
    agree_all_means nil nil w v c = ((λ e. tt), (λ e. refl))
    agree_all_means nil (cons u vs) w v c = absurd (omega arith)
    agree_all_means (cons u us) nil w v c = absurd (omega arith)
    agree_all_means (cons u us) (cons z vs) w v c = both (agree qv tv u z) (agree_means u z w.0 v.0) (agree_all_means us vs w.1 v.1 (omega arith))
      where
        both : (b : Bool) → (b ≡ true) ↔ Agree qv tv u z → (agree_all qv tv us vs ≡ true) ↔ AllAgree qv tv us vs → (pick b (agree_all qv tv us vs) false ≡ true) ↔ (Agree qv tv u z × AllAgree qv tv us vs)
        both true f g = ((λ e. (f.0 refl, g.0 e)), (λ e. g.1 e.1))
        both false f g = ((λ e. false_true e), (λ e. f.1 e.0))

-- the same of the bytes of a question and a stored term
pub candidate_means : (sig : List ℕ) (r : ℕ) (q t : List ℕ) → Signed sig → refusal sig q ≡ 0 → refusal sig t ≡ 0
    → (is_candidate sig r q t ≡ true) ↔ Agree (opens r) (stars r) (tree_of sig q) (tree_of sig t)
unfolding is_candidate candidate
candidate_means sig r q t s f g = agree_means (opens r) (stars r) sig s (tree_of sig q) (tree_of sig t) (tree_shaped sig q s f) (tree_shaped sig t s g)
