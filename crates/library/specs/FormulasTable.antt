-- The formulas of document 001 and the table of SCOPE.md, 'Paths and keys', give the same candidates. One formula
-- with two switches serves the proof.
use Rattle.std.specs.Prelude.{ℕ, suc, ◌+◌, ◌<◌, ◌≡◌, ◌⊎◌, ◌↔◌, List, Bool, leb}
use Rattle.std.proofs.Math.Path.{refl, sym}
use Rattle.std.proofs.Common.{ap, ◌∙◌, inl, inr, add-zero, zero-add, arith}
use Rattle.std.proofs.Math.Bool.{true, false}
use Rattle.std.proofs.Math.Option.{Option, some, none}
use borrow.Author.Tests.{le-leb, lt-leb, eqb-true, eqb-false, eq-eqb, ne_eqb}
use Rattle.std.proofs.Math.Dec.{eqb}
use Rattle.laws.specs.Choice.{pick}
use Rattle.keys.specs.Keys.{Tm, Args, node, nil, cons, Place, root, step, Key, key, end_of, sub_at, down, nth, top_of}
use Rattle.keys.specs.Keys.{HasKey, down_some}
use Rattle.terms.specs.Terms.{Signed, refusal}
use Rattle.definitions.specs.Trees.{count_args, IsSymbol, Variable, Shaped, Shapes, tree_of}
use Rattle.definitions.specs.Candidates.{is_variable, agree, agree_all, opens, stars, candidate, is_candidate}
use Rattle.library.specs.Formulas.{Held, Set, union, meet, star, is_top, has_key, holds_key, is_held, terms, get_terms}
use Rattle.library.specs.Formulas.{no_arguments, form, all_variables, get_variants, each_variants, get_instances}
use Rattle.library.specs.Formulas.{each_instances, get_generalizations, each_generalizations, get_unifiables}
use Rattle.library.specs.Formulas.{each_unifiables, formula, stays, tree_in, trees, stays_bytes}
use Rattle.definitions.specs.Spelt.{clash, shaped_count, tree_shaped}
use Rattle.laws.specs.Sizes.{variable_base}
use Rattle.terms.specs.Terms.{arity}

-- GetTerms is right: the test of a key says whether the term has the key
pub has_key_lem : (t : Tm) (K : Key) → (has_key t K ≡ true) ↔ HasKey t K
unfolding has_key HasKey is_top top_of
has_key_lem t (key p e) = go (sub_at p t)
  where
    go : (o : Option Tm) → (is_top o e ≡ true) ↔ (top_of o ≡ some e)
    go none = ((λ h. clash h), (λ h. absurd (let z : ◌≡◌ {A = ℕ} 0 1 = cc in omega arith)))
    go (some (node x us)) = ((λ h. ap some (eqb-true (end_of x) e h)), (λ h. let z : end_of x ≡ e = cc in eq-eqb (end_of x) e z))

-- a slot is in GetTerms(p, e) exactly if it holds a term that has the key
pub get_terms_lem : (held : Held) (p : Place) (e s : ℕ) → (get_terms held p e s ≡ true) ↔ ((t : Tm) × (held s ≡ some t) × HasKey t (key p e))
unfolding get_terms holds_key
get_terms_lem held p e s = go (held s)
  where
    go : (o : Option Tm) → (holds_key o (key p e) ≡ true) ↔ ((t : Tm) × (o ≡ some t) × HasKey t (key p e))
    go none = ((λ h. clash h), (λ h. absurd (let d = h.1 in let z : ◌≡◌ {A = ℕ} 0 1 = cc in omega arith)))
    go (some t) = ((λ h. (t, refl, (has_key_lem t (key p e)).0 h)), (λ h. let d : t ≡ h.0 = one t h.0 h.1 in rw d ((has_key_lem h.0 (key p e)).1 h.2)))
      where
        one : (t u : Tm) → some t ≡ some u → t ≡ u
        one t u e = cc

-- one formula: qv, variables of the question are open; tv, those of the stored term
abbrev starred : Bool → Set → Set → Set
starred tv a b = pick tv (union a b) b

unfoldable mutual
  retrieve : Bool → Bool → Held → Place → Tm → Set
  retrieve qv tv held p (node f ts) = form f ts (pick qv (terms held) (get_terms held p star))
      (starred tv (get_terms held p star) (get_terms held p f))
      (starred tv (get_terms held p star)
      (pick (pick qv (all_variables ts) false) (get_terms held p f) (each qv tv held p f 0 ts)))

  each : Bool → Bool → Held → Place → ℕ → ℕ → Args → Set
  each qv tv held p f i nil = terms held
  each qv tv held p f i (cons t ts) = meet (retrieve qv tv held (step p f i) t) (each qv tv held p f (suc i) ts)

mutual
  unfolding get_variants retrieve

  variants_is : (held : Held) (p : Place) (q : Tm) → get_variants held p q ≡ retrieve false false held p q
  variants_is held p (node f ts) = rw (variants_each held p f 0 ts)

  variants_each : (held : Held) (p : Place) (f i : ℕ) (ts : Args) → each_variants held p f i ts ≡ each false false held p f i ts
  variants_each held p f i nil = refl
  variants_each held p f i (cons t ts) = rw (variants_is held (step p f i) t, variants_each held p f (suc i) ts)

mutual
  unfolding get_instances retrieve

  instances_is : (held : Held) (p : Place) (q : Tm) → get_instances held p q ≡ retrieve true false held p q
  instances_is held p (node f ts) = rw (instances_each held p f 0 ts)

  instances_each : (held : Held) (p : Place) (f i : ℕ) (ts : Args) → each_instances held p f i ts ≡ each true false held p f i ts
  instances_each held p f i nil = refl
  instances_each held p f i (cons t ts) = rw (instances_is held (step p f i) t, instances_each held p f (suc i) ts)

mutual
  unfolding get_generalizations retrieve

  generalizations_is : (held : Held) (p : Place) (q : Tm) → get_generalizations held p q ≡ retrieve false true held p q
  generalizations_is held p (node f ts) = rw (generalizations_each held p f 0 ts)

  generalizations_each : (held : Held) (p : Place) (f i : ℕ) (ts : Args) → each_generalizations held p f i ts ≡ each false true held p f i ts
  generalizations_each held p f i nil = refl
  generalizations_each held p f i (cons t ts) = rw (generalizations_is held (step p f i) t, generalizations_each held p f (suc i) ts)

either : (b : Bool) (a c d : Set) → pick b (union a c) (union a d) ≡ union a (pick b c d)
either true a c d = refl
either false a c d = refl

mutual
  unfolding get_unifiables retrieve

  unifiables_is : (held : Held) (p : Place) (q : Tm) → get_unifiables held p q ≡ retrieve true true held p q
  unifiables_is held p (node f ts) = rw (unifiables_each held p f 0 ts, either (all_variables ts) (get_terms held p star) (get_terms held p f) (each true true held p f 0 ts))

  unifiables_each : (held : Held) (p : Place) (f i : ℕ) (ts : Args) → each_unifiables held p f i ts ≡ each true true held p f i ts
  unifiables_each held p f i nil = refl
  unifiables_each held p f i (cons t ts) = rw (unifiables_is held (step p f i) t, unifiables_each held p f (suc i) ts)

-- the formula at one slot: `v` a variable, `n` no arguments, `a` all arguments open; T, S, F, E whether it is in
-- Terms, in the sets of the star and of the symbol, in the meet
abbrev value : Bool → Bool → Bool → Bool → Bool → Bool → Bool → Bool → Bool → Bool
value v n q t a T S F E =
    pick v (pick q T S)
    (pick n (pick t (pick S true F) F)
    (pick t (pick S true (pick a F E)) (pick a F E)))

at_slot : (v n q t a : Bool) (T S F E : Set) (s : ℕ) → pick v (pick q T S) (pick n (starred t S F) (starred t S (pick a F E))) s ≡ value v n q t a (T s) (S s) (F s) (E s)
at_slot true n true t a T S F E s = refl
at_slot true n false t a T S F E s = refl
at_slot false true q true a T S F E s = refl
at_slot false true q false a T S F E s = refl
at_slot false false q true true T S F E s = refl
at_slot false false q true false T S F E s = refl
at_slot false false q false true T S F E s = refl
at_slot false false q false false T S F E s = refl

value_none : (v n q t a : Bool) → value v n q t a false false false false ≡ false
value_none true n true t a = refl
value_none true n false t a = refl
value_none false true q true a = refl
value_none false true q false a = refl
value_none false false q true true = refl
value_none false false q true false = refl
value_none false false q false true = refl
value_none false false q false false = refl

-- what a question asks where the stored term has no such place, and where it has
unfoldable asks_nothing : Bool → Tm → Bool
asks_nothing qv (node x us) = pick (is_variable x) qv false

unfoldable agree_at : Bool → Bool → Tm → Option Tm → Bool
agree_at qv tv q none = asks_nothing qv q
agree_at qv tv q (some t) = agree qv tv q t

unfoldable all_ask_nothing : Bool → Args → Bool
all_ask_nothing qv nil = true
all_ask_nothing qv (cons u us) = pick (asks_nothing qv u) (all_ask_nothing qv us) false

nothing_all : (us : Args) → all_ask_nothing true us ≡ all_variables us
unfolding all_ask_nothing asks_nothing all_variables
nothing_all nil = refl
nothing_all (cons (node x vs) us) = rw (nothing_all us) (go (is_variable x))
  where
    go : (b : Bool) → pick (pick b true false) (all_variables us) false ≡ pick b (all_variables us) false
    go true = refl
    go false = refl

-- a compound question where the stored term has another symbol, or nothing
outside : (qv : Bool) (u : Tm) (us : Args) → pick (pick qv (all_variables (cons u us)) false) false (all_ask_nothing qv (cons u us)) ≡ false
unfolding all_ask_nothing asks_nothing
outside true u us = ap (λ (b : Bool). pick (all_variables (cons u us)) false b) (nothing_all (cons u us)) ∙ go (all_variables (cons u us))
  where
    go : (b : Bool) → pick b false b ≡ false
    go true = refl
    go false = refl
outside false (node x vs) us = go (is_variable x)
  where
    go : (b : Bool) → pick (pick b false false) (all_ask_nothing false us) false ≡ false
    go true = refl
    go false = refl

module _ (qv tv : Bool) (held : Held) (s : ℕ) where
  retrieve_at : (p : Place) (f : ℕ) (ts : Args) → retrieve qv tv held p (node f ts) s
      ≡ value (is_variable f) (no_arguments ts) qv tv (pick qv (all_variables ts) false) (terms held s) (get_terms held p star s) (get_terms held p f s) (each qv tv held p f 0 ts s)
  unfolding retrieve
  retrieve_at p f ts = at_slot (is_variable f) (no_arguments ts) qv tv (pick qv (all_variables ts) false) (terms held) (get_terms held p star) (get_terms held p f) (each qv tv held p f 0 ts) s

  -- an empty slot is in no set
  not_held : held s ≡ none → terms held s ≡ false
  unfolding terms is_held
  not_held e = rw e

  no_key : held s ≡ none → (p : Place) (f : ℕ) → get_terms held p f s ≡ false
  unfolding get_terms holds_key
  no_key e p f = rw e

  mutual
    unfolding each

    empty : held s ≡ none → (p : Place) (q : Tm) → retrieve qv tv held p q s ≡ false
    empty e p (node f ts) = retrieve_at p f ts
        ∙ rw (not_held e, no_key e p star, no_key e p f, empty_each e p f 0 ts) (value_none (is_variable f) (no_arguments ts) qv tv (pick qv (all_variables ts) false))

    empty_each : held s ≡ none → (p : Place) (f i : ℕ) (ts : Args) → each qv tv held p f i ts s ≡ false
    empty_each e p f i nil = not_held e
    empty_each e p f i (cons t ts) = rw (empty e (step p f i) t)

-- an item is a variable, whose end is the star, or a symbol, which is its own end
abbrev Kind : ℕ → Type 0
Kind x = ((is_variable x ≡ true) × (end_of x ≡ 256)) ⊎ ((is_variable x ≡ false) × (end_of x ≡ x) × (x < 256))

kind : (sig : List ℕ) → Signed sig → (x : ℕ) (us : Args) → Shaped sig (node x us) → Kind x
unfolding Shaped end_of
kind sig g x us w = go w.0
  where
    go : (IsSymbol sig x × (count_args us ≡ arity sig x)) ⊎ (Variable x × (count_args us ≡ 0)) → ((leb variable_base x ≡ true) × (pick (leb variable_base x) 256 x ≡ 256)) ⊎ ((leb variable_base x ≡ false) × (pick (leb variable_base x) 256 x ≡ x) × (x < 256))
    go (inl h) = let l : x < variable_base = omega (arith, h.0, g.short) in inr (lt-leb variable_base x l, rw (lt-leb variable_base x l), omega (arith, h.0, g.short))
    go (inr h) = inl (le-leb variable_base x h.0.0, rw (le-leb variable_base x h.0.0))

one_side : (b c : Bool) → pick b c c ≡ c
one_side true c = refl
one_side false c = refl

itself : (b : Bool) → pick b true false ≡ b
itself true = refl
itself false = refl

-- where all arguments are open, they agree
all_agree : (tv : Bool) (us vs : Args) → count_args us ≡ count_args vs → all_variables us ≡ true → agree_all true tv us vs ≡ true
unfolding all_variables agree count_args
all_agree tv nil nil c e = refl
all_agree tv nil (cons v vs) c e = absurd (omega arith)
all_agree tv (cons u us) nil c e = absurd (omega arith)
all_agree tv (cons (node x ts) us) (cons (node y zs) vs) c e = go (is_variable x) e (all_agree tv us vs (omega arith))
  where
    go : (b : Bool) → pick b (all_variables us) false ≡ true → (all_variables us ≡ true → agree_all true tv us vs ≡ true)
        → pick (pick b (pick (is_variable y) true true) (pick (is_variable y) tv (pick (eqb x y) (agree_all true tv ts zs) false))) (agree_all true tv us vs) false ≡ true
    go true e ih = rw (one_side (is_variable y) true) (ih e)
    go false e ih = clash e

no_arguments_lem : (qv tv : Bool) (vs : Args) → count_args nil ≡ count_args vs → agree_all qv tv nil vs ≡ true
unfolding agree count_args
no_arguments_lem qv tv nil c = refl
no_arguments_lem qv tv (cons v vs) c = absurd (omega arith)

open_agree : (qv tv : Bool) (us vs : Args) → count_args us ≡ count_args vs → pick qv (all_variables us) false ≡ true → agree_all qv tv us vs ≡ true
open_agree true tv us vs c e = all_agree tv us vs c e
open_agree false tv us vs c e = clash e

-- the table's line, case by case: the question's item x and its arguments, what stands in the stored term, and E,
-- whether the meet holds
module _ (qv tv : Bool) (x : ℕ) (ts : Args) (E : Bool) where
  abbrev FormulaLine : Option Tm → Type 0
  FormulaLine o = value (is_variable x) (no_arguments ts) qv tv (pick qv (all_variables ts) false)
      true (is_top o star) (is_top o x) E
      ≡ agree_at qv tv (node x ts) o

  line_variable : (o : Option Tm) → is_variable x ≡ true → ((y : ℕ) (vs : Args) → o ≡ some (node y vs) → Kind y) → FormulaLine o
  unfolding is_top agree_at asks_nothing agree
  line_variable none v k = rw v (itself qv)
  line_variable (some (node y vs)) v k = rw v (go (k y vs refl))
    where
      go : Kind y → pick qv true (eqb (end_of y) 256) ≡ pick (is_variable y) true qv
      go (inl h) = rw (h.0, h.1) (one_side qv true)
      go (inr h) = rw (h.0, h.1, ne_eqb y 256 (λ z. omega (arith, z, h.2))) (itself qv)

  -- another symbol, or nothing, stands there
  shut : (n : Args) → (n ≡ ts) → E ≡ all_ask_nothing qv ts → (S : Bool) → value false (no_arguments n) qv tv (pick qv (all_variables ts) false) true S false E ≡ pick tv S false
  shut nil e q S = ap (λ (b : Bool). pick tv b false) (itself S)
  shut (cons u us) e q S =
      let z : pick (pick qv (all_variables ts) false) false E ≡ false = rw (q, ← e) (outside qv u us) in
      rw z (ap (λ (b : Bool). pick tv b false) (itself S))

  line_out : (o : Option Tm) → is_variable x ≡ false → x < 256 → is_top o x ≡ false → E ≡ all_ask_nothing qv ts → ((y : ℕ) (vs : Args) → o ≡ some (node y vs) → Kind y) → FormulaLine o
  unfolding is_top agree_at asks_nothing agree
  line_out none v l f q k = rw v (shut ts refl q false ∙ one_side tv false)
  line_out (some (node y vs)) v l f q k = rw (v, f) (shut ts refl q (eqb (end_of y) star) ∙ go (k y vs refl))
    where
      go : Kind y → pick tv (eqb (end_of y) star) false ≡ pick (is_variable y) tv (pick (eqb x y) (agree_all qv tv ts vs) false)
      go (inl h) = rw (h.0, h.1) (itself tv)
      go (inr h) =
          let n : eqb x y ≡ false = ne_eqb x y (λ z. eqb-false (end_of y) x f (h.1 ∙ sym z)) in
          rw (h.0, h.1, ne_eqb y 256 (λ z. omega (arith, z, h.2)), n) (one_side tv false)

  line_in : (vs : Args) → is_variable x ≡ false → end_of x ≡ x → x < 256 → count_args ts ≡ count_args vs → E ≡ agree_all qv tv ts vs → FormulaLine (some (node x vs))
  unfolding is_top agree_at agree
  line_in vs v e l c q = rw (v, e, ne_eqb x 256 (λ z. omega (arith, z, l)), eq-eqb x x refl) (go ts refl)
    where
      go : (n : Args) → n ≡ ts → value false (no_arguments n) qv tv (pick qv (all_variables ts) false) true false true E ≡ agree_all qv tv ts vs
      go nil d = one_side tv true ∙ sym (rw (← d) (no_arguments_lem qv tv vs (rw (← d) at c)))
      go (cons u us) d = one_side tv (pick (pick qv (all_variables ts) false) true E) ∙ rw q (fit (pick qv (all_variables ts) false) refl)
        where
          fit : (b : Bool) → pick qv (all_variables ts) false ≡ b → pick b true (agree_all qv tv ts vs) ≡ agree_all qv tv ts vs
          fit true z = sym (open_agree qv tv ts vs c z)
          fit false z = refl

down_out : (f j : ℕ) (o : Option Tm) → is_top o f ≡ false → down f j o ≡ none
unfolding down is_top
down_out f j none h = refl
down_out f j (some (node y vs)) h = rw h

top_same : (o : Option Tm) (x : ℕ) → is_top o x ≡ true → x < 256 → ((y : ℕ) (vs : Args) → o ≡ some (node y vs) → Kind y) → (vs : Args) × (o ≡ some (node x vs))
unfolding is_top
top_same none x e l k = clash e
top_same (some (node y vs)) x e l k = go (k y vs refl)
  where
    go : Kind y → (us : Args) × (some (node y vs) ≡ some (node x us))
    go (inl h) = absurd (omega (arith, h.1, eqb-true (end_of y) x e))
    go (inr h) = let z : y ≡ x = sym h.1 ∙ eqb-true (end_of y) x e in (vs, ap (λ (u : ℕ). some (node u vs)) z)

module _ (qv tv : Bool) (held : Held) (s : ℕ) (t : Tm) (h : held s ≡ some t) (sig : List ℕ) (g : Signed sig) where
  is_held_lem : terms held s ≡ true
  unfolding terms is_held
  is_held_lem = rw h

  key_at : (p : Place) (f : ℕ) (o : Option Tm) → sub_at p t ≡ o → get_terms held p f s ≡ is_top o f
  unfolding get_terms holds_key has_key
  key_at p f o e = rw (h, e)

  abbrev ShapedAt : Option Tm → Type 0
  ShapedAt none = Unit {0}
  ShapedAt (some v) = Shaped sig v

  kind_at : (o : Option Tm) → ShapedAt o → (y : ℕ) (vs : Args) → o ≡ some (node y vs) → Kind y
  kind_at none k y vs e = absurd (let z : ◌≡◌ {A = ℕ} 0 1 = cc in omega arith)
  kind_at (some u) k y vs e = let z : u ≡ node y vs = cc in kind sig g y vs (rw z at k)

  mutual
    unfolding each Shaped sub_at nth count_args all_ask_nothing agree_at agree

    means : (q : Tm) (p : Place) (o : Option Tm) → Shaped sig q → sub_at p t ≡ o → ShapedAt o → retrieve qv tv held p q s ≡ agree_at qv tv q o
    means (node x ts) p o w e k = retrieve_at qv tv held s p x ts ∙ rw (is_held_lem, key_at p star o e, key_at p x o e)
        (settle (kind sig g x ts w) (is_top o x) refl (λ z. each_out ts p x 0 w.1 (λ j. ap (down x j) e ∙ down_out x j o z))
        (λ vs n r d l. each_in ts p x 0 vs w.1 l (λ j. ap (down x (0 + j)) (e ∙ d) ∙ down_some x (0 + j) x vs r ∙ ap (λ (m : ℕ). nth m vs) (zero-add j)) n))
      where
        E : Bool
        E = each qv tv held p x 0 ts s

        settle : Kind x → (b : Bool) → is_top o x ≡ b → (is_top o x ≡ false → E ≡ all_ask_nothing qv ts)
            → ((vs : Args) → count_args ts ≡ count_args vs → end_of x ≡ x → o ≡ some (node x vs) → Shapes sig vs → E ≡ agree_all qv tv ts vs) → FormulaLine qv tv x ts E o
        settle (inl v) b z f i = line_variable qv tv x ts E o v.0 (kind_at o k)
        settle (inr v) false z f i = line_out qv tv x ts E o v.0 v.2 z (f z) (kind_at o k)
        settle (inr v) true z f i =
            let m = top_same o x z v.2 (kind_at o k) in
            let d = m.1 in
            let u : Shaped sig (node x m.0) = rw d at k in
            let c : count_args ts ≡ count_args m.0 = shaped_count sig g.short x ts w ∙ sym (shaped_count sig g.short x m.0 u) in
            rw d (line_in qv tv x ts E m.0 v.0 v.1 v.2 c (i m.0 c v.1 d u.1))

    each_out : (ts : Args) (p : Place) (f i : ℕ) → Shapes sig ts → ((j : ℕ) → sub_at (step p f j) t ≡ none) → each qv tv held p f i ts s ≡ all_ask_nothing qv ts
    each_out nil p f i w n = is_held_lem
    each_out (cons u ts) p f i w n = rw (means u (step p f i) none w.0 (n i) tt, each_out ts p f (suc i) w.1 n)

    each_in : (ts : Args) (p : Place) (f i : ℕ) (vs : Args) → Shapes sig ts → Shapes sig vs → ((j : ℕ) → sub_at (step p f (i + j)) t ≡ nth j vs) → count_args ts ≡ count_args vs
        → each qv tv held p f i ts s ≡ agree_all qv tv ts vs
    each_in nil p f i nil w v n c = is_held_lem
    each_in nil p f i (cons v vs) w k n c = absurd (omega arith)
    each_in (cons u ts) p f i nil w v n c = absurd (omega arith)
    each_in (cons u ts) p f i (cons v vs) w k n c =
        let a = means u (step p f i) (some v) w.0 (rw add-zero at (n 0)) k.0 in
        let b = each_in ts p f (suc i) vs w.1 k.1 (λ j. let z : suc i + j ≡ i + suc j = omega arith in rw z (n (suc j))) (omega arith) in
        rw (a, b)

  retrieve_means : (q : Tm) → Shaped sig q → Shaped sig t → retrieve qv tv held root q s ≡ agree qv tv q t
  unfolding agree_at sub_at
  retrieve_means q w k = means q root (some t) w refl k

-- relation r, by its number
formula_is : (r : ℕ) (held : Held) (q : Tm) → formula r held q ≡ retrieve (opens r) (stars r) held root q
unfolding formula
formula_is r held q = rw (instances_is held root q, generalizations_is held root q, unifiables_is held root q, variants_is held root q) (go (eqb r 2) (eqb r 3) (eqb r 4) refl refl refl)
  where
    go : (a b c : Bool) → eqb r 2 ≡ a → eqb r 3 ≡ b → eqb r 4 ≡ c
        → pick a (retrieve true false held root q) (pick b (retrieve false true held root q) (pick c (retrieve true true held root q) (retrieve false false held root q)))
        ≡ retrieve (pick a true c) (pick b true c) held root q
    go true true c x y z = absurd (omega (arith, eqb-true r 2 x, eqb-true r 3 y))
    go true false true x y z = absurd (omega (arith, eqb-true r 2 x, eqb-true r 4 z))
    go true false false x y z = refl
    go false true true x y z = absurd (omega (arith, eqb-true r 3 y, eqb-true r 4 z))
    go false true false x y z = refl
    go false false true x y z = refl
    go false false false x y z = refl

-- 'These are 001's formulas read for one term': for every store of terms, every question and every slot, the formula
-- of the relation has the slot exactly if it holds a term that SCOPE.md's table lets stay
pub formulas_table : (sig : List ℕ) → Signed sig → (held : Held) → ((s : ℕ) (t : Tm) → held s ≡ some t → Shaped sig t)
    → (q : Tm) → Shaped sig q → (r s : ℕ) → formula r held q s ≡ stays r q (held s)
unfolding stays candidate
formulas_table sig g held k q w r s = ap (λ (a : Set). a s) (formula_is r held q) ∙ go (held s) refl
  where
    go : (o : Option Tm) → held s ≡ o → retrieve (opens r) (stars r) held root q s ≡ stays r q o
    go none e = empty (opens r) (stars r) held s e root q
    go (some t) e = retrieve_means (opens r) (stars r) held s t e sig g q w (k s t e)

-- for slots that hold the bytes of checked terms
pub formulas_bytes : (sig : List ℕ) → Signed sig → (stored : ℕ → Option (List ℕ)) → ((s : ℕ) (t : List ℕ) → stored s ≡ some t → refusal sig t ≡ 0)
    → (q : List ℕ) → refusal sig q ≡ 0 → (r s : ℕ) → formula r (trees sig stored) (tree_of sig q) s ≡ stays_bytes sig r q (stored s)
unfolding stays_bytes stays is_candidate tree_in
formulas_bytes sig g stored k q w r s =
    formulas_table sig g (trees sig stored) (λ z u e. shaped (stored z) u (k z) e) (tree_of sig q) (tree_shaped sig q g w) r s ∙ last (stored s)
  where
    shaped : (o : Option (List ℕ)) (u : Tm) → ((t : List ℕ) → o ≡ some t → refusal sig t ≡ 0) → tree_in sig o ≡ some u → Shaped sig u
    shaped none u f e = absurd (let z : ◌≡◌ {A = ℕ} 0 1 = cc in omega arith)
    shaped (some t) u f e = let z : tree_of sig t ≡ u = cc in rw (← z) (tree_shaped sig t g (f t refl))

    last : (o : Option (List ℕ)) → stays r (tree_of sig q) (tree_in sig o) ≡ stays_bytes sig r q o
    last none = refl
    last (some t) = refl
