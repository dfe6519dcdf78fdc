-- Document 001, section 3: the formulas of path indexing, as it writes them. A set of stored terms is a test of
-- slots. SCOPE.md, 'Paths and keys', reads its candidates from them: 'These are 001's formulas read for one term'.
use Rattle.std.specs.Prelude.{ℕ, suc, List, Bool, true, false, eqb}
use Rattle.std.proofs.Math.Option.{Option, some, none}
use Rattle.laws.specs.Choice.{pick}
use Rattle.keys.specs.Keys.{Tm, Args, node, nil, cons, Place, root, step, Key, key, end_of, sub_at}
use Rattle.definitions.specs.Trees.{tree_of}
use Rattle.definitions.specs.Candidates.{is_variable, candidate, is_candidate}

-- what each slot holds
abbrev pub Held : Type 0
Held = ℕ → Option Tm

abbrev pub Set : Type 0
Set = ℕ → Bool

abbrev pub union : Set → Set → Set
union a b s = pick (a s) true (b s)

abbrev pub meet : Set → Set → Set
meet a b s = pick (a s) (b s) false

-- 'all variables count as the star'
abbrev pub star : ℕ
star = 256

-- e stands at the root of a term
unfoldable pub is_top : Option Tm → ℕ → Bool
is_top none e = false
is_top (some (node x us)) e = eqb (end_of x) e

-- does a term have a key, as a test (Keys says it as a statement, HasKey)
unfoldable pub has_key : Tm → Key → Bool
has_key t (key p e) = is_top (sub_at p t) e

unfoldable pub holds_key : Option Tm → Key → Bool
holds_key none k = false
holds_key (some t) k = has_key t k

-- Terms, 'the set of terms stored'
unfoldable pub is_held : Option Tm → Bool
is_held none = false
is_held (some t) = true

unfoldable pub terms : Held → Set
terms held s = is_held (held s)

-- GetTerms(p, s), the terms in which s stands at p
unfoldable pub get_terms : Held → Place → ℕ → Set
get_terms held p e s = holds_key (held s) (key p e)

-- the forms of a term that the formulas distinguish: a variable x, a constant a, f(t1, .., tn)
abbrev pub no_arguments : Args → Bool
no_arguments nil = true
no_arguments (cons t ts) = false

abbrev pub form : ℕ → Args → Set → Set → Set → Set
form x ts variable constant compound = pick (is_variable x) variable (pick (no_arguments ts) constant compound)

-- the form f(x1, .., xn)
unfoldable pub all_variables : Args → Bool
all_variables nil = true
all_variables (cons (node x us) ts) = pick (is_variable x) (all_variables ts) false

-- 'p.f.i' is step p f (i - 1); a meet of sets ends with Terms, which changes nothing (001's footnote 6)
unfoldable mutual
  pub get_variants : Held → Place → Tm → Set
  get_variants held p (node f ts) = form f ts (get_terms held p star) (get_terms held p f) (each_variants held p f 0 ts)

  pub each_variants : Held → Place → ℕ → ℕ → Args → Set
  each_variants held p f i nil = terms held
  each_variants held p f i (cons t ts) = meet (get_variants held (step p f i) t) (each_variants held p f (suc i) ts)

unfoldable mutual
  pub get_instances : Held → Place → Tm → Set
  get_instances held p (node f ts) = form f ts (terms held) (get_terms held p f)
      (pick (all_variables ts) (get_terms held p f) (each_instances held p f 0 ts))

  pub each_instances : Held → Place → ℕ → ℕ → Args → Set
  each_instances held p f i nil = terms held
  each_instances held p f i (cons t ts) = meet (get_instances held (step p f i) t) (each_instances held p f (suc i) ts)

unfoldable mutual
  pub get_generalizations : Held → Place → Tm → Set
  get_generalizations held p (node f ts) = form f ts (get_terms held p star)
      (union (get_terms held p star) (get_terms held p f))
      (union (get_terms held p star) (each_generalizations held p f 0 ts))

  pub each_generalizations : Held → Place → ℕ → ℕ → Args → Set
  each_generalizations held p f i nil = terms held
  each_generalizations held p f i (cons t ts) =
      meet (get_generalizations held (step p f i) t) (each_generalizations held p f (suc i) ts)

unfoldable mutual
  pub get_unifiables : Held → Place → Tm → Set
  get_unifiables held p (node f ts) = form f ts (terms held) (union (get_terms held p star) (get_terms held p f))
      (pick (all_variables ts) (union (get_terms held p star) (get_terms held p f))
      (union (get_terms held p star) (each_unifiables held p f 0 ts)))

  pub each_unifiables : Held → Place → ℕ → ℕ → Args → Set
  each_unifiables held p f i nil = terms held
  each_unifiables held p f i (cons t ts) = meet (get_unifiables held (step p f i) t) (each_unifiables held p f (suc i) ts)

-- the formula of a relation, 0 to 4; relations 0 and 1 share the formula of variants. A number above 4 is refused
-- before (3, RELATION)
unfoldable pub formula : ℕ → Held → Tm → Set
formula r held q = pick (eqb r 2) (get_instances held root q)
    (pick (eqb r 3) (get_generalizations held root q)
    (pick (eqb r 4) (get_unifiables held root q) (get_variants held root q)))

-- SCOPE.md's table, for what a slot holds
unfoldable pub stays : ℕ → Tm → Option Tm → Bool
stays r q none = false
stays r q (some t) = candidate r q t

-- the same of bytes: the terms that slots hold, as trees
unfoldable pub tree_in : List ℕ → Option (List ℕ) → Option Tm
tree_in sig none = none
tree_in sig (some t) = some (tree_of sig t)

abbrev pub trees : List ℕ → (ℕ → Option (List ℕ)) → Held
trees sig stored s = tree_in sig (stored s)

unfoldable pub stays_bytes : List ℕ → ℕ → List ℕ → Option (List ℕ) → Bool
stays_bytes sig r q none = false
stays_bytes sig r q (some t) = is_candidate sig r q t
