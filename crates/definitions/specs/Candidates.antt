-- SCOPE.md, 'Paths and keys': the table of candidates, for a question and one stored term.
use Rattle.std.specs.Prelude.{ℕ, List, Bool, true, false, leb, eqb}
use Rattle.laws.specs.Choice.{pick}
use Rattle.keys.specs.Keys.{Tm, Args, node, nil, cons}
use Rattle.definitions.specs.Trees.{tree_of}
use Rattle.laws.specs.Sizes.{variable_base}

abbrev pub is_variable : ℕ → Bool
is_variable x = leb variable_base x

-- the question's term first; qv: a variable of the question agrees with any term; tv: one of the stored term does
unfoldable mutual
  pub agree : Bool → Bool → Tm → Tm → Bool
  agree qv tv (node x us) (node y vs) = pick (is_variable x)
      (pick (is_variable y) true qv)
      (pick (is_variable y) tv (pick (eqb x y) (agree_all qv tv us vs) false))

  pub agree_all : Bool → Bool → Args → Args → Bool
  agree_all qv tv nil nil = true
  agree_all qv tv nil (cons v vs) = false
  agree_all qv tv (cons u us) nil = false
  agree_all qv tv (cons u us) (cons v vs) = pick (agree qv tv u v) (agree_all qv tv us vs) false

-- relations 2 and 4 leave the question's variables open, 3 and 4 the stored term's
abbrev pub opens : ℕ → Bool
opens r = pick (eqb r 2) true (eqb r 4)

abbrev pub stars : ℕ → Bool
stars r = pick (eqb r 3) true (eqb r 4)

-- does the stored term t stay a candidate for the question q in relation r, 0 to 4; a number above 4 is refused
-- before (3, RELATION) and nothing is asked here
unfoldable pub candidate : ℕ → Tm → Tm → Bool
candidate r q t = agree (opens r) (stars r) q t

-- the same of bytes
unfoldable pub is_candidate : List ℕ → ℕ → List ℕ → List ℕ → Bool
is_candidate sig r q t = candidate r (tree_of sig q) (tree_of sig t)
