-- SCOPE.md, 'Term bytes': a term as a tree, its items, and the tree that bytes spell.
use Rattle.std.specs.Prelude.{ℕ, zero, suc, ◌*◌, ◌≤◌, ◌<◌, ◌≡◌, ◌⊎◌, List, [], ◌∷◌, ◌++◌, length}
use Rattle.keys.specs.Keys.{Tm, Args, node, nil, cons, Key, root, keys_t}
use Rattle.terms.specs.Terms.{numbers}
use Rattle.laws.specs.Sizes.{variable_base, variable_end}
use Rattle.terms.specs.Terms.{arity}

-- how many arguments there are
unfoldable pub count_args : Args → ℕ
count_args nil = 0
count_args (cons t us) = suc (count_args us)

-- 'one item, followed by the terms of its arguments from left to right'
unfoldable mutual
  pub items_t : Tm → List ℕ
  items_t (node x us) = x ∷ items_a us

  pub items_a : Args → List ℕ
  items_a nil = []
  items_a (cons t us) = items_t t ++ items_a us

-- 'a value below n is that symbol; 0x8000 + v with v from 0 to 31 is variable v'
abbrev pub IsSymbol : List ℕ → ℕ → Type 0
IsSymbol sig x = x < length sig

abbrev pub Variable : ℕ → Type 0
Variable x = (variable_base ≤ x) × (x < variable_end)

-- a symbol has as many arguments as its arity; a variable has none
unfoldable mutual
  pub Shaped : List ℕ → Tm → Type 0
  Shaped sig (node x us) = ((IsSymbol sig x × (count_args us ≡ arity sig x)) ⊎ (Variable x × (count_args us ≡ 0)))
      × Shapes sig us

  pub Shapes : List ℕ → Args → Type 0
  Shapes sig nil = Unit {0}
  Shapes sig (cons t us) = Shaped sig t × Shapes sig us

-- the bytes t are a term: the items of a tree of 1 to 32 items, two bytes an item
pub record IsTerm (sig t : List ℕ) : Type 0 where
  pub tree : Tm
  pub shaped : Shaped sig tree
  pub spells : numbers t ≡ items_t tree
  pub whole : length t ≡ 2 * length (items_t tree)
  pub short : length (items_t tree) ≤ 32

-- the first k trees of a list, and the others
unfoldable pub firsts : ℕ → Args → Args
firsts zero us = nil
firsts (suc k) nil = nil
firsts (suc k) (cons t us) = cons t (firsts k us)

unfoldable pub arguments_after : ℕ → Args → Args
arguments_after zero us = us
arguments_after (suc k) nil = nil
arguments_after (suc k) (cons t us) = arguments_after k us

-- items read from the last to the first: each takes its arguments from the trees that follow it
unfoldable pub forest : List ℕ → List ℕ → Args
forest sig [] = nil
forest sig (x ∷ xs) =
    cons (node x (firsts (arity sig x) (forest sig xs))) (arguments_after (arity sig x) (forest sig xs))

unfoldable pub top : Args → Tm
top nil = node 0 nil
top (cons t us) = t

-- the tree that the bytes of a term spell
unfoldable pub tree_of : List ℕ → List ℕ → Tm
tree_of sig t = top (forest sig (numbers t))

-- the arguments of its root, and its keys
unfoldable pub args_of : Tm → Args
args_of (node x us) = us

unfoldable pub keys_of : List ℕ → List ℕ → List Key
keys_of sig t = keys_t root (tree_of sig t)
