-- SCOPE.md, 'Term bytes' and refusals 2, 5 to 8 and 10, as functions on bytes.
use Rattle.std.specs.Prelude.{ℕ, zero, suc, ◌+◌, ◌-◌, ◌*◌, ◌≤◌, ◌%◌, List, [], ◌∷◌, length, get_or, take, drop, ltb, leb, eqb, Bool, true, false}
use Rattle.laws.specs.Choice.{pick}
use Rattle.laws.specs.Sizes.{variable_base, variable_end}

-- 'byte s is the arity of symbol s'; a variable, and what is no symbol, has none. THE ONE READING of an arity
abbrev pub arity : List ℕ → ℕ → ℕ
arity sig s = get_or sig s 0

-- 'an item is two bytes, high byte first': THE ONE READING of a term's bytes
unfoldable pub numbers : List ℕ → List ℕ
numbers [] = []
numbers (h ∷ []) = []
numbers (h ∷ l ∷ r) = (h * 256 + l) ∷ numbers r

-- the number of item i, read at its place
abbrev pub item_at : List ℕ → ℕ → ℕ
item_at t i = get_or t (2 * i) 0 * 256 + get_or t (2 * i + 1) 0

-- the bytes that the first k terms of t take up, two for each item that is missing
unfoldable pub span : List ℕ → List ℕ → ℕ → ℕ
span sig [] k = 2 * k
span sig (x ∷ []) k = 2 * k
span sig (h ∷ l ∷ r) zero = 0
span sig (h ∷ l ∷ r) (suc k) = 2 + span sig r (arity sig (h * 256 + l) + k)

-- an item is a symbol below n or one of 32 variables
unfoldable pub declared : ℕ → ℕ → Bool
declared n x = pick (ltb x n) true (pick (leb variable_base x) (ltb x variable_end) false)

unfoldable pub items_good : ℕ → List ℕ → Bool
items_good n [] = true
items_good n (x ∷ []) = true
items_good n (h ∷ l ∷ r) = pick (declared n (h * 256 + l)) (items_good n r) false

unfoldable pub arities_good : List ℕ → Bool
arities_good [] = true
arities_good (a ∷ r) = pick (leb a 8) (arities_good r) false

-- the number of the refusal of a signature, 0 where it is taken
unfoldable pub sig_refusal : List ℕ → ℕ
sig_refusal s = pick (eqb (length s) 0) 2 (pick (ltb 256 (length s)) 2 (pick (arities_good s) 0 2))

-- what every walk needs of a signature: at most 256 symbols, arities of at most 8
pub record Signed (sig : List ℕ) : Type 0 where
  pub short : length sig ≤ 256
  pub eight : (f : ℕ) → arity sig f ≤ 8

-- the number of the refusal of a term, 0 where it is taken
unfoldable pub refusal : List ℕ → List ℕ → ℕ
refusal sig t =
    pick (ltb 64 (length t)) 5
    (pick (eqb (length t) 0) 6
    (pick (eqb (length t % 2) 1) 6
    (pick (items_good (length sig) t)
    (pick (eqb (span sig t 1) (length t)) 0 8)
    7)))

abbrev pub first_item : List ℕ → ℕ
first_item t = get_or t 0 0 * 256 + get_or t 1 0

-- what follows the first k arguments of a term
abbrev pub after_args : List ℕ → List ℕ → ℕ → List ℕ
after_args sig t k = drop (2 + span sig (drop 2 t) k) t

unfoldable pub arg_refusal : List ℕ → List ℕ → ℕ → ℕ
arg_refusal sig t i =
    pick (eqb (refusal sig t) 0)
    (pick (eqb i 0) 10
    (pick (ltb (arity sig (first_item t)) i) 10
    0))
    (refusal sig t)

-- the bytes of argument i; none where it is refused
unfoldable pub arg_bytes : List ℕ → List ℕ → ℕ → List ℕ
arg_bytes sig t i =
    pick (eqb (arg_refusal sig t i) 0)
    (take (span sig (after_args sig t (i - 1)) 1) (after_args sig t (i - 1)))
    []

-- where argument i starts; 0 where it is refused
unfoldable pub arg_start : List ℕ → List ℕ → ℕ → ℕ
arg_start sig t i = pick (eqb (arg_refusal sig t i) 0) (2 + span sig (drop 2 t) (i - 1)) 0
