-- SCOPE.md, 'Term bytes' and the table of 'Numbers of refusal': when 2, 5 to 8 and 10 apply, in that table's words.
-- FirstRefusal.antt proves that the numbers which Terms of terms computes are the first in rank of those that apply,
-- and 0 where none does.
use Rattle.std.specs.Prelude.{ℕ, suc, ◌≤◌, ◌<◌, ◌%◌, ◌≡◌, ◌⊎◌, List, [], ◌∷◌, ◌++◌, length}
use Rattle.laws.specs.Members.{In}
use Rattle.refusals.specs.declared.Refusal.TheVariants as Refusal
use Rattle.terms.specs.Terms.{numbers, first_item}
use Rattle.definitions.specs.Ranks.{Rows, end, row, part}
use Rattle.laws.specs.Sizes.{variable_base, variable_end}
use Rattle.terms.specs.Terms.{arity}

-- 'a value below n is that symbol; 0x8000 + v with v from 0 to 31 is variable v; nothing else is an item'
abbrev pub IsItem : List ℕ → ℕ → Type 0
IsItem sig x = (x < length sig) ⊎ ((variable_base ≤ x) × (x < variable_end))

-- k terms in a row: the first is one item and the terms of its arguments; a variable has none
pub data TermsInRow (sig : List ℕ) : ℕ → List ℕ → Type 0 where
  done : TermsInRow sig 0 []
  more : {k x : ℕ} {l m : List ℕ} → TermsInRow sig (arity sig x) l → TermsInRow sig k m
      → TermsInRow sig (suc k) (x ∷ (l ++ m))

abbrev pub Term : List ℕ → List ℕ → Type 0
Term sig l = TermsInRow sig 1 l

-- SIZE: over 64 bytes
abbrev pub Size : List ℕ → Type 0
Size t = 64 < length t

-- ODD: the byte count is 0 or odd
abbrev pub Odd : List ℕ → Type 0
Odd t = (length t ≡ 0) ⊎ (length t % 2 ≡ 1)

-- SYMBOL: some item is neither a declared symbol nor a variable
abbrev pub Symbol : List ℕ → List ℕ → Type 0
Symbol sig t = (x : ℕ) × In x (numbers t) × (IsItem sig x → ⊥)

-- the items end inside a term: with more items they are one
abbrev pub EndsInside : List ℕ → List ℕ → Type 0
EndsInside sig l = (m : List ℕ) × (0 < length m) × Term sig (l ++ m)

-- the items go on after a term
abbrev pub GoesOn : List ℕ → List ℕ → Type 0
GoesOn sig l = (p : List ℕ) × (m : List ℕ) × (0 < length m) × (l ≡ p ++ m) × Term sig p

-- SHAPE
abbrev pub Shape : List ℕ → List ℕ → Type 0
Shape sig t = EndsInside sig (numbers t) ⊎ GoesOn sig (numbers t)

-- SIG: 0 or over 256 bytes, or an arity above 8
abbrev pub NoSignature : List ℕ → Type 0
NoSignature sig = (length sig ≡ 0) ⊎ ((256 < length sig) ⊎ ((a : ℕ) × In a sig × (8 < a)))

-- ARG: the argument asked is 0 or above the arity, which is 0 for a variable
abbrev pub NoArgument : List ℕ → List ℕ → ℕ → Type 0
NoArgument sig t i = (i ≡ 0) ⊎ (arity sig (first_item t) < i)

-- the rows of the table: 2 of a signature, 5 to 8 of a term, and 10 of an argument
abbrev pub signature_rows : List ℕ → Rows
signature_rows sig = row Refusal.Signature (NoSignature sig) end

abbrev pub term_rows : List ℕ → List ℕ → Rows
term_rows sig t =
    row Refusal.Size (Size t)
    (row Refusal.Odd (Odd t)
    (row Refusal.Symbol (Symbol sig t)
    (row Refusal.Shape (Shape sig t)
    end)))

abbrev pub argument_rows : List ℕ → List ℕ → ℕ → Rows
argument_rows sig t i = part (term_rows sig t) (row Refusal.Argument (NoArgument sig t i) end)
