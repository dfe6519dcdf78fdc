-- SCOPE.md, 'The relations themselves': what confirmation leaves of the candidates, on all tables.
use Rattle.std.specs.Prelude.{ℕ, Bool, false, List, [], ◌∷◌, eqb}
use Rattle.laws.specs.Choice.{pick}
use Rattle.terms.specs.Terms.{refusal}
use Rattle.definitions.specs.Decisions.{stands}

-- do the bytes t stand in the relation to q; what is no term, as on memory that no opening made, answers nothing
unfoldable pub confirms_term : List ℕ → ℕ → List ℕ → List ℕ → Bool
confirms_term sig r t q = pick (eqb (refusal sig t) 0) (stands sig r t q) false

-- of a list of slots, in its order, those that pass a test
unfoldable pub those : (ℕ → Bool) → List ℕ → List ℕ
those p [] = []
those p (s ∷ l) = pick (p s) (s ∷ those p l) (those p l)
