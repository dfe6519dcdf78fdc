-- SCOPE.md, 'Paths and keys' and refusal 9: which bytes are a key.
use Rattle.std.specs.Prelude.{ℕ, ◌+◌, ◌*◌, List, [], ◌∷◌, Bool, true, false, ltb, leb, eqb, length}
use Rattle.laws.specs.Choice.{pick}
use Rattle.terms.specs.Terms.{arity}

-- a step names a declared symbol and one of its arguments, from 1 on
unfoldable pub step_good : List ℕ → ℕ → ℕ → Bool
step_good sig f i = pick (ltb f (length sig)) (pick (eqb i 0) false (leb i (arity sig f))) false

-- an end is a declared symbol or the star
unfoldable pub end_good : List ℕ → ℕ → Bool
end_good sig e = pick (ltb e (length sig)) true (eqb e 65535)

-- steps of three bytes, and then an end of two
unfoldable pub steps_good : List ℕ → List ℕ → Bool
steps_good sig [] = false
steps_good sig (h ∷ []) = false
steps_good sig (h ∷ l ∷ []) = end_good sig (h * 256 + l)
steps_good sig (h ∷ l ∷ i ∷ r) = pick (step_good sig (h * 256 + l) i) (steps_good sig r) false

-- at most 31 steps: 95 bytes
unfoldable pub is_key : List ℕ → List ℕ → Bool
is_key sig k = pick (ltb 95 (length k)) false (steps_good sig k)
