-- SCOPE.md, 'The relations themselves': the five relations of a stored term and a question, by their numbers.
use Rattle.std.specs.Prelude.{ℕ, zero, suc, ◌≡◌, List}
use Rattle.theory.specs.Relations.{Instance, Variant, Unifiable}

-- the stored term t stands in relation r to the question q. Only 0 to 4 are relations: a number above 4 is refused
-- before anything is asked here (3, RELATION; `answered` of Store), so that the last line is read for 4 alone
abbrev pub Stands : List ℕ → ℕ → List ℕ → List ℕ → Type 0
-- 0, 'equal: the same bytes'
Stands sig zero t q = t ≡ q
-- 1, 'variant: some replacement of variables by variables turns q into t'
Stands sig (suc zero) t q = Variant q t
-- 2, 'instance: some substitution turns q into t'
Stands sig (suc (suc zero)) t q = Instance sig q t
-- 3, 'generalization: some substitution turns t into q'
Stands sig (suc (suc (suc zero))) t q = Instance sig t q
-- 4, 'unifiable: with variables apart, some substitution makes both the same'
Stands sig (suc (suc (suc (suc r)))) t q = Unifiable sig t q
