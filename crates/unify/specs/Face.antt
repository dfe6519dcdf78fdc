-- Serves SCOPE.md, 'The solver's record': two nodes that no binding leads on from, face to face.
use Rattle.std.specs.Prelude.{◌≡◌, ◌⊎◌, ◌≢◌, List, ℕ, ◌+◌, ◌<◌, ◌≤◌, length, get_or}
use Rattle.std.proofs.Common.{sym, ◌∙◌, arith}
use Rattle.unify.specs.declared.Face.{Face}
use Rattle.unify.specs.declared.Face.TheVariants.{Same, Clash, Bind, Merge}
use Rattle.joining.specs.Run.{term, term_var}
use Rattle.laws.specs.Sizes.{variable_base}

abbrev pub Faced : List ℕ → ℕ → ℕ → Face → Type 0
Faced pool p r Same = (sig : List ℕ) → term sig pool p ≡ term sig pool r
Faced pool p r Clash = (get_or pool p 0 < variable_base) × (get_or pool r 0 < variable_base) × (get_or pool p 0 ≢ get_or pool r 0)
Faced pool p r (Bind x u) = (w : ℕ) × (((w ≡ p) × (u ≡ r)) ⊎ ((w ≡ r) × (u ≡ p)))
    × (get_or pool w 0 ≡ variable_base + x.0) × (get_or pool u 0 < variable_base + x.0)
Faced pool p r Merge = (get_or pool p 0 < variable_base) × (get_or pool p 0 ≡ get_or pool r 0)

pub same_var : (pool : List ℕ) (p r : ℕ) → p < length pool → r < length pool → variable_base ≤ get_or pool p 0 → get_or pool p 0 ≡ get_or pool r 0 → (sig : List ℕ) → term sig pool p ≡ term sig pool r
same_var pool p r pl rl v e sig = term_var sig pool p pl v ∙ rw e (sym (term_var sig pool r rl (omega arith)))
