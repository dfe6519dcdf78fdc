-- SCOPE.md, 'Term bytes': what the exported argument question writes.
use Rattle.std.specs.Prelude.{ℕ, List, length, eqb}
use Rattle.laws.specs.Choice.{pick}
use Rattle.terms.specs.Terms.{arg_refusal, arg_start, arg_bytes}

-- where argument i starts; what was there before, where it is refused
unfoldable pub start_after : List ℕ → List ℕ → ℕ → ℕ → ℕ
start_after sig t i was = pick (eqb (arg_refusal sig t i) 0) (arg_start sig t i) was

-- how many bytes argument i has; what was there before, where it is refused
unfoldable pub length_after : List ℕ → List ℕ → ℕ → ℕ → ℕ
length_after sig t i was = pick (eqb (arg_refusal sig t i) 0) (length (arg_bytes sig t i)) was
