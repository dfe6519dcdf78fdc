-- Serves SCOPE.md, 'The solver's record': what callers show to ask: that the checks took the
-- signature, the stored term and the question.
use Rattle.std.specs.Prelude.{◌≡◌, List, ℕ}
use Rattle.terms.specs.Terms.{sig_refusal, Signed, refusal}
use Rattle.terms.proofs.TermLaws.{Good, good, signed}
use Rattle.theory.specs.CheckedItems.{fine_good}
use Rattle.unifiable.specs.Pool.{Asked}

pub asked_good : (sig s q : List ℕ) → Signed sig → Good sig s → Good sig q → Asked sig s q
asked_good sig s q h a b = record { stored = fine_good sig s h a; question = fine_good sig q h b; arities = h.eight }

-- none of the refusals 2 and 5 to 8
pub asked : (sig s q : List ℕ) → sig_refusal sig ≡ 0 → refusal sig s ≡ 0 → refusal sig q ≡ 0 → Asked sig s q
asked sig s q h a b = asked_good sig s q (signed sig h) (good sig s a) (good sig q b)
