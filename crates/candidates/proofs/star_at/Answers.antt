use Rattle.candidates.proofs.CandidateLaws.{having_none}
use Rattle.candidates.proofs.star_at.Goals as goal

pub returns-in-None : goal.returns-in-None
returns-in-None c = having_none _ _ _ _ _ _ _ _ c.label_of.ensures c.in-None.ensures.found c.empty.ensures
