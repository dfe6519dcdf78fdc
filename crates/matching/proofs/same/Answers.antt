use Rattle.matching.proofs.MatchingLaws.{same_decided}
use Rattle.matching.proofs.same.Goals as goal

pub returns : goal.returns
returns c = let a = c.args in
    same_decided a.t.now a.a a.b a.n c.requires.0 c.requires.1 (λ i. (c.type_inv.t i).fits) c.eq.result c.eq.ensures
