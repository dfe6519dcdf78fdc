use Rattle.std.proofs.Common.{sym}
use Rattle.pairs.proofs.PairLaws.{pair_none}
use Rattle.unifiable.specs.CheckedTerms.{asked}
use Rattle.pairs.proofs.unifiable.Goals as goal

pub unifiable-requires : goal.unifiable-requires
unifiable-requires c = let n = pair_none _ _ _ (sym c.in_ok-check.ensures) in asked _ _ _ n.0 n.1 n.2
