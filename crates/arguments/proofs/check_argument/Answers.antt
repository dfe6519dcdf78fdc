use Rattle.std.proofs.Common.{sym, arith}
use Rattle.terms.proofs.TermLaws.{good}
use Rattle.arguments.proofs.check_argument.Goals as goal

pub number_at-requires : goal.number_at-requires
number_at-requires c = omega (arith, (good _ _ (sym c.in_ok-check.ensures)).long)
