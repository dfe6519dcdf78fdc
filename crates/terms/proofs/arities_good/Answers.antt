use Rattle.std.proofs.Common.{leb, rules}
use Rattle.std.proofs.lemmas.List.Recursion.{and_is}
use Rattle.terms.specs.Terms.{arities_good}
use Rattle.terms.proofs.TermLaws.{arities_none, arities_more}
use Rattle.terms.proofs.arities_good.Goals as goal

pub returns : goal.returns
returns c = and_is arities_good (λ a. leb a 8) arities_none arities_more c.args.sig.now 0 _ (search rules) (search rules)
