use Rattle.layout.specs.Layout.{with_term}
use Rattle.filling.proofs.put_term.Goals as goal

pub returns : goal.returns
unfolding with_term
returns c = c.copy.ensures
