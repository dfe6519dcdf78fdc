use Rattle.std.proofs.Common.{rules}
use Rattle.unify.proofs.own_classes.Goals as goal

pub returns : goal.returns
returns c = λ i b. (let h = c.from_fn.ensures.items.at i 0 b in search rules)
