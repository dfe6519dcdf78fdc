use Rattle.std.proofs.Common.{arith}
use Rattle.solution.specs.Values.{entry_none, entry_some}
use Rattle.solution.proofs.counting.entry_size.Goals as goal

pub returns-then-entry-eq0 : goal.returns-then-entry-eq0
returns-then-entry-eq0 c = entry_none c.args.sig.now c.args.pool.now c.args.sz.now c.args.entry (omega arith)

pub returns-else-entry-eq0 : goal.returns-else-entry-eq0
returns-else-entry-eq0 c = entry_some c.args.sig.now c.args.pool.now c.args.sz.now c.args.entry _ (λ z. omega (arith, z)) c.size_of.ensures
