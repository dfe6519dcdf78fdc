use Rattle.std.proofs.Common.{arith}
use Rattle.unify.specs.Face.{same_var}
use Rattle.unify.proofs.meet.Goals as goal

pub returns-else-a-lt-VARIABLE : goal.returns-else-a-lt-VARIABLE
returns-else-a-lt-VARIABLE c = same_var c.args.pool.now c.args.p c.args.r c.requires.0 c.requires.1 (omega arith) (omega arith)
