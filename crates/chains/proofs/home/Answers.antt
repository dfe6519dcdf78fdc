use native.Mathlib.Omega.{arith}
use Rattle.chains.proofs.ChainLaws.{home_label, home_free}
use Rattle.chains.proofs.home.Goals as goal

pub returns-then-w-eq0 : goal.returns-then-w-eq0
returns-then-w-eq0 c = (home_free _ c.if-w-eq0.true, omega arith, omega arith)

pub returns-else-w-eq0 : goal.returns-else-w-eq0
returns-else-w-eq0 c = (home_label _ c.if-w-eq0.false, omega arith, omega arith)
