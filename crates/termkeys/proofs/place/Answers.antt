use native.Mathlib.Omega.{arith}
use Rattle.termkeys.proofs.TermKeyLaws.{up_root, up_key}
use Rattle.termkeys.proofs.place.Goals as goal

pub returns-then-u-eq0 : goal.returns-then-u-eq0
returns-then-u-eq0 c = (up_root _ _ c.if-u-eq0.true, omega arith)

pub returns : goal.returns
returns c = (up_key _ _ c.if-u-eq0.false, omega arith)
