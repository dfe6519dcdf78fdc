use Rattle.std.proofs.Common.{◌≡◌, arith}
use Rattle.casetext.proofs.read_hex.Goals as goal

pub returns : goal.returns
returns c = let e : c.loop-i.i ≡ 512 = omega arith in (rw e at c.loop-i.invariant.0, c.loop-i.invariant.1)
