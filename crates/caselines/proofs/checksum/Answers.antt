use Rattle.std.proofs.Common.{sym, ◌∙◌, arith}
use Rattle.caselines.proofs.Saying.{sum_turn, sum_end}
use Rattle.caselines.proofs.checksum.Goals as goal

pub loop-b-preserved : goal.loop-b-preserved
loop-b-preserved c = (omega arith, sym (sum_turn _ _ _ c.loop-b-test.true) ∙ c.loop-b.invariant.1)

pub returns : goal.returns
returns c = sym (sum_end c.loop-b.sum c.loop-b.b-index c.args.bytes.now c.loop-b-test.false) ∙ c.loop-b.invariant.1
