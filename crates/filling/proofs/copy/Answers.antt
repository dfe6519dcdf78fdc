use mathlib.Core.Path.{ap, ◌∙◌}
use native.Mathlib.Omega.{arith}
use lib.Seq.{sets, take_all}
use Rattle.laws.proofs.Lists.{sets_turn, sets_start}
use Rattle.filling.proofs.copy.Goals as goal

pub loop-i-init : goal.loop-i-init
loop-i-init c = sets_start c.args.bytes.now c.args.at c.args.from.now

pub loop-i-preserved : goal.loop-i-preserved
loop-i-preserved c = let l = c.loop-i in rw l.invariant (sets_turn _ _ l.i _ c.loop-i-test.true)

pub returns : goal.returns
returns c = let l = c.loop-i in l.invariant ∙ ap (sets c.args.bytes.now c.args.at) (take_all l.i c.args.from.now (omega (arith, c.loop-i-test.false)))
