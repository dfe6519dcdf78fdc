use Prim.Native.Nat.{◌+◌, ◌-◌}
use mathlib.Core.Path.{sym, ◌∙◌}
use native.Mathlib.Omega.{arith}
use Rattle.chains.proofs.ChainLaws.{longer_end, longer_none, longer_step}
use Rattle.chains.proofs.roomy.Goals as goal

pub returns-then-k-eq0 : goal.returns-then-k-eq0
returns-then-k-eq0 c = sym (c.loop.invariant ∙ longer_none _ _ _ (omega arith) c.if-k-eq0.true)

pub loop-preserved : goal.loop-preserved
loop-preserved c = c.loop.invariant ∙ longer_step _ _ (c.args.m - (c.loop.counter + 1)) _ (omega arith) c.if-k-eq0.false

pub returns : goal.returns
returns c = sym (c.loop.invariant ∙ longer_end _ _ _ (omega arith))
