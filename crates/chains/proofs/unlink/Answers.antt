use Prim.Native.Nat.{◌+◌, ◌-◌}
use mathlib.Core.Path.{◌≡◌, sym, ◌∙◌}
use native.Mathlib.Omega.{arith}
use lib.ListN.{get_or}
use Rattle.chains.proofs.ChainLaws.{unlink_hit, unlink_miss, unlink_none, unlink_out}
use Rattle.laws.specs.Sizes.{key_limit}
use Rattle.chains.proofs.unlink.Goals as goal

pub returns-then-x-eq0 : goal.returns-then-x-eq0
returns-then-x-eq0 c = let l = c.loop in
    let e : get_or c.args.link.now l.at 0 ≡ 0 = rw l.invariant.0 at c.if-x-eq0.true in
    l.invariant.0 ∙ sym (l.invariant.2 ∙ unlink_none _ _ _ _ _ e)

pub returns-then-x-k : goal.returns-then-x-k
returns-then-x-k c = let l = c.loop in
    rw l.invariant.0 (sym (l.invariant.2 ∙ unlink_hit _ _ _ _ _ (omega arith) (rw l.invariant.0 at c.if-x-eq0.false) (rw l.invariant.0 at c.if-x-k.true)))

pub loop-preserved : goal.loop-preserved
loop-preserved c = let l = c.loop in (
  l.invariant.0,
  omega arith,
  rw l.invariant.0 (l.invariant.2
      ∙ unlink_miss _ _ _ (key_limit - (l.counter + 1)) _ _ (omega arith) (rw l.invariant.0 at c.if-x-eq0.false) (rw l.invariant.0 at c.if-x-k.false)),
)

pub returns : goal.returns
returns c = c.loop.invariant.0 ∙ sym (c.loop.invariant.2 ∙ unlink_out _ _ _ _ _ (omega arith))
