use Prim.Native.Nat.{◌+◌, ◌-◌}
use mathlib.Core.Path.{refl, sym, ◌∙◌}
use native.Mathlib.Omega.{arith}
use Rattle.chains.proofs.ChainLaws.{found_hit, found_miss, found_none, found_out, find_start}
use Rattle.laws.specs.Sizes.{key_limit}
use Rattle.chains.proofs.find.Goals as goal

pub loop-init : goal.loop-init
loop-init c = find_start _ _ _ _ _ c.home.ensures.0 refl

pub returns-then-k-eq0-clause-found : goal.returns-then-k-eq0-clause-found
returns-then-k-eq0-clause-found c = sym (c.loop.invariant ∙ found_none _ _ _ _ _ c.if-k-eq0.true)

pub returns-then-label-j-clause-found : goal.returns-then-label-j-clause-found
returns-then-label-j-clause-found c =
    sym (c.loop.invariant ∙ found_hit _ _ _ _ _ (omega arith) c.if-k-eq0.false c.if-label-j.true)

pub loop-preserved : goal.loop-preserved
loop-preserved c =
    c.loop.invariant ∙ found_miss _ _ _ _ (key_limit - (c.loop.counter + 1)) _ (omega arith) c.if-k-eq0.false c.if-label-j.false

pub returns-clause-found : goal.returns-clause-found
returns-clause-found c = sym (c.loop.invariant ∙ found_out _ _ _ _ _ (omega arith))
