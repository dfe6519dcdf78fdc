use native.Mathlib.Omega.{arith}
use Rattle.theory.specs.ItemWalk.{walk_low, walk_turn}
use Rattle.joining.proofs.walk.skip.Goals as goal

pub overflow_add-opened : goal.overflow_add-opened
overflow_add-opened c = let a = c.args in
    let l = c.loop-opened in
    omega (arith, walk_low a.sig.now a.pool.now a.p l.opened l.i l.invariant)

pub loop-opened-preserved : goal.loop-opened-preserved
loop-opened-preserved c = let a = c.args in
    let l = c.loop-opened in
    rw c.opens.ensures.0 (walk_turn a.sig.now a.pool.now a.p l.opened l.i l.invariant c.loop-opened-test.true)
