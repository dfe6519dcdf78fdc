use mathlib.Core.Path.{refl}
use native.Mathlib.Omega.{arith}
use Rattle.theory.specs.ItemWalk.{walk_start, walk_low, walk_turn}
use Rattle.joining.specs.Sums.{sum_turn, sum_end, given_begins}
use Rattle.joining.proofs.binding.mask_of.Goals as goal

pub loop-opened-init : goal.loop-opened-init
loop-opened-init c = let a = c.args in
    (walk_start a.sig.now a.pool.now a.p (given_begins a.sig.now a.pool.now c.requires.0 a.p c.requires.1) c.requires.1, refl)

pub overflow_add-opened : goal.overflow_add-opened
overflow_add-opened c = let a = c.args in
    let l = c.loop-opened in
    omega (arith, walk_low a.sig.now a.pool.now a.p l.opened l.i l.invariant.0)

pub loop-opened-preserved : goal.loop-opened-preserved
loop-opened-preserved c = let a = c.args in
    let l = c.loop-opened in
    let low = walk_low a.sig.now a.pool.now a.p l.opened l.i l.invariant.0 in
    (rw c.opens.ensures.0 (walk_turn a.sig.now a.pool.now a.p l.opened l.i l.invariant.0 c.loop-opened-test.true), rw (c.opens.ensures.0, c.set_of-m.ensures) (sum_turn a.sig.now a.pool.now a.masks.now a.p l.opened l.i l.m c.loop-opened-test.true (omega (arith, c.loop-opened-test.true)) l.invariant.1))

pub returns : goal.returns
returns c = let a = c.args in
    let l = c.loop-opened in
    sum_end a.sig.now a.pool.now a.masks.now a.p l.opened l.i l.m c.loop-opened-test.false l.invariant.1
