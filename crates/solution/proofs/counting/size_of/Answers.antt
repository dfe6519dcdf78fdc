use native.Mathlib.Omega.{arith}
use Rattle.theory.specs.ItemWalk.{walk_start, walk_low, walk_turn}
use Rattle.joining.specs.Sums.{given_begins}
use Rattle.solution.specs.Values.{counted_turn}
use Rattle.solution.proofs.counting.size_of.Goals as goal

pub loop-opened-init : goal.loop-opened-init
loop-opened-init c = let a = c.args in
    (walk_start a.sig.now a.pool.now a.p (given_begins a.sig.now a.pool.now c.requires.0 a.p c.requires.1) c.requires.1, (omega arith, omega arith))

pub overflow_add-opened : goal.overflow_add-opened
overflow_add-opened c = let l = c.loop-opened in
    omega (arith, c.requires.0.short, c.opens.ensures.1, walk_low c.args.sig.now c.args.pool.now c.args.p l.opened l.i l.invariant.0)

pub loop-opened-preserved : goal.loop-opened-preserved
loop-opened-preserved c = let sig = c.args.sig.now in
    let pool = c.args.pool.now in
    let p = c.args.p in
    let l = c.loop-opened in
    let some = c.loop-opened-test.true in
    let low = walk_low sig pool p l.opened l.i l.invariant.0 in
    (rw c.opens.ensures.0 (walk_turn sig pool p l.opened l.i l.invariant.0 some), rw (c.opens.ensures.0, c.min-m.ensures, c.weight.ensures.0) (counted_turn sig pool c.args.sz.now p l.opened l.i l.m some (omega arith) l.invariant.1))
