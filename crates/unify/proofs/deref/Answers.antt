use Rattle.std.proofs.Common.{◌≡◌, suc, get_or, ◌-◌, arith}
use Rattle.joining.specs.Run.{way_more}
use Rattle.laws.specs.Sizes.{variable_base}
use Rattle.unify.proofs.deref.Goals as goal

pub loop-next-preserved : goal.loop-next-preserved
loop-next-preserved c = let a = c.args in
    let l = c.loop-next in
    let b = c.in-Some.ensures in
    let x = get_or a.pool.now l.r 0 - variable_base in
    let e : get_or a.tab.now x 0 ≡ suc c.in-Some.next = omega arith in
    (omega (arith, c.requires.0.inside x), way_more a.tab.now a.pool.now a.p l.r c.in-Some.next l.invariant.0 b.0 (c.requires.2 l.r l.invariant.0) e l.invariant.1)
