use mathlib.Core.Path.{refl}
use native.Mathlib.Omega.{arith}
use Rattle.outline.proofs.OutlineLaws.{pushed_part, pushed_turn, pushed_end}
use Rattle.outline.proofs.push.Goals as goal

pub loop-j-preserved : goal.loop-j-preserved
loop-j-preserved c = let l = c.loop-j in
    let p = pushed_part c.args.stack.now c.args.top c.args.a c.requires.0 c.requires.1 in
    pushed_turn l.up-items _ l.j _ _ (omega arith) (omega arith) (omega arith) l.invariant

pub returns : goal.returns
returns c = let l = c.loop-j in
    let p = pushed_part c.args.stack.now c.args.top c.args.a c.requires.0 c.requires.1 in
    (refl, pushed_end c.args.stack.now l.up-items c.args.n c.args.top c.args.a l.j c.requires.0 c.requires.1 (omega arith) (omega arith) l.invariant)
