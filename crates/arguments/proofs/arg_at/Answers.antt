use Rattle.std.proofs.Common.{◌≡◌, ◌-◌, arith, refl}
use Rattle.terms.proofs.TermLaws.{span_zero, turn_in, turn_ends}
use Rattle.arguments.proofs.arg_at.Goals as goal

pub unwrap-used-requires : goal.unwrap-used-requires
unwrap-used-requires c = let l = c.loop-argument in
    turn_ends _ _ _ _ _ _ _ c.loop-argument-test.true l.invariant.1 c.walk.ensures.bytes l.invariant.2 c.walk.result refl c.requires.k_in_bounds

pub loop-argument-preserved : goal.loop-argument-preserved
loop-argument-preserved c = let l = c.loop-argument in
    let e = rw c.unwrap-used.ensures at c.walk.ensures.bytes in
    let m = turn_in _ _ _ _ _ _ _ c.loop-argument-test.true l.invariant.1 e l.invariant.2 c.requires.k_in_bounds in
    (omega arith, m.0, m.1)

pub returns : goal.returns
returns c = let e : c.args.k - c.loop-argument._argument ≡ 0 = omega arith in
    let z = rw (e, span_zero) at c.loop-argument.invariant.2 in
    omega (arith, z)
