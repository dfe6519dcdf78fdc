use Rattle.std.proofs.Common.{◌≡◌, ◌+◌, ◌-◌, ◌*◌, ◌≤◌, length, get_or, arith}
use Rattle.terms.proofs.TermLaws.{span_zero, span_short, span_head, turn_short, turn_more}
use Rattle.checking.proofs.+walk.Goals as goal

pub returns-then-t-lt2-clause-bytes : goal.returns-then-t-lt2-clause-bytes
returns-then-t-lt2-clause-bytes t c = omega (arith, span_short c.args.sig.now c.args.t.now 1 c.if-t-lt2.true)

pub loop-argument-init : goal.loop-argument-init
loop-argument-init t c =
    let a = c.args in
    let h : 2 ≤ length a.t.now = omega arith in
    let e : c.arity-argument-end.result - 0 ≡ get_or a.sig.now (get_or a.t.now 0 0 * 256 + get_or a.t.now 1 0) 0 + 0 = rw (← c.number_at.ensures.0) (omega (arith, c.arity-argument-end.ensures.0)) in
    (omega arith, h, rw e (span_head a.sig.now a.t.now 0 h))

pub returns-in_err-used-clause-bytes : goal.returns-in_err-used-clause-bytes
returns-in_err-used-clause-bytes t c = rw c.from_residual.ensures
    (omega (arith, turn_short c.args.sig.now c.args.t.now _ _ _ _ _ c.loop-argument-test.true c.loop-argument.invariant.1 c.in_err-used.ensures.bytes c.loop-argument.invariant.2 (omega arith)))

pub loop-argument-preserved : goal.loop-argument-preserved
loop-argument-preserved t c =
    let m = turn_more c.args.sig.now c.args.t.now _ _ _ _ _ c.loop-argument-test.true c.loop-argument.invariant.1 c.in_ok-used.ensures.bytes c.loop-argument.invariant.2 c.in_ok-used.ensures.within in
    (omega arith, m.0, m.1)

pub returns-clause-bytes : goal.returns-clause-bytes
returns-clause-bytes t c =
    let e : c.arity-argument-end.result - c.loop-argument._argument ≡ 0 = omega arith in
    let z = rw (e, span_zero) at c.loop-argument.invariant.2 in
    omega (arith, z)
