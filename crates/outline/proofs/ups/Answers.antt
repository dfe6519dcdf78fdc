use Prim.Native.Nat.{◌≤◌}
use mathlib.Core.Path.{◌≡◌, sym, ◌∙◌}
use native.Mathlib.Omega.{arith}
use lib.ListN.{length}
use Rattle.outline.proofs.OutlineLaws.{ups_turn, ups_stop, ups_done, kept_turn, below_turn}
use Rattle.outline.proofs.ups.Goals as goal

pub returns-in_default : goal.returns-in_default
returns-in_default c = let l = c.loop-i in (omega arith, sym (l.invariant.1 ∙ ups_stop _ _ l.stack _ l.sp l.i c.in_default.ensures.lookup.3), l.invariant.3)

pub loop-i-preserved : goal.loop-i-preserved
loop-i-preserved c = let l = c.loop-i in
    let p = c.push-sp in
    let a = c.arity.ensures.0 in
    let u = c.in-Some.ensures.lookup.3 in
    let e : c.arity.result ≤ 8 = rw a (c.requires.2 _) in (
      omega (arith, p.ensures.0, e),
      l.invariant.1 ∙ ups_turn _ l.out l.stack p.new.stack _ l.sp p.result l.i _ _ (omega arith) u.0 (omega arith) (u.1 0) a p.ensures.1,
      below_turn l.i l.sp _ l.stack _ u.0 e l.invariant.2 p.ensures.1,
      kept_turn l.out _ l.i _ l.invariant.3,
    )

pub returns : goal.returns
returns c = let l = c.loop-i in
    let n : l.i ≡ length c.args.items.now = omega arith in
    rw (← n) (omega arith, sym (l.invariant.1 ∙ ups_done _ _ l.stack _ l.sp l.i (omega arith)), l.invariant.3)
