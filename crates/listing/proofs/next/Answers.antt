use Prim.Native.Nat.{◌<◌, ◌^◌}
use native.Mathlib.Omega.{arith}
use borrow.Author.Rules.{rules}
use lib.ListN.{get_or}
use Rattle.listing.proofs.NextLaws.{next_found, next_pass, next_over}
use Rattle.listing.proofs.next.Goals as goal

pub loop-i-init : goal.loop-i-init
loop-i-init c = (omega arith, omega arith, λ x a b. absurd (omega arith))

pub returns-then-word-ne0 : goal.returns-then-word-ne0
returns-then-word-ne0 c = let l = c.loop-i in
    let w : get_or c.args.set.words l.i 0 < 2 ^ 64 = search rules in
    next_found c.args.set.words _ l.i l.skipped c.loop-i-test.true l.invariant.0 w l.invariant.1 l.invariant.2 c.if-word-ne0.true

pub loop-i-preserved : goal.loop-i-preserved
loop-i-preserved c = let l = c.loop-i in
    let w : get_or c.args.set.words l.i 0 < 2 ^ 64 = search rules in
    (omega arith, omega arith, next_pass c.args.set.words _ l.i l.skipped c.loop-i-test.true l.invariant.0 w l.invariant.1 l.invariant.2 c.if-word-ne0.false)

pub returns : goal.returns
returns c = let l = c.loop-i in next_over _ _ l.i l.skipped (omega arith) l.invariant.2
