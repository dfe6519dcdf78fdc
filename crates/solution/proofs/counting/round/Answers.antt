use Prim.Native.Nat.{ℕ, ◌<◌}
use Rattle.std.proofs.Common.{arith}
use lib.ListN.{length, get_or, length-set}
use Rattle.solution.specs.Values.{entry_size}
use Rattle.joining.proofs.LoopLaws.{filled}
use Rattle.solution.proofs.counting.round.Goals as goal

pub loop-y-preserved : goal.loop-y-preserved
loop-y-preserved c = let l = c.loop-y in
    let b : l.y < length l.new = omega arith in
    (rw length-set l.invariant.0, filled (λ (y : ℕ). entry_size c.args.sig.now c.args.pool.now c.args.old.now (get_or c.args.tab.now y 0)) l.new l.y _ b c.entry_size.ensures l.invariant.1)

pub returns : goal.returns
returns c = λ y b. c.loop-y.invariant.1 y (omega arith)
