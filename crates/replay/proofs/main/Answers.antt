use native.Mathlib.Omega.{arith}
use lib.Seq.{length-take-le}
use Rattle.turns.specs.Prints.{turned_onward}
use Rattle.replay.proofs.main.Goals as goal

-- the place after a turn is past the one where it began
pub loop-at-smaller : goal.loop-at-smaller
loop-at-smaller c =
    let l = length-take-le c.in_ok-n.n c.read_full.new.buf (omega arith) in
    let w = turned_onward _ _ _ _ _ _ _ _ _ _ c.turn-done.ensures (omega (arith, c.loop-at-test.true, l)) in
    omega (arith, c.loop-at-test.true, w.0)
