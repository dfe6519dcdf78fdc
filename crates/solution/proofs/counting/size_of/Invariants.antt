use Prim.Native.Nat.{◌-◌}
use lib.ListN.{length}
use Rattle.theory.specs.ItemWalk.{Walk}
use Rattle.solution.specs.Values.{Counted}
use Rattle.solution.proofs.counting.size_of.Given as goal

abbrev pub invariant-loop-opened : goal.invariant-loop-opened
invariant-loop-opened l = Walk l.sig l.pool l.p l.opened l.i × Counted l.sig l.pool l.sz l.p l.opened l.i l.m

abbrev pub decreases-loop-opened : goal.decreases-loop-opened
decreases-loop-opened l = length l.pool - l.i
