use lib.ListN.{length}
use Prim.Native.Nat.{◌+◌, ◌-◌, ◌≤◌}
use Rattle.theory.specs.Items.{codes}
use Rattle.theory.specs.ItemWalk.{Walk}
use Rattle.matching.proofs.end_of.Given as goal

abbrev pub invariant-loop-opened : goal.invariant-loop-opened
invariant-loop-opened l = Walk l.sig (codes 0 l.t) l.j l.opened l.i × (l.j + 1 ≤ l.opened + l.i)

abbrev pub decreases-loop-opened : goal.decreases-loop-opened
decreases-loop-opened l = length (codes 0 l.t) - l.i
