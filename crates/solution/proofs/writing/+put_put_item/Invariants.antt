use Prim.Native.Nat.{◌+◌, ◌-◌, ◌*◌}
use lib.ListN.{length}
use Rattle.solution.specs.ValueBytes.{Putting}
use Rattle.solution.proofs.writing.+put_put_item.Given as goal

abbrev pub decreases-put : goal.decreases-put
decreases-put l = 2 * l.levels + 1

abbrev pub decreases-put_item : goal.decreases-put_item
decreases-put_item l = 2 * l.levels

abbrev pub invariant-put-loop-opened : goal.invariant-put-loop-opened
invariant-put-loop-opened l = Putting l.sig l.pool l.tab l.levels l.p l.initial.out l.out l.used l.opened l.i

abbrev pub decreases-put-loop-opened : goal.decreases-put-loop-opened
decreases-put-loop-opened l = length l.pool - l.i
