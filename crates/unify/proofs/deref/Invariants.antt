use Prim.Native.Nat.{◌<◌}
use lib.ListN.{length, get_or}
use Rattle.joining.specs.Run.{Way}
use Rattle.unify.proofs.deref.Given as goal

abbrev pub invariant-loop-next : goal.invariant-loop-next
invariant-loop-next l = (l.r < length l.pool) × Way l.tab l.pool l.p l.r

abbrev pub decreases-loop-next : goal.decreases-loop-next
decreases-loop-next l = get_or l.pool l.r 0
