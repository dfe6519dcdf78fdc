use Prim.Native.Nat.{◌+◌, ◌*◌}
use Rattle.joining.specs.Classes.{reps}
use Rattle.joining.specs.Run.{UnifierState}
use Rattle.unify.proofs.unify.Given as goal

abbrev pub invariant-loop-left : goal.invariant-loop-left
invariant-loop-left l = UnifierState l.sig l.pool l.root l.pending.pairs l.pending.count l.tab l.masks l.cls

abbrev pub decreases-loop-left : goal.decreases-loop-left
decreases-loop-left l = 8 * reps l.cls + l.pending.count
