use Rattle.theory.specs.Items.{items16}
use Rattle.joining.specs.Push.{Pushed}
use Rattle.terms.specs.Terms.{arity}
use Rattle.joining.proofs.merging.push.Given as goal

abbrev pub invariant-loop-i : goal.invariant-loop-i
invariant-loop-i l = Pushed (arity l.sig) (items16 l.pool) l.initial.stack l.stack l.n l.a l.p l.q l.i l.l l.r
