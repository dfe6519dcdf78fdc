use Prim.Native.Nat.{◌*◌}
use Rattle.terms.proofs.TermLaws.{Passing}
use Rattle.checking.proofs.is_term.Given as goal

abbrev pub invariant-loop-i : goal.invariant-loop-i
invariant-loop-i l = Passing l.sig l.t (2 * l.i) l.opened
