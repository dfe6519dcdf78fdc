use lib.ListN.{length}
use Rattle.candidates.specs.Ends.{EndsFrom, Ended}
use Rattle.candidates.proofs.find_ends.Given as goal

abbrev pub invariant-loop-i : goal.invariant-loop-i
invariant-loop-i l = EndsFrom l.i (length l.items) l.ends × Ended l.i l.sig l.items l.ends
