use Rattle.confirming.proofs.ConfirmLaws.{test, Confirming}
use Rattle.listing.specs.Following.{left}
use Rattle.confirming.proofs.confirmed.Given as goal

abbrev pub invariant-loop-slot : goal.invariant-loop-slot
invariant-loop-slot l = Confirming (test l.bytes l.relation l.sig l.q) l.fn.candidates.words l.answers.words (left l.slot-iterator)
