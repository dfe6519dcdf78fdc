use Rattle.std.proofs.Common.{◌≡◌}
use Rattle.lines.proofs.LineLaws.{Listing}
use Rattle.lines.proofs.put.put_slots.Given as goal

abbrev pub invariant-loop-pair : goal.invariant-loop-pair
invariant-loop-pair l = (l.pair-iterator.size ≡ 2) × Listing l.initial.line l.line l.at l.next l.listing l.pair-iterator.rest.now
