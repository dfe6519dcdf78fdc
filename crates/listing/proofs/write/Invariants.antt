use Prim.Native.Nat.{◌*◌}
use mathlib.Core.Path.{◌≡◌}
use lib.ListN.{take, drop}
use lib.Seq.{sets}
use Rattle.slots.specs.Slots.{members, listed}
use Rattle.listing.specs.Following.{left}
use Rattle.listing.proofs.write.Given as goal

abbrev pub invariant-loop-i : goal.invariant-loop-i
invariant-loop-i l =
    (drop (2 * l.i-iterator.count) (listed (members l.fn.set.words)) ≡ listed (left l.i-iterator.iter))
    × (l.out ≡ sets l.initial.out 0 (take (2 * l.i-iterator.count) (listed (members l.fn.set.words))))
