use Prim.Native.Nat.{ℕ, ◌<◌}
use mathlib.Core.Path.{◌≡◌}
use lib.ListN.{length, get_or}
use Rattle.solution.specs.Values.{entry_size}
use Rattle.solution.proofs.counting.round.Given as goal

abbrev pub invariant-loop-y : goal.invariant-loop-y
invariant-loop-y l = (length l.new ≡ 64) × ((y : ℕ) → y < l.y → get_or l.new y 0 ≡ entry_size l.sig l.pool l.old (get_or l.tab y 0))
