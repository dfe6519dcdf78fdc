use Prim.Native.Nat.{ℕ, ◌≤◌, ◌+◌, ◌<◌, ◌*◌}
use mathlib.Core.Path.{◌≡◌}
use Rattle.slots.specs.Slots.{has}
use Rattle.listing.proofs.next.Given as goal

abbrev pub invariant-loop-i : goal.invariant-loop-i
invariant-loop-i l = (l.skipped < 64) × (l.from ≤ l.i * 64 + l.skipped) × ((x : ℕ) → l.from ≤ x → x < l.i * 64 + l.skipped → has l.set.words x ≡ 0)
