use Prim.Native.Nat.{◌≤◌, ◌<◌, ◌-◌}
use mathlib.Core.Path.{◌≡◌}
use lib.ListN.{length, drop}
use Rattle.definitions.specs.Trees.{forest, arguments_after}
use Rattle.candidates.proofs.end_after.Given as goal

abbrev pub invariant-loop : goal.invariant-loop
invariant-loop l = (l.i < l.e) × (l.e ≤ length l.items) × (arguments_after (l.end - l.counter) (forest l.sig (drop l.e l.items)) ≡ arguments_after 1 (forest l.sig (drop l.i l.items)))
