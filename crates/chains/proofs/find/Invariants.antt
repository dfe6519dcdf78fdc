use Prim.Native.Nat.{◌-◌}
use mathlib.Core.Path.{◌≡◌}
use Rattle.chains.specs.Chains.{found_from, find}
use Rattle.laws.specs.Sizes.{key_limit}
use Rattle.chains.proofs.find.Given as goal

abbrev pub invariant-loop : goal.invariant-loop
invariant-loop l = find l.link l.label l.w ≡ found_from l.link l.label l.w (key_limit - l.counter) l.k
