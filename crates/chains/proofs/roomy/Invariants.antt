use Prim.Native.Nat.{◌-◌}
use mathlib.Core.Path.{◌≡◌}
use lib.ListN.{get_or}
use Rattle.chains.specs.Chains.{longer}
use Rattle.laws.specs.Sizes.{free_head}
use Rattle.chains.proofs.roomy.Given as goal

abbrev pub invariant-loop : goal.invariant-loop
invariant-loop l = longer l.link l.m (get_or l.link free_head 0) ≡ longer l.link (l.m - l.counter) l.k
