use Prim.Native.Nat.{◌-◌, ◌<◌}
use mathlib.Core.Path.{◌≡◌}
use lib.ListN.{get_or}
use Rattle.chains.specs.Chains.{unlink}
use Rattle.laws.specs.Sizes.{key_limit, link_length}
use Rattle.chains.proofs.unlink.Given as goal

abbrev pub invariant-loop : goal.invariant-loop
invariant-loop l =
    (l.link ≡ l.initial.link) × (l.at < link_length)
    × (unlink l.initial.link l.k key_limit l.from (get_or l.initial.link l.from 0)
    ≡ unlink l.initial.link l.k (key_limit - l.counter) l.at (get_or l.initial.link l.at 0))
