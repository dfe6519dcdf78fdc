use Rattle.std.proofs.Common.{◌-◌, ◌≡◌, ◌+◌, ◌≤◌, length, drop}
use Rattle.terms.specs.Terms.{span}
use Rattle.checking.proofs.+walk.Given as goal

abbrev pub decreases-walk : goal.decreases-walk
decreases-walk l = l.levels

abbrev pub invariant-loop-argument : goal.invariant-loop-argument
invariant-loop-argument l =
    (2 ≤ l.used) × (l.used ≤ length l.t) × (span l.sig l.t 1 ≡ l.used + span l.sig (drop l.used l.t) (l._argument-end - l._argument))
