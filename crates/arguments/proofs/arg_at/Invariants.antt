use Rattle.std.proofs.Common.{◌-◌, ◌≡◌, ◌+◌, ◌≤◌, length, drop}
use Rattle.terms.specs.Terms.{span}
use Rattle.arguments.proofs.arg_at.Given as goal

abbrev pub invariant-loop-argument : goal.invariant-loop-argument
invariant-loop-argument l =
    (2 ≤ l.used) × (l.used ≤ length l.t) × (2 + span l.sig (drop 2 l.t) l.k ≡ l.used + span l.sig (drop l.used l.t) (l.k - l._argument))
