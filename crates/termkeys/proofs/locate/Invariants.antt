use mathlib.Core.Path.{◌≡◌}
use lib.ListN.{drop}
use Rattle.termkeys.specs.Fill.{fill}
use Rattle.termkeys.proofs.locate.Given as goal

abbrev pub invariant-loop-i : goal.invariant-loop-i
invariant-loop-i l = fill l.link l.label l.initial.ks 0 l.ups l.ends ≡ fill l.link l.label l.ks l.i (drop l.i l.ups) (drop l.i l.ends)
