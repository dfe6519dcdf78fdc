use mathlib.Core.Path.{◌≡◌}
use lib.ListN.{take}
use Rattle.paths.specs.Ups.{kids}
use Rattle.outline.proofs.push.Given as goal

abbrev pub invariant-loop-j : goal.invariant-loop-j
invariant-loop-j l = take l.j l.up-items ≡ take l.j (kids l.n 0 l.a)
