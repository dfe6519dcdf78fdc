use mathlib.Core.Path.{◌≡◌}
use Rattle.matching.specs.Going.{Going}
use Rattle.matching.specs.Steps.{Lone}
use Rattle.matching.proofs.turns.Given as goal

abbrev pub invariant-loop-i : goal.invariant-loop-i
invariant-loop-i g l = Going l.sig l.pattern l.target l.tab l.i l.j × ((g.row.RENAMES ≡ 0 → ⊥) → Lone l.target l.tab)
