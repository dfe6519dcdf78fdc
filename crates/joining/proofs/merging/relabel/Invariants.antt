use Rattle.std.proofs.Common.{◌≡◌, ◌++◌, map, take, drop}
use Rattle.joining.specs.Classes.{swap}
use Rattle.joining.proofs.merging.relabel.Given as goal

abbrev pub invariant-loop-x : goal.invariant-loop-x
invariant-loop-x l = l.cls ≡ map (swap l.from l.to) (take l.x-index l.initial.cls) ++ drop l.x-index l.initial.cls
