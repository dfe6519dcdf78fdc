use Rattle.std.proofs.Common.{◌≡◌, ◌++◌, map, take, drop}
use Rattle.joining.specs.Masks.{spread}
use Rattle.joining.proofs.binding.spread_all.Given as goal

abbrev pub invariant-loop-w : goal.invariant-loop-w
invariant-loop-w l = l.masks ≡ map (spread l.x l.m) (take l.w-index l.initial.masks) ++ drop l.w-index l.initial.masks
