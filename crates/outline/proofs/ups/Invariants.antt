use Prim.Native.Nat.{◌≤◌, ◌+◌, ◌*◌}
use mathlib.Core.Path.{◌≡◌}
use mathlib.Core.List.{[], ◌∷◌, ◌++◌}
use lib.ListN.{take, drop}
use Rattle.paths.specs.Ups.{ups_f}
use Rattle.outline.proofs.OutlineLaws.{Below}
use Rattle.terms.specs.Terms.{arity}
use Rattle.outline.proofs.ups.Given as goal

abbrev pub invariant-loop-i : goal.invariant-loop-i
invariant-loop-i l = (256 ≤ l.sp + 8 * l.i) × (ups_f (λ x. arity l.sig x) 0 (0 ∷ []) l.items ≡ take l.i l.out ++ ups_f (λ x. arity l.sig x) l.i (drop l.sp l.stack) (drop l.i l.items)) × Below (8 * l.i) (drop l.sp l.stack) × (drop l.i l.out ≡ drop l.i l.initial.out)
