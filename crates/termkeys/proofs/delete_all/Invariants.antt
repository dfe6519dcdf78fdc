use mathlib.Core.Path.{◌≡◌}
use Rattle.termkeys.specs.Fill.{del_fill, tables}
use Rattle.termkeys.proofs.delete_all.Given as goal

abbrev pub invariant-loop-i : goal.invariant-loop-i
invariant-loop-i l = del_fill (tables l.initial.link l.initial.label l.initial.s0 l.initial.s1 l.initial.s2 l.initial.s3) l.ks l.s l.n ≡ del_fill (tables l.link l.label l.s0 l.s1 l.s2 l.s3) l.ks l.s l.i
