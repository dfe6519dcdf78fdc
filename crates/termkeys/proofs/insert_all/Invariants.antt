use mathlib.Core.Path.{◌≡◌}
use lib.ListN.{drop}
use Rattle.termkeys.specs.Fill.{ins_fill, tables}
use Rattle.termkeys.proofs.insert_all.Given as goal

abbrev pub invariant-loop-i : goal.invariant-loop-i
invariant-loop-i l = ins_fill (tables l.initial.link l.initial.label l.initial.s0 l.initial.s1 l.initial.s2 l.initial.s3) l.initial.ks l.s 0 l.ups l.ends ≡ ins_fill (tables l.link l.label l.s0 l.s1 l.s2 l.s3) l.ks l.s l.i (drop l.i l.ups) (drop l.i l.ends)
