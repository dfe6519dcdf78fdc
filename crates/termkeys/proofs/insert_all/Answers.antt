use mathlib.Core.Path.{sym, ◌∙◌}
use native.Mathlib.Omega.{arith}
use Rattle.termkeys.proofs.TermKeyLaws.{ins_turn, ins_end}
use Rattle.termkeys.proofs.insert_all.Goals as goal

pub loop-i-preserved : goal.loop-i-preserved
loop-i-preserved c = let l = c.loop-i in
    let e = c.enter.ensures in
    l.invariant ∙ ins_turn _ _ l.ks _ _ _ l.i _ _ _ (omega arith) c.requires.2 c.place.ensures.0 c.label_of-w.ensures e.value.0 e.s3_after

pub returns : goal.returns
returns c = let l = c.loop-i in sym (l.invariant ∙ ins_end _ _ _ _ _ l.i (omega arith))
