use mathlib.Core.Path.{refl, sym, ◌∙◌}
use native.Mathlib.Omega.{arith}
use Rattle.termkeys.proofs.TermKeyLaws.{del_turn, del_end}
use Rattle.termkeys.proofs.delete_all.Goals as goal

pub loop-i-preserved : goal.loop-i-preserved
loop-i-preserved c = let l = c.loop-i in
    l.invariant ∙ del_turn _ _ _ _ l.i _ _ (omega arith) refl refl c.leave.ensures

pub returns : goal.returns
returns c = let l = c.loop-i in sym (l.invariant ∙ del_end _ _ _ l.i (omega arith))
