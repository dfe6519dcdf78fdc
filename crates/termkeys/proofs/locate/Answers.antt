use mathlib.Core.Path.{sym, ◌∙◌}
use native.Mathlib.Omega.{arith}
use Rattle.termkeys.proofs.TermKeyLaws.{fill_turn, fill_end}
use Rattle.termkeys.proofs.locate.Goals as goal

pub loop-i-preserved : goal.loop-i-preserved
loop-i-preserved c = let l = c.loop-i in
    l.invariant ∙ fill_turn _ _ _ _ _ l.i _ _ _ (omega arith) (omega arith) c.place.ensures.0 c.label_of-w.ensures (c.unwrap_or.ensures ∙ c.find.ensures.found)

pub returns : goal.returns
returns c = let l = c.loop-i in
    sym (l.invariant ∙ fill_end _ _ _ _ _ l.i (omega arith))
