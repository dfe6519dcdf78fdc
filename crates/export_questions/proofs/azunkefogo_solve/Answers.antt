use mathlib.Core.Path.{refl}
use Rattle.library.specs.Store.{solve}
use Rattle.export_answers.proofs.AnswerLaws.{tells_both}
use Rattle.export_questions.proofs.azunkefogo_solve.Goals as goal

pub returns : goal.returns
returns c = tells_both _ _ _ _ (solve _ _ _) c.solve.result _ c.solve.ensures c.tell_both.ensures.0 refl _ _ _ _ c.tell_both.ensures.1 c.tell_both.ensures.2
