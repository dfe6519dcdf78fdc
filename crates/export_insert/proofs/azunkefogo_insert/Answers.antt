use mathlib.Core.Path.{refl}
use Rattle.library.specs.Store.{insert}
use Rattle.export_answers.proofs.AnswerLaws.{tells_first}
use Rattle.export_insert.proofs.azunkefogo_insert.Goals as goal

pub returns : goal.returns
returns c = tells_first _ _ _ _ (insert _) c.insert.result _ c.insert.ensures c.tell_first.ensures.0 refl _ _ c.tell_first.ensures.1
