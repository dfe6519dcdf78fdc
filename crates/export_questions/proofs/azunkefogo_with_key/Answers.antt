use mathlib.Core.Path.{refl}
use Rattle.library.specs.Store.{with_key}
use Rattle.export_answers.proofs.AnswerLaws.{tells_first}
use Rattle.export_questions.proofs.azunkefogo_with_key.Goals as goal

pub returns : goal.returns
returns c = tells_first _ _ _ _ (with_key _ _) c.with_key.result _ c.with_key.ensures c.tell_first.ensures.0 refl _ _ c.tell_first.ensures.1
