use mathlib.Core.Path.{refl}
use Rattle.library.specs.Store.{delete}
use Rattle.export_answers.proofs.AnswerLaws.{tells}
use Rattle.export_delete.proofs.azunkefogo_delete.Goals as goal

pub returns : goal.returns
returns c = tells _ _ _ _ (delete _) c.delete.result _ c.delete.ensures c.number_of.ensures refl
