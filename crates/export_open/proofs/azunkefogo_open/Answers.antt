use mathlib.Core.Path.{refl}
use Rattle.library.specs.Store.{open_with}
use Rattle.export_answers.proofs.AnswerLaws.{tells}
use Rattle.export_open.proofs.azunkefogo_open.Goals as goal

pub returns : goal.returns
returns c = tells _ _ _ _ (open_with _) c.«open».result _ c.«open».ensures c.number_of.ensures refl
