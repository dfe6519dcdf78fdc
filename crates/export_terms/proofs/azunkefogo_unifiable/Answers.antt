use Rattle.export_answers.proofs.AnswerLaws.{told_pair}
use Rattle.export_terms.proofs.azunkefogo_unifiable.Goals as goal

pub returns : goal.returns
returns c =
    let p = told_pair _ _ _ c.unifiable.result _ _ _ c.unifiable.ensures c.paired.ensures.0 c.paired.ensures.1 in
    record { value = p.0; told = p.1 }
