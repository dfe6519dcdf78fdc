use Rattle.std.proofs.Common.{◌∙◌, sym}
use Rattle.pairs.proofs.PairLaws.{pair_signature, pair_terms, first_of_both, term_few}
use Rattle.std.proofs.lemmas.Result.{err_from_is_err_and}
use Rattle.refusals.specs.Numbers.{number_some}
use Rattle.pairs.proofs.check.Goals as goal

pub first-requires : goal.first-requires
first-requires c = (rw c.check.ensures (term_few _ _), rw c.check-2.ensures (term_few _ _))

pub returns : goal.returns
returns c = c.first.ensures ∙ first_of_both _ _ _ _ c.check.ensures c.check-2.ensures ∙ pair_terms _ _ _ (sym c.in_ok-check_signature.ensures)

pub returns-in_err-check_signature : goal.returns-in_err-check_signature
returns-in_err-check_signature c =
    let p = err_from_is_err_and c.from_residual.result c.from_residual.ensures.1 in
    let e = c.in_err-check_signature.ensures in
    rw (p.1, p.2) (e ∙ pair_signature _ _ _ (λ h. number_some _ (e ∙ h)))
