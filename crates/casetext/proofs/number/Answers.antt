use Rattle.std.proofs.Common.{rules, ◌≡◌, ◌+◌, ◌*◌, ◌%◌, ◌∙◌, fold, arith}
use Rattle.casetext.proofs.Reading.{decimal_is, decimal_small}
use Rattle.casetext.specs.CaseText.{decimal_from}
use Rattle.casetext.proofs.number.Goals as goal

pub returns : goal.returns
returns c =
    let e : c.fold.result ≡ fold (λ n b. n % 1000000 * 10 + b % 16) 0 c.args.digits.now = search rules in
    let d : c.fold.result ≡ decimal_from 0 c.args.digits.now = e ∙ decimal_is 0 c.args.digits.now in
    (d, rw d (decimal_small 0 c.args.digits.now (omega arith)))
