use Rattle.std.proofs.Common.{◌≡◌, ◌==◌, count_by, not, rules, ◌∙◌, sym}
use Rattle.std.proofs.iter.runs.Made.{chains}
use Rattle.solution.proofs.SolutionLaws.{bound_count_by}
use Rattle.solution.proofs.counting.fields.Goals as goal

pub returns : goal.returns
returns c =
    let counted : c.count.result ≡ count_by (λ e. not (e == 0)) c.args.tab.now = search (rules, chains) in
    counted ∙ sym (bound_count_by c.args.tab.now 64 0 (sym c.told-tab))
