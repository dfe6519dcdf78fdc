use borrow.Author.Rules.{rules}
use native.Mathlib.Omega.{arith}
use Rattle.marking.proofs.MarkLaws.{changed_0, changed_1, changed_2, changed_3}
use Rattle.marking.proofs.change.Goals as goal

pub returns-in-0 : goal.returns-in-0
returns-in-0 g c = changed_0 _ _ _ _ _ _ _ (λ x r. g.F.Fn.post c.args.f (x, tt) r) (omega arith) (search rules) c.f.ensures

pub returns-in-1 : goal.returns-in-1
returns-in-1 g c = changed_1 _ _ _ _ _ _ _ (λ x r. g.F.Fn.post c.args.f (x, tt) r) (omega arith) (search rules) c.f-in-1.ensures

pub returns-in-2 : goal.returns-in-2
returns-in-2 g c = changed_2 _ _ _ _ _ _ _ (λ x r. g.F.Fn.post c.args.f (x, tt) r) (omega arith) (search rules) c.f-in-2.ensures

pub returns : goal.returns
returns g c = changed_3 _ _ _ _ _ _ _ (λ x r. g.F.Fn.post c.args.f (x, tt) r) (omega arith) (search rules) c.f-in_default.ensures
