use borrow.Author.Rules.{rules}
use borrow.Author.Tests.{tests}
use Prim.Native.Nat.{◌%◌}
use native.Mathlib.Omega.{arith}
use Rattle.laws.specs.Digits.{one_shl}
use Rattle.marking.proofs.MarkLaws.{unmarked_at}
use Rattle.marking.proofs.unmark.Goals as goal

pub returns : goal.returns
returns c = let e = c.change.ensures in
    unmarked_at _ _ _ _ _ _ e.3 e.2 (omega arith) (rw (← one_shl (c.args.s % 64) (omega arith)) (search (rules, tests)))
