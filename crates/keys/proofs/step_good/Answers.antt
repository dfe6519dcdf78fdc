use borrow.Author.Rules.{rules}
use borrow.Author.Tests.{tests, lt-ltb, le-ltb}
use lib.ListN.{get_or}
use Rattle.terms.specs.Terms.{arity}
use Rattle.keys.specs.Bytes.{step_good}
use Rattle.keys.proofs.KeyLaws.{inside}
use Rattle.keys.proofs.step_good.Goals as goal

pub returns-then-f-sig : goal.returns-then-f-sig
unfolding step_good
returns-then-f-sig c =
    let e = inside (get_or c.args.key.now 2 0) (arity c.args.sig.now c.number_at-f.result) c.contains.result
    (λ e. (search (rules, tests), search (rules, tests))) (λ e. search (rules, tests)) in
    rw (← c.number_at-f.ensures.0) (simp (lt-ltb _ _ c.if-f-sig.true) e)

pub returns-else-f-sig : goal.returns-else-f-sig
unfolding step_good
returns-else-f-sig c = rw (← c.number_at-f.ensures.0) (simp (le-ltb _ _ c.if-f-sig.false))
