use borrow.Author.Tests.{lt-ltb, le-ltb}
use Rattle.keys.specs.Bytes.{end_good}
use Rattle.keys.proofs.end_good.Goals as goal

pub returns-then-x-sig : goal.returns-then-x-sig
unfolding end_good
returns-then-x-sig c = simp (lt-ltb _ _ c.if-x-sig.true)

pub returns-else-x-sig : goal.returns-else-x-sig
unfolding end_good
returns-else-x-sig c = simp (le-ltb _ _ c.if-x-sig.false)
