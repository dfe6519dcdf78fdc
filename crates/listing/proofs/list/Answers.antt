use mathlib.Core.Path.{sym, ◌∙◌}
use native.Mathlib.Omega.{arith}
use Rattle.slots.specs.Slots.{into_none, into_all}
use Rattle.listing.proofs.list.Goals as goal

pub returns-then-n-out : goal.returns-then-n-out
returns-then-n-out c = let e = c.size-n.ensures in
    (e.0, e.1, c.write.ensures ∙ sym (into_all _ _ (omega (arith, e.0, c.if-n-out.true))))

pub returns-else-n-out : goal.returns-else-n-out
returns-else-n-out c = let e = c.size-n.ensures in
    (e.0, e.1, sym (into_none c.args.set.words c.args.out.now (omega (arith, e.0, c.if-n-out.false))))
