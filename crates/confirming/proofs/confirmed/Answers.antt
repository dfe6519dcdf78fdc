use mathlib.Core.Path.{ap, ◌∙◌}
use Rattle.listing.specs.Following.{left}
use Rattle.confirming.proofs.ConfirmLaws.{test, confirming_start, confirming_slot, confirming_put, confirming_pass, confirming_end}
use Rattle.confirming.proofs.confirmed.Goals as goal

pub loop-slot-init : goal.loop-slot-init
loop-slot-init c = let a = c.args in
    confirming_start (test a.bytes.now a.relation a.sig.now a.q.now) a.candidates.words _ _ c.empty-answers.ensures
    (ap left c.into_iter-slot-iterator.ensures.into_iter_gives ∙ c.members-slot-items.ensures.0)

pub term-requires : goal.term-requires
term-requires c = (c.requires.0, confirming_slot _ _ _ _ c.loop-slot.invariant _ _ c.in-Some.ensures.steps)

pub stands-requires : goal.stands-requires
stands-requires c = (c.requires.1, c.requires.2)

pub loop-slot-preserved-then-stands : goal.loop-slot-preserved-then-stands
loop-slot-preserved-then-stands c =
    rw c.insert-answers.ensures (confirming_put _ _ _ _ c.loop-slot.invariant _ _ c.in-Some.ensures.steps c.stands.result (rw c.term.ensures.0 at c.stands.ensures) c.if-stands.true)

pub loop-slot-preserved : goal.loop-slot-preserved
loop-slot-preserved c =
    confirming_pass _ _ _ _ c.loop-slot.invariant _ _ c.in-Some.ensures.steps c.stands.result (rw c.term.ensures.0 at c.stands.ensures) c.if-stands.false

pub returns : goal.returns
returns c = confirming_end _ _ _ _ c.loop-slot.invariant c.in-None.ensures.steps.0
