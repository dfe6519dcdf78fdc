use Rattle.std.proofs.Common.{arith, ap, sym, ◌∙◌, length}
use Rattle.keys.proofs.KeyLaws.{after, after_is}
use Rattle.chains.specs.Chains.{find}
use Rattle.keyquestion.proofs.NumberLaws.{number_start, number_turn, after_turn, number_none, number_end}
use Rattle.keyquestion.proofs.key_number.Goals as goal

pub returns-then-end-ne2 : goal.returns-then-end-ne2
returns-then-end-ne2 c =
    let e = c.remainder-end.ensures ∙ c.chunks_exact-steps.ensures.remainder ∙ after_is c.args.key.now in
    number_none _ _ _ _ (λ z. c.if-end-ne2.true (ap length e ∙ z)) ∙ number_start _ _ _

pub loop-step-init : goal.loop-step-init
loop-step-init c =
    let s = c.chunks_exact-steps.ensures in
    let e = c.remainder-end.ensures ∙ s.remainder ∙ after_is c.args.key.now in
    rw (c.into_iter-step-iterator.ensures.into_iter_gives, s.rest) (omega arith, s.size, sym e, number_start _ _ _)

pub loop-step-preserved : goal.loop-step-preserved
loop-step-preserved c =
    let i = c.loop-step.invariant in
    let n = c.in-Some.ensures.steps in
    let three = n.1.1 ∙ i.1 in
    let k = c.unwrap_or-k.ensures ∙ c.find.ensures.found ∙ ap (find c.args.link.now c.args.label.now) c.label_of.ensures in
    let t = number_turn _ _ _ _ _ _ _ _ three c.number_at.ensures.0 k c.place_of-place.ensures.0 in (
      c.place_of-place.ensures.1,
      n.0 ∙ i.1,
      sym (after_turn c.in-Some.step.now _ three) ∙ sym (ap after n.1.0) ∙ i.2,
      t ∙ rw (← n.1.0) i.3,
    )

pub label_of-requires : goal.label_of-requires
label_of-requires c = omega (arith, c.loop-step.invariant.0)

pub label_of-requires-2 : goal.label_of-requires-2
label_of-requires-2 c = omega (arith, c.loop-step.invariant.0)

pub returns : goal.returns
returns c =
    let i = c.loop-step.invariant in
    let few = c.in-None.ensures.steps in
    number_end _ _ _ _ _ _ _ _ _ (omega (arith, few, i.1)) i.2 c.if-end-ne2.false c.number_at-2.ensures.0 c.end_number.ensures c.label_of-2.ensures c.find-2.ensures.found ∙ i.3
