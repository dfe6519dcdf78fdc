use Rattle.std.proofs.Common.{◌∙◌, ap, arith}
use Rattle.lines.proofs.LineLaws.{listing_start, listing_turn, listing_end}
use Rattle.lines.proofs.put.put_slots.Goals as goal

pub loop-pair-init : goal.loop-pair-init
loop-pair-init c =
    let e = c.chunks_exact-pair-items.ensures in let f = c.into_iter-pair-iterator.ensures.into_iter_gives in
    (ap (λ i. i.size) f ∙ e.size, listing_start _ _ _ _ c.requires (ap (λ i. i.rest.now) f ∙ e.rest))

pub loop-pair-preserved : goal.loop-pair-preserved
loop-pair-preserved c =
    let e = c.in-Some.ensures.steps in let i = c.loop-pair.invariant in
    (e.0 ∙ i.0, listing_turn _ _ (e.1.1 ∙ i.0) e.1.0 i.1 (rw (← c.number_at.ensures.0) c.put_figure-next.ensures))

pub returns : goal.returns
returns c = let i = c.loop-pair.invariant in listing_end (omega (arith, c.in-None.ensures.steps.1.0, i.0)) i.1
