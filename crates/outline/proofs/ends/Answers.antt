use mathlib.Core.Path.{sym, ◌∙◌}
use mathlib.Core.List.{map}
use native.Mathlib.Omega.{arith}
use lib.ListN.{length-map, get_or-map}
use Rattle.laws.proofs.Lists.{front_turn, front_end, front_start}
use Rattle.keys.specs.Keys.{end_of}
use Rattle.outline.proofs.ends.Goals as goal

pub loop-i-init : goal.loop-i-init
loop-i-init c = front_start c.args.out.now (map end_of c.args.items.now)

pub loop-i-preserved : goal.loop-i-preserved
unfolding end_of
loop-i-preserved c = let l = c.loop-i in
    front_turn _ _ _ l.i _ l.invariant (omega (arith, length-map c.args.items.now end_of)) (c.end_of.ensures ∙ sym (get_or-map end_of c.args.items.now l.i 0))

pub returns : goal.returns
returns c = let l = c.loop-i in front_end _ _ _ l.i l.invariant (omega (arith, length-map c.args.items.now end_of))
