use Rattle.terms.specs.Terms.{declared as is_declared}
use mathlib.Core.Bool.{true, false}
use Prim.Native.Nat.{◌*◌}
use lib.ListN.{length-drop}
use Prim.Native.Nat.{◌≤◌, ◌+◌}
use mathlib.Core.Path.{◌≡◌, sym, ◌∙◌}
use native.Mathlib.Omega.{arith}
use lib.ListN.{length, get_or}
use Rattle.terms.proofs.TermLaws.{items_step, items_short}
use Rattle.laws.proofs.Lists.{tail_part}
use Rattle.checking.proofs.items_good.Goals as goal

pub returns-then-not-declared : goal.returns-then-not-declared
returns-then-not-declared c = let l = c.loop-rest in
    let n = c.args.n in
    let h : 2 ≤ length l.rest.now = omega arith in
    let d : is_declared n (get_or l.rest.now 0 0 * 256 + get_or l.rest.now 1 0) ≡ false = rw (← c.number_at.ensures.0) (sym c.declared.ensures ∙ c.if-not-declared.true) in
    sym (l.invariant ∙ (rw d at (items_step n l.rest.now h)))

pub loop-rest-smaller : goal.loop-rest-smaller
loop-rest-smaller c = let l = c.loop-rest in
    rw tail_part (omega (arith, length-drop 2 l.rest.now))

pub loop-rest-preserved : goal.loop-rest-preserved
loop-rest-preserved c = let l = c.loop-rest in
    let n = c.args.n in
    let h : 2 ≤ length l.rest.now = omega arith in
    let d : is_declared n (get_or l.rest.now 0 0 * 256 + get_or l.rest.now 1 0) ≡ true = rw (← c.number_at.ensures.0) (sym c.declared.ensures ∙ c.if-not-declared.false) in
    rw tail_part (l.invariant ∙ (rw d at (items_step n l.rest.now h)))

pub returns : goal.returns
returns c = sym (c.loop-rest.invariant ∙ items_short _ _ c.loop-rest-test.false)
