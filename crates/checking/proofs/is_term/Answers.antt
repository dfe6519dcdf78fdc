use Rattle.std.proofs.Common.{◌≡◌, ◌+◌, ◌*◌, arith}
use Rattle.terms.proofs.TermLaws.{untaken, odd_out, passing_start, passing_turn, passing_closed, passing_end}
use Rattle.checking.proofs.is_term.Goals.{then-t-gt64-via-then-t-gt64, then-t-gt64-via-else-t-gt64+then-t-eq1}
use Rattle.checking.proofs.is_term.Goals as goal

pub returns-then-t-gt64 : goal.returns-then-t-gt64
returns-then-t-gt64 c = elim c.then-t-gt64.branch [
  | then-t-gt64-via-then-t-gt64 w ↦ untaken _ _ (λ g. omega (arith, g.short, w.if-t-gt64.true))
  | then-t-gt64-via-else-t-gt64+then-t-eq1 w ↦ odd_out _ _ w.if-t-eq1.true
]

pub loop-i-init : goal.loop-i-init
loop-i-init c = passing_start _ _

pub returns-then-opened-eq0 : goal.returns-then-opened-eq0
returns-then-opened-eq0 c = let l = c.loop-i in
    untaken _ _ (passing_closed _ _ (2 * l.i) (rw c.if-opened-eq0.true at l.invariant) (omega (arith, c.loop-i-test.true)) (omega arith))

pub loop-i-preserved : goal.loop-i-preserved
loop-i-preserved c = let l = c.loop-i in
    let e : 2 * (l.i + 1) ≡ 2 * l.i + 2 = omega arith in
    rw e (passing_turn _ _ (2 * l.i) l.opened _ _ l.invariant (omega (arith, c.loop-i-test.true)) c.if-opened-eq0.false c.number_at.ensures.0 c.brings.ensures.1 c.brings.ensures.0)

pub returns : goal.returns
returns c = let l = c.loop-i in passing_end _ _ (2 * l.i) l.opened l.invariant (omega arith) (omega arith) c.if-t-eq1.false
