use Prim.Native.Nat.{◌-◌, ◌+◌}
use mathlib.Core.Path.{◌≡◌}
use native.Mathlib.Omega.{arith}
use Rattle.candidates.proofs.CandidateLaws.{ends_turn, ended_turn}
use Rattle.candidates.proofs.find_ends.Goals as goal

pub loop-i-init : goal.loop-i-init
loop-i-init c = ((λ j a b. absurd (omega arith)), (λ j a b. absurd (omega arith)))

pub end_after-requires : goal.end_after-requires
end_after-requires c = let l = c.loop-i in
    let e : l.i - 1 + 1 ≡ l.i = omega arith in
    (omega arith, omega arith, rw e l.invariant.0, rw e l.invariant.1)

pub loop-i-preserved : goal.loop-i-preserved
loop-i-preserved c = let l = c.loop-i in
    let e : l.i - 1 + 1 ≡ l.i = omega arith in
    let r = c.end_after.ensures in (
      ends_turn l.ends _ (l.i - 1) _ (omega arith) (rw e l.invariant.0) r.0 r.1,
      ended_turn _ _ l.ends (l.i - 1) _ (omega arith) (rw e l.invariant.1) r.2,
    )

pub returns : goal.returns
returns c = let l = c.loop-i in let e : l.i ≡ 0 = omega arith in (rw e at l.invariant.0, rw e at l.invariant.1)
