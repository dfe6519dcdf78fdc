use Prim.Native.Nat.{◌+◌, ◌-◌}
use mathlib.Core.Path.{sym, ◌∙◌}
use native.Mathlib.Omega.{arith}
use Rattle.candidates.specs.Forests.{forest_end}
use Rattle.candidates.proofs.CandidateLaws.{after_start, after_turn, after_done}
use Rattle.candidates.proofs.end_after.Goals as goal

pub loop-init : goal.loop-init
loop-init c = (omega arith, omega arith, after_start c.args.sig.now c.args.items.now c.args.i _ (omega arith) (omega arith))

pub returns-then-items-e : goal.returns-then-items-e
returns-then-items-e c = (omega arith, omega arith, sym (forest_end c.args.sig.now c.args.items.now c.loop.e (c.arity-end.result - c.loop.counter) (omega arith)) ∙ c.loop.invariant.2)

pub loop-preserved : goal.loop-preserved
loop-preserved c = let l = c.loop in
    let h = c.requires.2 l.e (omega arith) (omega arith) in (
      omega (arith, h.0),
      h.1,
      after_turn c.args.sig.now c.args.items.now c.args.ends.now (c.args.i + 1) (c.arity-end.result - l.counter) (c.arity-end.result - (l.counter + 1)) l.e _ (omega arith) (omega arith) (omega arith) c.requires.3 l.invariant.2,
    )

pub returns : goal.returns
returns c = (omega arith, omega arith, after_done c.args.sig.now c.args.items.now (c.arity-end.result - c.loop.counter) c.loop.e _ (omega arith) c.loop.invariant.2)
