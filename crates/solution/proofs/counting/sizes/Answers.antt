use Rattle.std.proofs.Common.{ap, arith, replicate, get_or, ℕ, ◌≡◌, List}
use Rattle.std.proofs.lemmas.Bool.Decides.{Decides-eqb}
use Rattle.std.proofs.lemmas.Slice.Eq.{slice_eq-Decides}
use Rattle.solution.specs.Values.{sizes_start, sizes_step, sizes_last}
use Rattle.solution.proofs.SolutionLaws.{ones_at}
use Rattle.solution.proofs.counting.sizes.Goals as goal

pub loop-init : goal.loop-init
loop-init c = sizes_start c.args.sig.now c.args.pool.now c.args.tab.now (replicate 64 1) (ones_at 64)

pub returns-then-eq : goal.returns-then-eq
returns-then-eq c = let a = c.args in
    let same : c.round-new.result ≡ c.loop.old = (slice_eq-Decides Decides-eqb _ _ _ c.eq.ensures).0 c.if-eq.true in
    sizes_last a.sig.now a.pool.now a.tab.now c.requires.0 c.loop.counter c.loop.old c.round-new.result (omega (arith, c.loop-test.true)) c.loop.invariant c.round-new.ensures (λ y b. ap (λ (l : List ℕ). get_or l y 0) same)

pub loop-preserved : goal.loop-preserved
loop-preserved c = let a = c.args in
    sizes_step a.sig.now a.pool.now a.tab.now c.requires.0 c.loop.counter c.loop.old c.round-new.result c.loop.invariant c.round-new.ensures
