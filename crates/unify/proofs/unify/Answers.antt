use Rattle.std.proofs.Common.{◌≡◌, refl, ℕ, ◌+◌, List, arith, rules}
use Rattle.joining.specs.Run.{UnifierState, run_start, run_end, run_same, run_clash, run_occurs, run_bind}
use Rattle.joining.specs.Arms.{run_merged, merged_falls}
use Rattle.joining.proofs.LoopLaws.{zeros_at}
use Rattle.unify.proofs.unify.Goals as goal

-- the state with the pair that was taken off still pending
top : {sig pool : List ℕ} {root : ℕ} {pairs pairs' : List ℕ} {n : ℕ} (n' : ℕ) {tab masks cls : List ℕ} → pairs' ≡ pairs → n ≡ n' + 1 → UnifierState sig pool root pairs n tab masks cls → UnifierState sig pool root pairs' (n' + 1) tab masks cls
top n' e k v = rw (e, ← k) v

pub loop-left-init : goal.loop-left-init
loop-left-init c = let a = c.args in
    let o = c.one-pending.ensures in
    rw o.2 (run_start a.sig.now a.pool.now c.requires.0 a.root c.one-pending.result.pairs _ c.own_sets-masks.result c.own_classes-cls.result o.0 c.requires.1 (omega (arith, o.1)) (zeros_at 64) refl (search rules) c.own_sets-masks.ensures (search rules) c.own_classes-cls.ensures)

pub loop-left-preserved-in-Same : goal.loop-left-preserved-in-Same
loop-left-preserved-in-Same c = let a = c.args in
    let l = c.loop-left in
    let h = c.in-Some.ensures in
    let v = top c.pop.new.self.count h.0 h.1.0 l.invariant in
    let left = rw h.1.1 at c.deref-p.ensures in
    let right = rw h.1.2 at c.deref-r.ensures in
    run_same a.sig.now a.pool.now c.requires.0 a.root c.pop.new.self.pairs c.pop.new.self.count l.tab l.masks l.cls v c.deref-p.result c.deref-r.result left right (c.in-Same.ensures a.sig.now)

pub returns-in-Clash : goal.returns-in-Clash
returns-in-Clash c = let a = c.args in
    let l = c.loop-left in
    let h = c.in-Some.ensures in
    let v = top c.pop.new.self.count h.0 h.1.0 l.invariant in
    let left = rw h.1.1 at c.deref-p.ensures in
    let right = rw h.1.2 at c.deref-r.ensures in
    let q = c.in-Clash.ensures in
    ((λ e. absurd (omega arith)), λ d. run_clash a.sig.now a.pool.now c.requires.0 a.root c.pop.new.self.pairs c.pop.new.self.count l.tab l.masks l.cls v c.deref-p.result c.deref-r.result left right q.0 q.1 q.2)

pub returns-then-not-bind : goal.returns-then-not-bind
returns-then-not-bind c = let a = c.args in
    let l = c.loop-left in
    let h = c.in-Some.ensures in
    let v = top c.pop.new.self.count h.0 h.1.0 l.invariant in
    let left = rw h.1.1 at c.deref-p.ensures in
    let right = rw h.1.2 at c.deref-r.ensures in
    let q = c.in-Bind.ensures in
    ((λ e. absurd (omega arith)), λ d. run_occurs a.sig.now a.pool.now c.requires.0 a.root c.pop.new.self.pairs c.pop.new.self.count l.tab l.masks l.cls v c.deref-p.result c.deref-r.result left right c.in-Bind.x.0 c.in-Bind.u q.0 q.1 q.2 q.3 (c.bind.ensures.circle c.if-not-bind.true))

pub loop-left-preserved-else-not-bind : goal.loop-left-preserved-else-not-bind
loop-left-preserved-else-not-bind c = let a = c.args in
    let l = c.loop-left in
    let h = c.in-Some.ensures in
    let v = top c.pop.new.self.count h.0 h.1.0 l.invariant in
    let left = rw h.1.1 at c.deref-p.ensures in
    let right = rw h.1.2 at c.deref-r.ensures in
    let q = c.in-Bind.ensures in
    let b = c.bind.ensures.free c.if-not-bind.false in
    rw (b.1, b.2) (run_bind a.sig.now a.pool.now c.requires.0 a.root c.pop.new.self.pairs c.pop.new.self.count l.tab l.masks l.cls v c.deref-p.result c.deref-r.result left right c.in-Bind.x.0 c.in-Bind.u q.0 q.1 q.2 q.3 b.0)

pub loop-left-smaller : goal.loop-left-smaller
loop-left-smaller c = let a = c.args in
    let l = c.loop-left in
    let h = c.in-Some.ensures in
    let v = top c.pop.new.self.count h.0 h.1.0 l.invariant in
    let left = rw h.1.1 at c.deref-p.ensures in
    let right = rw h.1.2 at c.deref-r.ensures in
    let q = c.in-Merge.ensures in
    omega (arith, merged_falls a.sig.now a.pool.now c.requires.0 a.root c.pop.new.self.pairs c.pop.new.self.count l.tab l.masks l.cls v c.deref-p.result c.deref-r.result left right q.0 q.1 _ _ c.merge.new.pending.count c.merge.ensures)

pub loop-left-preserved : goal.loop-left-preserved
loop-left-preserved c = let a = c.args in
    let l = c.loop-left in
    let h = c.in-Some.ensures in
    let v = top c.pop.new.self.count h.0 h.1.0 l.invariant in
    let left = rw h.1.1 at c.deref-p.ensures in
    let right = rw h.1.2 at c.deref-r.ensures in
    let q = c.in-Merge.ensures in
    run_merged a.sig.now a.pool.now c.requires.0 a.root c.pop.new.self.pairs c.pop.new.self.count l.tab l.masks l.cls v c.deref-p.result c.deref-r.result left right q.0 q.1 _ _ c.merge.new.pending.count c.merge.ensures

pub returns : goal.returns
returns c = let a = c.args in
    let l = c.loop-left in
    let z : l.pending.count ≡ 0 = c.in_default.ensures.1.0 in
    ((λ e. run_end a.sig.now a.pool.now c.requires.0 a.root l.pending.pairs l.tab l.masks l.cls (rw z at l.invariant)), λ d. absurd (d refl))
