use Rattle.std.proofs.Common.{◌≡◌, ℕ, ◌+◌, ◌-◌, ◌*◌, subst, length, arith}
use Rattle.std.proofs.lemmas.List.{length-map}
use Rattle.theory.specs.Items.{items16, item16}
use Rattle.theory.specs.Nodes.{begins_length, begins_one}
use Rattle.joining.specs.Push.{Pushed, push_turn}
use Rattle.terms.specs.Terms.{arity}
use Rattle.joining.proofs.merging.push.Goals as goal

pub skip-l-requires : goal.skip-l-requires
skip-l-requires c = let s = c.args in
    let ar = arity s.sig.now in
    let P = items16 s.pool.now in
    let len : length P ≡ length s.pool.now = length-map s.pool.now item16 in
    let v = c.loop-i in
    let h = v.invariant in
    let bl = begins_length ar P v.i v.l h.left h.ll in
    (begins_one ar P v.i v.l (omega arith) h.left, omega arith, c.requires.0)

pub skip-r-requires : goal.skip-r-requires
skip-r-requires c = let s = c.args in
    let ar = arity s.sig.now in
    let P = items16 s.pool.now in
    let len : length P ≡ length s.pool.now = length-map s.pool.now item16 in
    let v = c.loop-i in
    let h = v.invariant in
    let br = begins_length ar P v.i v.r h.right h.rl in
    (begins_one ar P v.i v.r (omega arith) h.right, omega arith, c.requires.0)

pub loop-i-preserved : goal.loop-i-preserved
loop-i-preserved c = let s = c.args in
    let ar = arity s.sig.now in
    let P = items16 s.pool.now in
    let len : length P ≡ length s.pool.now = length-map s.pool.now item16 in
    let v = c.loop-i in
    let h = v.invariant in
    let br = begins_length ar P v.i v.r h.right h.rl in
    let k : v.i ≡ v.i - 1 + 1 = omega arith in
    let h' = subst (λ (j : ℕ). Pushed ar P s.stack.now v.stack s.n s.a s.p s.q j v.l v.r) k h in
    let e = c.pair.result in
    let pe : e ≡ v.l * 64 + v.r = c.pair.ensures in
    push_turn ar P s.stack.now v.stack s.n s.a s.p s.q (v.i - 1) v.l v.r c.skip-l.result c.skip-r.result e h' (omega arith) (omega arith) (omega arith) (omega arith) c.skip-l.ensures.0 c.skip-r.ensures.0 (omega (arith, c.skip-l.ensures.1, len)) (omega (arith, c.skip-r.ensures.1, len))

pub returns : goal.returns
returns c = let s = c.args in
    let ar = arity s.sig.now in
    let P = items16 s.pool.now in
    let v = c.loop-i in
    let z : v.i ≡ 0 = omega arith in
    (v.l, v.r, subst (λ (j : ℕ). Pushed ar P s.stack.now v.stack s.n s.a s.p s.q j v.l v.r) z v.invariant)
