use Prim.Native.Nat.{ℕ, ◌+◌}
use mathlib.Core.Path.{◌≡◌, ap, ◌∙◌, subst}
use native.Mathlib.Omega.{arith}
use lib.ListN.{get_or}
use Rattle.theory.specs.Items.{items16}
use Rattle.theory.specs.ItemWalk.{extra_sym}
use Rattle.joining.specs.Push.{Pushed}
use Rattle.joining.specs.Arms.{args_begin}
use Rattle.terms.specs.Terms.{arity}
use Rattle.joining.proofs.merging.merge.Goals as goal

pub push-requires : goal.push-requires
push-requires c = let a = c.args in
    let s = c.requires in
    let G = s.0 in
    let k : c.opens-k.result ≡ get_or a.sig.now (get_or a.pool.now a.p 0) 0 = c.opens-k.ensures.0 ∙ extra_sym a.sig.now (get_or a.pool.now a.p 0) c.requires.4 in
    (G.short, omega (arith, k, G.arities (get_or a.pool.now a.p 0), s.1), omega (arith, s.2), omega (arith, s.3), rw k (args_begin a.sig.now a.pool.now G a.p s.2 s.4), rw (k, s.5) (args_begin a.sig.now a.pool.now G a.r s.3 (omega (arith, s.4, s.5))))

pub invariant_of-pending : goal.invariant_of-pending
invariant_of-pending c = let a = c.args in
    let k = extra_sym a.sig.now (get_or a.pool.now a.p 0) c.requires.4 in
    omega (arith, c.requires.0.arities (get_or a.pool.now a.p 0))

pub returns-then-a-b : goal.returns-then-a-b
returns-then-a-b c = let a = c.args in
    let k : c.opens-k.result ≡ get_or a.sig.now (get_or a.pool.now a.p 0) 0 = c.opens-k.ensures.0 ∙ extra_sym a.sig.now (get_or a.pool.now a.p 0) c.requires.4 in
    let h = c.push.ensures in
    record { skip = λ e. absurd (c.if-a-b.true e); join = λ d. (ap (λ (m : ℕ). a.pending.now.count + m) k, c.relabel.ensures, (h.0, h.1, subst (λ (m : ℕ). Pushed (arity a.sig.now) (items16 a.pool.now) a.pending.now.pairs c.push.new.stack a.pending.now.count m (a.p + 1) (a.r + 1) 0 h.0 h.1) k h.2)) }
