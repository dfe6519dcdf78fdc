use lib.ListN.{length, get_or}
use Prim.Native.Nat.{ℕ, ◌/◌, ◌<◌}
use mathlib.Core.Path.{◌≡◌, sym, ap, ◌∙◌}
use native.Mathlib.Omega.{arith}
use Rattle.theory.specs.Items.{items, codes, codes_at, length_codes, length_items}
use Rattle.theory.specs.Nodes.{begins_at}
use Rattle.theory.specs.ItemWalk.{extra, extra_arity, walk_start, walk_low, walk_turn, walk_end}
use Rattle.terms.specs.Terms.{arity}
use Rattle.matching.proofs.end_of.Goals as goal

pub loop-opened-init : goal.loop-opened-init
loop-opened-init c = let a = c.args in
    let t = a.t.now in (
      walk_start a.sig.now (codes 0 t) a.j
          (begins_at (arity a.sig.now) (items t) 1 a.j c.requires.0.term (omega (arith, c.requires.1, length_items t))) (omega (arith, c.requires.1, length_codes 0 t)),
      omega arith,
    )

pub overflow_mul-i : goal.overflow_mul-i
overflow_mul-i c = omega (arith, walk_low c.args.sig.now (codes 0 c.args.t.now) c.args.j c.loop-opened.opened c.loop-opened.i c.loop-opened.invariant.0, length_codes 0 c.args.t.now, c.loop-opened-test.true)

pub number_at-c-requires : goal.number_at-c-requires
number_at-c-requires c = omega (arith, walk_low c.args.sig.now (codes 0 c.args.t.now) c.args.j c.loop-opened.opened c.loop-opened.i c.loop-opened.invariant.0, length_codes 0 c.args.t.now, c.loop-opened-test.true)

pub overflow_add-opened : goal.overflow_add-opened
overflow_add-opened c = omega (arith, walk_low c.args.sig.now (codes 0 c.args.t.now) c.args.j c.loop-opened.opened c.loop-opened.i c.loop-opened.invariant.0, length_codes 0 c.args.t.now, c.loop-opened-test.true, c.arity.ensures.1, c.requires.0.short)

pub overflow_add-i : goal.overflow_add-i
overflow_add-i c = omega (arith, walk_low c.args.sig.now (codes 0 c.args.t.now) c.args.j c.loop-opened.opened c.loop-opened.i c.loop-opened.invariant.0, length_codes 0 c.args.t.now, c.loop-opened-test.true)

pub loop-opened-smaller : goal.loop-opened-smaller
loop-opened-smaller c = omega (arith, walk_low c.args.sig.now (codes 0 c.args.t.now) c.args.j c.loop-opened.opened c.loop-opened.i c.loop-opened.invariant.0, length_codes 0 c.args.t.now, c.loop-opened-test.true, length_codes 0 c.args.t.now)

pub loop-opened-preserved : goal.loop-opened-preserved
loop-opened-preserved c = let a = c.args in
    let sig = a.sig.now in
    let t = a.t.now in
    let l = c.loop-opened in
    let b : l.i < length t / 2 = omega (arith, walk_low c.args.sig.now (codes 0 c.args.t.now) c.args.j c.loop-opened.opened c.loop-opened.i c.loop-opened.invariant.0, length_codes 0 c.args.t.now, c.loop-opened-test.true) in
    let e : c.arity.result ≡ extra sig (get_or (codes 0 t) l.i 0)
    = c.arity.ensures.0 ∙ ap (λ (k : ℕ). arity sig k) (c.number_at-c.ensures.0 ∙ sym (codes_at t l.i b)) ∙ sym (extra_arity sig c.requires.0.sized (get_or (codes 0 t) l.i 0)) in
    (rw e (walk_turn sig (codes 0 t) a.j l.opened l.i l.invariant.0 c.loop-opened-test.true), omega (arith, l.invariant.1, c.loop-opened-test.true))

pub returns : goal.returns
returns c = let a = c.args in
    let l = c.loop-opened in
    record {
      next = walk_end a.sig.now (codes 0 a.t.now) a.j l.opened l.i c.loop-opened-test.false l.invariant.0;
      ahead = omega (arith, l.invariant.1, c.loop-opened-test.false);
      low = omega (arith, walk_low c.args.sig.now (codes 0 c.args.t.now) c.args.j c.loop-opened.opened c.loop-opened.i c.loop-opened.invariant.0, length_codes 0 c.args.t.now);
    }
