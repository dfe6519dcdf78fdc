use mathlib.Core.Path.{◌≡◌, sym, ◌∙◌}
use Prim.Native.Nat.{◌-◌}
use native.Mathlib.Omega.{arith}
use native.Mathlib.Nat.{add-sub_cancel_left}
use lib.ListN.{length, take, drop, length-drop}
use borrow.Author.Tests.{eq-eqb, ne_eqb}
use Rattle.terms.specs.Terms.{arg_bytes, arg_start, arg_refusal}
use Rattle.terms.proofs.TermLaws.{arg_none, arg_in, args_within, none_long, ended}
use Rattle.laws.proofs.Lists.{tail_part}
use Rattle.refusals.specs.Numbers.{err_refused, ok_taken}
use Rattle.arguments.proofs.argument.Goals as goal

pub returns-then-is_err : goal.returns-then-is_err
unfolding arg_bytes arg_start
returns-then-is_err c = let e = err_refused _ _ c.check_argument.ensures (sym c.is_err.ensures.value ∙ c.if-is_err.true) in
    (rw (ne_eqb (arg_refusal _ _ _) 0 e) (none_long _ (omega arith)), rw (ne_eqb (arg_refusal _ _ _) 0 e))

pub overflow_sub-i : goal.overflow_sub-i
overflow_sub-i c = (arg_none _ _ _ (ok_taken _ _ c.check_argument.ensures (sym c.is_err.ensures.value ∙ c.if-is_err.false))).1

pub arg_at-from-requires : goal.arg_at-from-requires
arg_at-from-requires c = let a = c.args in
    let g = arg_none a.sig.now a.t.now a.i (ok_taken _ _ c.check_argument.ensures (sym c.is_err.ensures.value ∙ c.if-is_err.false)) in
    record { t_len_bound = g.0.short; k_in_bounds = args_within a.sig.now a.t.now (a.i - 1) g.0 (omega (arith, g.1, g.2)) }

pub slice_bounds-walk-count : goal.slice_bounds-walk-count
slice_bounds-walk-count c = let a = c.args in
    let g = arg_none a.sig.now a.t.now a.i (ok_taken _ _ c.check_argument.ensures (sym c.is_err.ensures.value ∙ c.if-is_err.false)) in
    omega (arith, c.arg_at-from.ensures, args_within a.sig.now a.t.now (a.i - 1) g.0 (omega (arith, g.1, g.2)))

pub slice_bounds-walk-start : goal.slice_bounds-walk-start
slice_bounds-walk-start c = slice_bounds-walk-count c

pub walk-requires : goal.walk-requires
walk-requires c = let a = c.args in
    let g = arg_none a.sig.now a.t.now a.i (ok_taken _ _ c.check_argument.ensures (sym c.is_err.ensures.value ∙ c.if-is_err.false)) in
    rw tail_part (omega (arith, g.0.short, length-drop c.arg_at-from.result a.t.now))

pub unwrap-requires : goal.unwrap-requires
unwrap-requires c = let m = arg_in _ _ _ _ _ (ok_taken _ _ c.check_argument.ensures (sym c.is_err.ensures.value ∙ c.if-is_err.false)) c.arg_at-from.ensures c.walk.ensures.bytes in
    let t = c.args.t.now in
    let f = c.arg_at-from.result in
    let q : length (take (length t - f) (drop f t)) ≡ length t - f = rw tail_part (length-drop f t) in
    ended c.walk.result (length (take (length t - f) (drop f t))) (omega (arith, m.0, q))

pub slice_bounds-result-end-2 : goal.slice_bounds-result-end-2
slice_bounds-result-end-2 c = let e = rw c.unwrap.ensures at c.walk.ensures.bytes in
    omega (arith, (arg_in _ _ _ _ _ (ok_taken _ _ c.check_argument.ensures (sym c.is_err.ensures.value ∙ c.if-is_err.false)) c.arg_at-from.ensures e).0)

pub returns : goal.returns
unfolding arg_bytes arg_start
returns c = let r = ok_taken _ _ c.check_argument.ensures (sym c.is_err.ensures.value ∙ c.if-is_err.false) in
    let e = rw c.unwrap.ensures at c.walk.ensures.bytes in
    let g = arg_in _ _ _ _ _ r c.arg_at-from.ensures e in
    (rw (eq-eqb _ _ r, ← c.arg_at-from.ensures, add-sub_cancel_left, ← g.1), rw (eq-eqb _ _ r, ← c.arg_at-from.ensures))
