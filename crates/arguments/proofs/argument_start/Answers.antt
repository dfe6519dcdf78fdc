use Rattle.std.proofs.Common.{◌-◌, ◌∙◌, sym, arith, ne_eqb, eq-eqb}
use Rattle.refusals.specs.Numbers.{err_refused, ok_taken}
use Rattle.terms.specs.Terms.{arg_refusal, arg_start}
use Rattle.terms.proofs.TermLaws.{arg_none, args_within}
use Rattle.arguments.proofs.argument_start.Goals as goal

pub returns-then-is_err : goal.returns-then-is_err
unfolding arg_start
returns-then-is_err c = rw (ne_eqb (arg_refusal _ _ _) 0 (err_refused _ _ c.check_argument.ensures (sym c.is_err.ensures.value ∙ c.if-is_err.true)))

pub overflow_sub-i : goal.overflow_sub-i
overflow_sub-i c = (arg_none _ _ _ (ok_taken _ _ c.check_argument.ensures (sym c.is_err.ensures.value ∙ c.if-is_err.false))).1

pub arg_at-requires : goal.arg_at-requires
arg_at-requires c = let a = c.args in
    let g = arg_none a.sig.now a.t.now a.i (ok_taken _ _ c.check_argument.ensures (sym c.is_err.ensures.value ∙ c.if-is_err.false)) in
    record { t_len_bound = g.0.short; k_in_bounds = args_within a.sig.now a.t.now (a.i - 1) g.0 (omega (arith, g.1, g.2)) }

pub returns : goal.returns
unfolding arg_start
returns c = rw (eq-eqb _ _ (ok_taken _ _ c.check_argument.ensures (sym c.is_err.ensures.value ∙ c.if-is_err.false))) c.arg_at.ensures
