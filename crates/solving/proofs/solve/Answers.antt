use Rattle.std.proofs.Common.{sym, ◌∙◌}
use Rattle.std.specs.Prelude.{Ok, Err}
use Rattle.std.proofs.lemmas.Result.{err_from_is_err_and}
use Rattle.layout.proofs.LayoutLaws.{signature_good, in_use_small}
use Rattle.terms.specs.Terms.{Signed}
use Rattle.terms.proofs.TermLaws.{good, is_good}
use Rattle.unifiable.specs.CheckedTerms.{asked_good}
use Rattle.layout.specs.Tables.{held}
use Rattle.calls.proofs.Public.{ample_not, ample_is, lengths}
use Rattle.solving.proofs.SolveLaws.{solving_table, solving_slot, solving_question, solving_term, solving_solved, solved_none, solved_record}
use Rattle.solving.proofs.solve.Goals as goal

pub returns-then-not-long_enough : goal.returns-then-not-long_enough
returns-then-not-long_enough c = let a = c.args in let T = held a.bytes.now a.used.now a.label.now a.link.now a.s0.now a.s1.now a.s2.now a.s3.now in solving_table T a.slot a.q.now a.out.now (ample_not T c.long_enough.result c.long_enough.ensures c.if-not-long_enough.true)

pub in_use-requires : goal.in_use-requires
in_use-requires c = let L = lengths _ _ _ _ _ _ _ _ _ c.long_enough.ensures c.if-not-long_enough.false in
    L.used

pub returns-then-not-in_use : goal.returns-then-not-in_use
returns-then-not-in_use c = let a = c.args in let T = held a.bytes.now a.used.now a.label.now a.link.now a.s0.now a.s1.now a.s2.now a.s3.now in solving_slot T a.slot a.q.now a.out.now (ample_is T c.long_enough.result c.long_enough.ensures c.if-not-long_enough.false) (sym c.in_use.ensures ∙ c.if-not-in_use.true)

pub signature-sig-requires : goal.signature-sig-requires
signature-sig-requires c = let L = lengths _ _ _ _ _ _ _ _ _ c.long_enough.ensures c.if-not-long_enough.false in
    L.bytes

pub returns-in_err-check : goal.returns-in_err-check
returns-in_err-check c =
    let p = err_from_is_err_and c.from_residual.result c.from_residual.ensures.1 in
    let a = c.args in let T = held a.bytes.now a.used.now a.label.now a.link.now a.s0.now a.s1.now a.s2.now a.s3.now in rw (p.1, p.2) (solving_question T a.slot a.q.now a.out.now (ample_is T c.long_enough.result c.long_enough.ensures c.if-not-long_enough.false) (sym c.in_use.ensures ∙ c.if-not-in_use.false) c.signature-sig.result.now c.signature-sig.ensures _ c.in_err-check.ensures)

pub term-t-requires : goal.term-t-requires
term-t-requires c = let L = lengths _ _ _ _ _ _ _ _ _ c.long_enough.ensures c.if-not-long_enough.false in
    (L.bytes, in_use_small _ _ (sym c.in_use.ensures ∙ c.if-not-in_use.false))

pub returns-then-not-is_term : goal.returns-then-not-is_term
returns-then-not-is_term c = let a = c.args in let T = held a.bytes.now a.used.now a.label.now a.link.now a.s0.now a.s1.now a.s2.now a.s3.now in solving_term T a.slot a.q.now a.out.now (ample_is T c.long_enough.result c.long_enough.ensures c.if-not-long_enough.false) (sym c.in_use.ensures ∙ c.if-not-in_use.false) c.signature-sig.result.now c.signature-sig.ensures (sym c.in_ok-check.ensures) c.term-t.result.now c.term-t.ensures.0 c.is_term.result c.is_term.ensures (c.if-not-is_term.true)

pub record-requires : goal.record-requires
record-requires c = let g : Signed c.signature-sig.result.now = rw c.signature-sig.ensures (signature_good _) in
    asked_good _ _ _ g (is_good _ _ _ c.is_term.ensures (c.if-not-is_term.false)) (good _ _ (sym c.in_ok-check.ensures))

pub returns-in_err-written : goal.returns-in_err-written
returns-in_err-written c =
    let p = err_from_is_err_and c.from_residual-in_err-written.result c.from_residual-in_err-written.ensures.1 in
    let e = solved_none c.record.result _ c.in_err-written.ensures.cases in
    let a = c.args in let T = held a.bytes.now a.used.now a.label.now a.link.now a.s0.now a.s1.now a.s2.now a.s3.now in rw (p.1, p.2, e.2) (solving_solved T a.slot a.q.now a.out.now (ample_is T c.long_enough.result c.long_enough.ensures c.if-not-long_enough.false) (sym c.in_use.ensures ∙ c.if-not-in_use.false) c.signature-sig.result.now c.signature-sig.ensures (sym c.in_ok-check.ensures) c.term-t.result.now c.term-t.ensures.0 c.is_term.result c.is_term.ensures c.if-not-is_term.false _ c.record.result (Err e.0) e.1 c.record.ensures)

pub returns : goal.returns
returns c =
    let w = c.in_ok-written.written in
    let a = c.args in let T = held a.bytes.now a.used.now a.label.now a.link.now a.s0.now a.s1.now a.s2.now a.s3.now in solving_solved T a.slot a.q.now a.out.now (ample_is T c.long_enough.result c.long_enough.ensures c.if-not-long_enough.false) (sym c.in_use.ensures ∙ c.if-not-in_use.false) c.signature-sig.result.now c.signature-sig.ensures (sym c.in_ok-check.ensures) c.term-t.result.now c.term-t.ensures.0 c.is_term.result c.is_term.ensures c.if-not-is_term.false _ c.record.result (Ok w) (solved_record c.record.result w c.in_ok-written.ensures.cases (λ e z. z)) c.record.ensures
