use Rattle.std.proofs.Common.{sym, arith}
use Rattle.std.proofs.lemmas.Result.{err_from_is_err_and}
use Rattle.layout.proofs.LayoutLaws.{signature_good}
use Rattle.terms.proofs.TermLaws.{good}
use Rattle.layout.specs.Tables.{held}
use Rattle.calls.proofs.Public.{ample_not, ample_is, lengths}
use Rattle.retrieve.proofs.RetrieveLaws.{retrieving_table, retrieving_relation, retrieving_question, retrieving_room, retrieving_done}
use Rattle.retrieve.proofs.retrieve.Goals as goal

pub returns-then-not-long_enough : goal.returns-then-not-long_enough
returns-then-not-long_enough c = let a = c.args in let T = held a.bytes.now a.used.now a.label.now a.link.now a.s0.now a.s1.now a.s2.now a.s3.now in retrieving_table T a.relation a.q.now a.out.now (ample_not T c.long_enough.result c.long_enough.ensures c.if-not-long_enough.true)

pub returns-then-relation-gt4 : goal.returns-then-relation-gt4
returns-then-relation-gt4 c = let a = c.args in let T = held a.bytes.now a.used.now a.label.now a.link.now a.s0.now a.s1.now a.s2.now a.s3.now in retrieving_relation T a.relation a.q.now a.out.now (ample_is T c.long_enough.result c.long_enough.ensures c.if-not-long_enough.false) c.if-relation-gt4.true

pub signature-sig-requires : goal.signature-sig-requires
signature-sig-requires c = let L = lengths _ _ _ _ _ _ _ _ _ c.long_enough.ensures c.if-not-long_enough.false in
    L.bytes

pub returns-in_err-check : goal.returns-in_err-check
returns-in_err-check c =
    let p = err_from_is_err_and c.from_residual.result c.from_residual.ensures.1 in
    let a = c.args in let T = held a.bytes.now a.used.now a.label.now a.link.now a.s0.now a.s1.now a.s2.now a.s3.now in rw (p.1, p.2) (retrieving_question T a.relation a.q.now a.out.now (ample_is T c.long_enough.result c.long_enough.ensures c.if-not-long_enough.false) (omega (arith, c.if-relation-gt4.false)) c.signature-sig.result.now c.signature-sig.ensures _ c.in_err-check.ensures)

pub slots_used-set-requires : goal.slots_used-set-requires
slots_used-set-requires c = let L = lengths _ _ _ _ _ _ _ _ _ c.long_enough.ensures c.if-not-long_enough.false in
    L.used

pub candidates-candidates-requires : goal.candidates-candidates-requires
candidates-candidates-requires c = let L = lengths _ _ _ _ _ _ _ _ _ c.long_enough.ensures c.if-not-long_enough.false in
    let t = good _ _ (sym c.in_ok-check.ensures) in
    (record { links = L.links; labels = L.labels; l0 = L.l0; l1 = L.l1; l2 = L.l2; l3 = L.l3 }, t.long, t.short)

pub confirmed-answers-requires : goal.confirmed-answers-requires
confirmed-answers-requires c = let L = lengths _ _ _ _ _ _ _ _ _ c.long_enough.ensures c.if-not-long_enough.false in
    (L.bytes, rw c.signature-sig.ensures (signature_good _), sym c.in_ok-check.ensures)

pub overflow_mul-n : goal.overflow_mul-n
overflow_mul-n c = omega (arith, c.list-n.ensures.1)

pub returns-then-out-n : goal.returns-then-out-n
returns-then-out-n c = let a = c.args in let T = held a.bytes.now a.used.now a.label.now a.link.now a.s0.now a.s1.now a.s2.now a.s3.now in retrieving_room T a.relation a.q.now a.out.now (ample_is T c.long_enough.result c.long_enough.ensures c.if-not-long_enough.false) (omega (arith, c.if-relation-gt4.false)) c.signature-sig.result.now c.signature-sig.ensures (sym c.in_ok-check.ensures) c.candidates-candidates.result.words c.slots_used-set.result.words c.confirmed-answers.result.words c.slots_used-set.ensures c.candidates-candidates.ensures c.confirmed-answers.ensures c.list-n.result _ c.list-n.ensures.0 (omega (arith, c.if-out-n.true)) c.list-n.ensures.2

pub returns : goal.returns
returns c = let a = c.args in let T = held a.bytes.now a.used.now a.label.now a.link.now a.s0.now a.s1.now a.s2.now a.s3.now in retrieving_done T a.relation a.q.now a.out.now (ample_is T c.long_enough.result c.long_enough.ensures c.if-not-long_enough.false) (omega (arith, c.if-relation-gt4.false)) c.signature-sig.result.now c.signature-sig.ensures (sym c.in_ok-check.ensures) c.candidates-candidates.result.words c.slots_used-set.result.words c.confirmed-answers.result.words c.slots_used-set.ensures c.candidates-candidates.ensures c.confirmed-answers.ensures c.size.result c.list-n.result _ c.size.ensures.0 c.list-n.ensures.0 (omega (arith, c.if-out-n.false)) c.list-n.ensures.2
