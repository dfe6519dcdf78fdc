use mathlib.Core.Path.{◌∙◌}
use native.Mathlib.Omega.{arith}
use Rattle.terms.proofs.TermLaws.{good, is_good}
use Rattle.theory.specs.CheckedItems.{fine_good}
use Rattle.unifiable.specs.CheckedTerms.{asked_good}
use Rattle.confirming.proofs.ConfirmLaws.{confirms_equal, confirms_none, confirms_variant, confirms_instance, confirms_general, confirms_unifiable}
use Rattle.confirming.proofs.stands.Goals as goal

pub returns-then-relation-eq0 : goal.returns-then-relation-eq0
returns-then-relation-eq0 c = let a = c.args in confirms_equal a.relation a.sig.now a.t.now a.q.now c.equal.result c.requires.0 c.requires.1 c.if-relation-eq0.true c.equal.ensures

pub returns-else-is_term : goal.returns-else-is_term
returns-else-is_term c = let a = c.args in c.if-is_term.false ∙ confirms_none a.relation a.sig.now a.t.now a.q.now c.is_term.result c.is_term.ensures c.if-is_term.false

pub variant-requires : goal.variant-requires
variant-requires c = let p = c.requires in
    let t = is_good _ _ _ c.is_term.ensures c.if-is_term.true in
    (fine_good _ _ p.0 (good _ _ p.1), fine_good _ _ p.0 t)

pub returns-in-1 : goal.returns-in-1
returns-in-1 c = let a = c.args in confirms_variant a.relation a.sig.now a.t.now a.q.now c.variant.result c.requires.0 c.requires.1 c.is_term.result c.is_term.ensures c.if-is_term.true c.in-1.is c.variant.ensures

pub instance-requires : goal.instance-requires
instance-requires c = let p = c.requires in
    let t = is_good _ _ _ c.is_term.ensures c.if-is_term.true in
    let f = fine_good _ _ p.0 (good _ _ p.1) in
    let g = fine_good _ _ p.0 t in
    assumption (f, g)

pub returns-in-2 : goal.returns-in-2
returns-in-2 c = let a = c.args in confirms_instance a.relation a.sig.now a.t.now a.q.now c.instance.result c.requires.0 c.requires.1 c.is_term.result c.is_term.ensures c.if-is_term.true c.in-2.is c.instance.ensures

pub instance-requires-in-3 : goal.instance-requires-in-3
instance-requires-in-3 c = let p = c.requires in
    let t = is_good _ _ _ c.is_term.ensures c.if-is_term.true in
    let f = fine_good _ _ p.0 (good _ _ p.1) in
    let g = fine_good _ _ p.0 t in
    assumption (f, g)

pub returns-in-3 : goal.returns-in-3
returns-in-3 c = let a = c.args in confirms_general a.relation a.sig.now a.t.now a.q.now c.instance-in-3.result c.requires.0 c.requires.1 c.is_term.result c.is_term.ensures c.if-is_term.true c.in-3.is c.instance-in-3.ensures

pub unifiable-requires : goal.unifiable-requires
unifiable-requires c = let p = c.requires in
    let t = is_good _ _ _ c.is_term.ensures c.if-is_term.true in
    asked_good _ _ _ p.0 t (good _ _ p.1)

pub returns-in_default : goal.returns-in_default
returns-in_default c = let a = c.args in confirms_unifiable a.relation a.sig.now a.t.now a.q.now c.unifiable.result c.requires.0 c.requires.1 c.is_term.result c.is_term.ensures c.if-is_term.true c.if-relation-eq0.false (λ z. omega arith) (λ z. omega arith) (λ z. omega arith) c.unifiable.ensures
