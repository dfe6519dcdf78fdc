use mathlib.Core.Path.{◌∙◌}
use native.Mathlib.Omega.{arith}
use Rattle.termkeys.specs.Fill.{tables}
use Rattle.termkeys.proofs.TermKeyLaws.{key_found, key_added, free_number, entered_found, entered_added}
use Rattle.termkeys.proofs.enter.Goals as goal

pub returns-in-Some-clause-value : goal.returns-in-Some-clause-value
returns-in-Some-clause-value c = let a = c.args in
    let f = c.in-Some.ensures in
    (key_found (tables a.link.now a.label.now a.s0.now a.s1.now a.s2.now a.s3.now) _ _ f.found f.below, f.below)

pub returns-in-Some-clause-s3_after : goal.returns-in-Some-clause-s3_after
returns-in-Some-clause-s3_after c = let a = c.args in
    let f = c.in-Some.ensures in
    entered_found a.link.now a.label.now a.s0.now a.s1.now a.s2.now a.s3.now _ _ _ _ _ _ _ 0 f.found f.below c.mark.ensures

pub returns-clause-value : goal.returns-clause-value
returns-clause-value c = let a = c.args in
    let g = free_number _ _ c.find-2.ensures.found c.find-2.ensures.below in
    (key_added (tables a.link.now a.label.now a.s0.now a.s1.now a.s2.now a.s3.now) _ _ c.in_default.ensures.found (c.unwrap_or-k.ensures ∙ g), omega (arith, g, c.unwrap_or-k.ensures))

pub returns-clause-s3_after : goal.returns-clause-s3_after
returns-clause-s3_after c = let a = c.args in
    let g = c.unwrap_or-k.ensures ∙ free_number _ _ c.find-2.ensures.found c.find-2.ensures.below in
    let r = c.relabel.ensures in
    entered_added a.link.now a.label.now a.s0.now a.s1.now a.s2.now a.s3.now _ _ _ _ _ _ 0 _ _ _ c.in_default.ensures.found g r.0 r.1 c.mark-2.ensures
