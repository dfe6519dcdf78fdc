use Rattle.std.proofs.Common.{rules, arith, ◌≡◌, length, sym, ap, ◌∙◌, refl}
use Rattle.keysets.specs.Tables.{sets_of}
use Rattle.chains.specs.Chains.{find}
use Rattle.paths.specs.Locate.{find_le}
use Rattle.candidates.specs.None.{walk_empty}
use Rattle.candidates.proofs.CandidateLaws.{having_is, walk_open, walk_star, walk_plain, walk_stars, kids_start, kids_again, kids_all}
use Rattle.candidates.proofs.+narrow.Goals as goal

pub returns-then-is_empty : goal.returns-then-is_empty
returns-then-is_empty t c = let a = c.args in
    let w : length a.within.words ≡ 8 = search rules in
    λ sig d. walk_empty a.tables.now.link.now a.tables.now.label.now (sets_of a.tables.now.sets) a.rule.open a.rule.stars _ a.place a.within.words w (sym c.is_empty.ensures ∙ c.if-is_empty.true)

pub returns-then-rule : goal.returns-then-rule
returns-then-rule t c = let a = c.args in
    λ sig d. walk_open a.tables.now.link.now a.tables.now.label.now (sets_of a.tables.now.sets) a.rule.open a.rule.stars sig a.items.now a.at a.place a.within.words c.requires.at_in_bounds.0 c.if-x-ge-VARIABLE16.true c.if-rule.true

pub returns-then-x-ge-VARIABLE16 : goal.returns-then-x-ge-VARIABLE16
returns-then-x-ge-VARIABLE16 t c = let a = c.args in
    λ sig d. walk_star a.tables.now.link.now a.tables.now.label.now (sets_of a.tables.now.sets) a.rule.open a.rule.stars sig a.items.now a.at a.place a.within.words c.requires.at_in_bounds.0 _ c.if-x-ge-VARIABLE16.true c.if-rule.false c.star_at.ensures

pub loop-child-init : goal.loop-child-init
loop-child-init t c = let a = c.args in
    let p = c.requires.at_in_bounds in
    let h = find_le a.tables.now.link.now a.tables.now.label.now c.label_of.result in
    let e = p.3 a.at (omega arith) p.0 in (
      omega arith,
      omega (arith, h),
      e.1,
      kids_start a.tables.now.link.now a.tables.now.label.now (sets_of a.tables.now.sets) a.rule.open a.rule.stars a.items.now a.ends.now a.at _ _ _ p.0 refl,
    )

pub loop-child-preserved : goal.loop-child-preserved
loop-child-preserved t c = let a = c.args in
    let l = c.loop-child in
    let e = c.requires.at_in_bounds.3 l.child (omega arith) (omega arith) in (
      omega (arith, e.0),
      omega (arith, e.0),
      l.invariant.2,
      kids_again a.tables.now.link.now a.tables.now.label.now (sets_of a.tables.now.sets) a.rule.open a.rule.stars a.items.now a.ends.now a.at _ _ _ l.child _ l.next l.deep.words _ _ _ c.loop-child-test.true l.invariant.2 l.invariant.3 c.narrow-deep.ensures refl refl,
    )

pub returns-then-rule-2 : goal.returns-then-rule-2
returns-then-rule-2 t c = let a = c.args in
    let σ = sets_of a.tables.now.sets in
    let l = c.loop-child in
    let k : c.unwrap_or-k.result ≡ find a.tables.now.link.now a.tables.now.label.now c.label_of.result = c.unwrap_or-k.ensures ∙ c.find.ensures.found in
    λ sig d. walk_stars a.tables.now.link.now a.tables.now.label.now σ a.rule.open a.rule.stars sig a.items.now a.at a.place a.within.words c.requires.at_in_bounds.0 c.unwrap_or-k.result _ _ _ (omega arith) c.place_below-next.ensures (k ∙ ap (find a.tables.now.link.now a.tables.now.label.now) c.label_of.ensures)
    (having_is a.tables.now.link.now a.tables.now.label.now σ a.place _ _ _ a.within.words _ c.label_of.ensures k c.meet-deep.ensures)
    (kids_all a.tables.now.link.now a.tables.now.label.now σ a.rule.open a.rule.stars a.items.now a.ends.now a.at _ _ _ l.child _ l.next l.deep.words (omega arith) l.invariant.3 sig d) _ _ c.if-rule-2.true c.star_at-star.ensures c.or.ensures

pub returns : goal.returns
returns t c = let a = c.args in
    let σ = sets_of a.tables.now.sets in
    let l = c.loop-child in
    let k : c.unwrap_or-k.result ≡ find a.tables.now.link.now a.tables.now.label.now c.label_of.result = c.unwrap_or-k.ensures ∙ c.find.ensures.found in
    λ sig d. walk_plain a.tables.now.link.now a.tables.now.label.now σ a.rule.open a.rule.stars sig a.items.now a.at a.place a.within.words c.requires.at_in_bounds.0 c.unwrap_or-k.result _ _ _ (omega arith) c.place_below-next.ensures (k ∙ ap (find a.tables.now.link.now a.tables.now.label.now) c.label_of.ensures)
    (having_is a.tables.now.link.now a.tables.now.label.now σ a.place _ _ _ a.within.words _ c.label_of.ensures k c.meet-deep.ensures)
    (kids_all a.tables.now.link.now a.tables.now.label.now σ a.rule.open a.rule.stars a.items.now a.ends.now a.at _ _ _ l.child _ l.next l.deep.words (omega arith) l.invariant.3 sig d) c.if-rule-2.false
