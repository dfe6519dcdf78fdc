use Prim.Native.Nat.{ℕ, ◌≤◌}
use mathlib.Core.Path.{◌≡◌, refl, sym, ◌∙◌}
use Rattle.std.specs.Prelude.{Option, Some, None}
use mathlib.Core.List.{List}
use native.Mathlib.Omega.{arith}
use lib.ListN.{replicate}
use Rattle.laws.specs.Sizes.{variable_base}
use Rattle.terms.specs.Terms.{item_at}
use Rattle.theory.specs.Relations.{decided_yes, decided_no}
use Rattle.matching.proofs.MatchingLaws.{none_at, flag_on}
use Rattle.matching.specs.Going.{going_start, going_in, going_lone, going_end, going_renames}
use Rattle.matching.specs.Steps.{lone_more, no_variant}
use Rattle.matching.proofs.turns.Goals.{else-this-ne0-via-then-this-ne0+else-not-meets, else-this-ne0-via-else-this-ne0}
use Rattle.matching.proofs.turns.Goals as goal

pub loop-i-init : goal.loop-i-init
loop-i-init g c = let a = c.args in
    let ns : List (Option ℕ) = replicate 32 None in
    (going_start a.sig.now a.pattern.now a.target.now c.requires.0 c.requires.1 ns refl (none_at 32), λ r y q e. absurd (let h : None ≡ Some q = sym (none_at 32 y) ∙ e in let z : ◌≡◌ {A = ℕ} 0 1 = cc in omega arith))

pub meets-requires : goal.meets-requires
meets-requires g c = let a = c.args in
    let l = c.loop-i in
    (c.loop-i-test.true, going_in a.sig.now a.pattern.now a.target.now l.tab l.i l.j l.invariant.0 c.loop-i-test.true)

pub returns-then-not-meets-clause-renames : goal.returns-then-not-meets-clause-renames
returns-then-not-meets-clause-renames g c = let a = c.args in
    let l = c.loop-i in
    let m = c.meets.ensures.alone c.if-not-meets.true in
    λ e. decided_no (going_lone a.sig.now a.pattern.now a.target.now l.tab l.i l.j l.invariant.0 c.loop-i-test.true m.0 m.1)

pub step-requires : goal.step-requires
step-requires g c = (c.requires.0, c.requires.1, c.loop-i-test.true, c.loop-i.invariant.0)

pub returns-in_default-clause-renames : goal.returns-in_default-clause-renames
returns-in_default-clause-renames g c = let a = c.args in
    λ e. decided_no (no_variant a.sig.now a.pattern.now a.target.now (c.in_default.ensures.told))

pub loop-i-preserved : goal.loop-i-preserved
loop-i-preserved g c = let a = c.args in
    let l = c.loop-i in
    let s = c.in-Some.ensures in (
      s.told,
      λ r.
          let met : variable_base ≤ item_at a.pattern.now l.i → variable_base ≤ item_at a.target.now l.j = elim c.else-this-ne0.branch [
            | else-this-ne0-via-then-this-ne0+else-not-meets w ↦ w.meets.ensures.met w.if-not-meets.false
            | else-this-ne0-via-else-this-ne0 w ↦ absurd (r w.if-this-ne0.false)
          ] in
          lone_more a.sig.now a.pattern.now a.target.now l.tab _ l.i l.j _ s met (l.invariant.1 r),
    )

pub returns-clause-renames : goal.returns-clause-renames
returns-clause-renames g c = let a = c.args in
    let l = c.loop-i in
    λ e. decided_yes (going_renames a.sig.now a.pattern.now a.target.now l.tab l.i l.j l.invariant.0 c.loop-i-test.false (l.invariant.1 (flag_on g.row.RENAMES e)))

pub returns-clause-fits : goal.returns-clause-fits
returns-clause-fits g c = let a = c.args in
    let l = c.loop-i in
    λ e. decided_yes (going_end a.sig.now a.pattern.now a.target.now l.tab l.i l.j l.invariant.0 c.loop-i-test.false)
