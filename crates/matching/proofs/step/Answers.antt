use Prim.Native.Nat.{◌+◌, ◌-◌}
use mathlib.Core.Path.{sym, ◌∙◌}
use native.Mathlib.Omega.{arith}
use borrow.Author.Tests.{eqb-true, eqb-false}
use lib.Dec.{eqb}
use Rattle.matching.proofs.MatchingLaws.{stepped_if}
use Rattle.matching.specs.Going.{going_in}
use Rattle.matching.specs.Steps.{stepped_clash, stepped_symbol, stepped_agrees, stepped_differs}
use Rattle.laws.specs.Sizes.{variable_base}
use Rattle.matching.proofs.step.Goals as goal

pub number_at-requires : goal.number_at-requires
number_at-requires c = let a = c.args in
    omega (arith, going_in a.sig.now a.pattern.now a.target.now a.tab.now a.i a.j c.requires.3 c.requires.2)

pub returns-then-c-lt-VARIABLE : goal.returns-then-c-lt-VARIABLE
returns-then-c-lt-VARIABLE c = let a = c.args in
    rw c.then_some.ensures (stepped_if a.sig.now a.pattern.now a.target.now a.tab.now a.tab.now a.i a.j (a.j + 1) (eqb c.number_at.result c.number_at-c.result)
    (λ e. stepped_symbol a.sig.now a.pattern.now a.target.now a.tab.now a.i a.j c.requires.3 c.requires.2 (omega arith)
    (sym c.number_at.ensures.0 ∙ eqb-true _ _ e ∙ c.number_at-c.ensures.0))
    (λ e. stepped_clash a.sig.now a.pattern.now a.target.now a.tab.now a.i a.j c.requires.3 c.requires.2 (omega arith)
    (λ h. eqb-false c.number_at.result c.number_at-c.result e (c.number_at.ensures.0 ∙ h ∙ sym c.number_at-c.ensures.0))))

pub end_of-e-requires : goal.end_of-e-requires
end_of-e-requires c = let a = c.args in
    (c.requires.1, going_in a.sig.now a.pattern.now a.target.now a.tab.now a.i a.j c.requires.3 c.requires.2)

pub agrees-requires : goal.agrees-requires
agrees-requires c = let a = c.args in
    let g = c.requires.3 in (
      g.many,
      c.requires.1.short,
      omega (arith, c.requires.0.named a.i c.requires.2, c.number_at-c.ensures.0),
      c.end_of-e.ensures.ahead,
      c.end_of-e.ensures.low,
      λ q z. (rw z at (g.table (c.number_at-c.result - variable_base))).0,
    )

pub returns : goal.returns
returns c = let a = c.args in
    let f = rw c.number_at-c.ensures.0 at c.agrees.ensures in
    rw c.then_some-2.ensures (stepped_if a.sig.now a.pattern.now a.target.now a.tab.now _ a.i a.j c.end_of-e.result _
    (λ e. stepped_agrees a.sig.now a.pattern.now a.target.now a.tab.now a.i a.j c.requires.3 c.requires.2 (omega arith)
    (omega (arith, c.requires.0.named a.i c.requires.2)) _ c.end_of-e.result c.end_of-e.ensures c.agrees.result f (grind (arith, e)))
    (λ e. stepped_differs a.sig.now a.pattern.now a.target.now a.tab.now a.i a.j c.requires.3 c.requires.2 (omega arith)
    (omega (arith, c.requires.0.named a.i c.requires.2)) _ c.end_of-e.result c.end_of-e.ensures c.agrees.result f (grind (arith, e))))
