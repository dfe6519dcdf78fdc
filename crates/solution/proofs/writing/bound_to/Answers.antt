use Rattle.std.proofs.Common.{arith, ap, inl, inr, ℕ, ◌≡◌, ◌∙◌, ◌-◌, get_or}
use Rattle.laws.specs.Sizes.{variable_base}
use Rattle.solution.specs.ValueBytes.{goes_plain, bound_goes, plus_one_sub}
use Rattle.solution.proofs.writing.bound_to.Goals as goal

pub returns-then-c-lt-VARIABLE : goal.returns-then-c-lt-VARIABLE
returns-then-c-lt-VARIABLE c =
    goes_plain c.args.tab.now c.args.c c.args.levels (λ v. elim c.then-c-lt-VARIABLE.either [ inl h ↦ absurd (omega arith) | inr h ↦ inl h.1 ])

pub returns : goal.returns
returns c = let a = c.args in
    let place : c.index.result ≡ a.c - variable_base = omega (arith, c.of_item.ensures.1, c.index.ensures) in
    bound_goes a.tab.now a.c a.levels _ c.if-c-lt-VARIABLE.false c.if-levels-eq0.false (plus_one_sub _ _ c.checked_sub.ensures ∙ ap (λ (k : ℕ). get_or a.tab.now k 0) place)
