use mathlib.Core.Path.{sym, ◌∙◌}
use Rattle.pairs.proofs.PairLaws.{first_second, first_only, first_lower, first_same}
use native.Mathlib.Omega.{arith}
use Rattle.pairs.proofs.first.Goals as goal

pub returns-then-checked_number-eq0 : goal.returns-then-checked_number-eq0
returns-then-checked_number-eq0 c = first_second _ _ (sym c.checked_number.ensures ∙ c.if-checked_number-eq0.true)

pub returns-then-checked_number-eq0-2 : goal.returns-then-checked_number-eq0-2
returns-then-checked_number-eq0-2 c = first_only _ _ (λ h. c.if-checked_number-eq0.false (c.checked_number.ensures ∙ h)) (sym c.checked_number-2.ensures ∙ c.if-checked_number-eq0-2.true)

pub returns-then-checked_number : goal.returns-then-checked_number
returns-then-checked_number c = first_lower _ _ c.requires (λ z. c.if-checked_number-eq0.false (c.checked_number.ensures ∙ z)) (λ z. c.if-checked_number-eq0-2.false (c.checked_number-2.ensures ∙ z)) (omega (arith, c.if-checked_number.true, c.checked_number-4.ensures, c.checked_number-3.ensures))

pub returns-else-checked_number : goal.returns-else-checked_number
returns-else-checked_number c = first_same _ _ c.requires (λ z. c.if-checked_number-eq0.false (c.checked_number.ensures ∙ z)) (λ z. c.if-checked_number-eq0-2.false (c.checked_number-2.ensures ∙ z)) (omega (arith, c.if-checked_number.false, c.checked_number-4.ensures, c.checked_number-3.ensures))
