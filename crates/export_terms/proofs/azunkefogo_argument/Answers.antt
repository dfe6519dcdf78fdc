use lib.ListN.{length}
use mathlib.Core.Path.{◌≡◌, sym, ap, ◌∙◌}
use Rattle.export_terms.proofs.ArgumentLaws.{start_kept, length_kept, start_told, length_told}
use Rattle.terms.specs.Terms.{arg_refusal}
use Rattle.export_terms.proofs.azunkefogo_argument.Goals as goal

pub returns-then-refused-ne0 : goal.returns-then-refused-ne0
returns-then-refused-ne0 c = let a = c.args in
    let n : arg_refusal a.sig.now a.term.now a.i ≡ 0 → ⊥ = λ h. c.if-refused-ne0.true (c.argument_refusal-refused.ensures ∙ h) in
    record {
      value = c.code.ensures ∙ c.argument_refusal-refused.ensures;
      start_after = start_kept _ _ _ _ n;
      length_after = length_kept _ _ _ _ n;
    }

pub returns : goal.returns
returns c = let a = c.args in
    let e : arg_refusal a.sig.now a.term.now a.i ≡ 0 = sym c.argument_refusal-refused.ensures ∙ c.if-refused-ne0.false in
    record {
      value = sym e;
      start_after = c.argument_start.ensures ∙ start_told _ _ _ _ e;
      length_after = ap length c.argument-part.ensures.0 ∙ length_told _ _ _ _ e;
    }
