use Rattle.std.proofs.Common.{◌≡◌, ◌∙◌, eqb, arith, Bool}
use Rattle.theory.specs.Relations.{Decided}
use Rattle.unify.specs.Solved.{code_of, table_of, ok_code}
use Rattle.unifiable.specs.Pool.{decided}
use Rattle.unifiable.proofs.unifiable.Goals as goal

-- an answer that equals one that decides
same_answer : {P : Type 0} (x y : Bool) → x ≡ y → Decided y P → Decided x P
same_answer x y e d = rw e d

pub returns : goal.returns
returns c = let a = c.args in
    let r = c.solve.result in
    let e : c.is_ok.result ≡ eqb (code_of r) 0 = c.is_ok.ensures.value ∙ ok_code r in
    same_answer _ (eqb (code_of r) 0) (grind (arith, e)) (decided a.sig.now a.stored.now a.question.now (code_of r) (table_of r) c.solve.ensures)
