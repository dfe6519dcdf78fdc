-- SCOPE.md, 'The solver's record' and 'Numbers of refusal': what solve means on all tables, the refusals in their
-- order. What comes out of it is `told` of this (calls/specs/Outcome.antt).
use Rattle.std.specs.Prelude.{ℕ, List, eqb}
use Rattle.laws.specs.Choice.{pick}
use Rattle.refusals.specs.declared.Refusal.TheVariants as Refusal
use Rattle.terms.specs.Terms.{refusal}
use Rattle.definitions.specs.Decisions.{bindings?}
use Rattle.definitions.specs.Answers.{Answer, refused, refuse, recorded}
use Rattle.layout.specs.Layout.{signature_of, term_of, is_used}
use Rattle.layout.specs.Tables.{Tables}
use Rattle.calls.specs.Outcome.{Result, result, guarded}

-- 4, 5 to 8, 13, 14, 15, or the record; bytes that are no term, as on memory that no opening made, have no unifier
unfoldable pub solve_answer : Tables → ℕ → List ℕ → ℕ → Answer
solve_answer T s q room = let sig = signature_of T.bytes in
    pick (is_used T.used s)
    (pick (eqb (refusal sig q) 0)
    (pick (eqb (refusal sig (term_of T.bytes s)) 0) (recorded (bindings? sig (term_of T.bytes s) q) room)
    (refuse Refusal.Nothing))
    (refused (refusal sig q)))
    (refuse Refusal.Slot)

unfoldable pub solving : Tables → ℕ → List ℕ → ℕ → Result
solving T s q room = result (guarded T (solve_answer T s q room)) T T
