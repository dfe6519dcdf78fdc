-- SCOPE.md, 'The relations themselves' and 'Numbers of refusal': what a retrieval means on all tables: its
-- candidates, its answers, the refusals in their order. What comes out of it is `told` of this
-- (calls/specs/Outcome.antt).
use Rattle.std.specs.Prelude.{ℕ, Bool, List, ltb, eqb, length}
use Rattle.laws.specs.Choice.{pick}
use Rattle.slots.specs.Slots.{members}
use Rattle.refusals.specs.declared.Refusal.TheVariants as Refusal
use Rattle.terms.specs.Terms.{refusal}
use Rattle.keysets.specs.KeySets.{four}
use Rattle.definitions.specs.Candidates.{opens, stars}
use Rattle.definitions.specs.Trees.{tree_of}
use Rattle.definitions.specs.Answers.{Answer, refused, refuse, found, fits}
use Rattle.candidates.specs.Walk.{walk}
use Rattle.layout.specs.Layout.{signature_of, term_of, used_of}
use Rattle.layout.specs.Tables.{Tables}
use Rattle.confirming.specs.Confirms.{confirms_term, those}
use Rattle.calls.specs.Outcome.{Result, result, guarded}
use Rattle.laws.specs.Sizes.{root_place}

-- the words of the candidates: the walk over the question's tree from the root, among the slots in use
unfoldable pub candidates_of : Tables → ℕ → List ℕ → List ℕ
candidates_of T r q =
    walk T.link T.label (four T.s0 T.s1 T.s2 T.s3) (opens r) (stars r)
    (tree_of (signature_of T.bytes) q) root_place (used_of T.used)

-- does the term of a slot
unfoldable pub confirms : Tables → ℕ → List ℕ → ℕ → Bool
confirms T r q s = confirms_term (signature_of T.bytes) r (term_of T.bytes s) q

-- the answers: the candidates that confirmation leaves
unfoldable pub answers_of : Tables → ℕ → List ℕ → List ℕ
answers_of T r q = those (confirms T r q) (members (candidates_of T r q))

-- 3, 5 to 8, 15, or both numbers and the listing of the answers
unfoldable pub retrieve_answer : Tables → ℕ → List ℕ → ℕ → Answer
retrieve_answer T r q room = let sig = signature_of T.bytes in
    pick (ltb 4 r) (refuse Refusal.Relation)
    (pick (eqb (refusal sig q) 0)
    (fits (answers_of T r q) room (found (length (members (candidates_of T r q))) (answers_of T r q)))
    (refused (refusal sig q)))

unfoldable pub retrieving : Tables → ℕ → List ℕ → ℕ → Result
retrieving T r q room = result (guarded T (retrieve_answer T r q room)) T T
