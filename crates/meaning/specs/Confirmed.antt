-- SCOPE.md, 'The relations themselves' and 'The solver's record': the retrievals and the solver on tables that stand
-- for a store answer what the store answers.
use Prim.Native.Nat.{ℕ, ◌≤◌, ◌<◌}
use Rattle.std.specs.Prelude.{◌≡◌, ◌↔◌, eqb, ltb, length}
use Rattle.std.proofs.Math.Path.{refl}
use Rattle.std.proofs.Common.{sym, ap, ◌∙◌, arith}
use mathlib.Core.List.{List}
use Rattle.std.proofs.Math.Bool.{Bool, true, false}
use Rattle.std.proofs.Math.Option.{Option, some, none}
use borrow.Author.Tests.{eq-eqb, eqb-true, ltb-false}
use Rattle.laws.specs.Choice.{pick}
use Rattle.slots.specs.Slots.{has, members}
use Rattle.terms.specs.Terms.{refusal}
use Rattle.definitions.specs.Spelt.{clash}
use Rattle.definitions.specs.Candidates.{is_candidate}
use Rattle.definitions.specs.Decisions.{stands, bindings?}
use Rattle.definitions.specs.Answers.{Answer, refused, found, fits, recorded}
use Rattle.layout.specs.Layout.{signature_of, term_of, used_of}
use Rattle.layout.specs.Tables.{Tables}
use Rattle.library.specs.Store.{Store, slots_from, holding, in_use, candidates, answers, retrieve, solve, answered}
use Rattle.library.specs.Store as Abstract
use Rattle.retrieve.specs.RetrievalMeans.{Indexed, candidates_exact, answers_slots}
use Rattle.confirming.specs.Those.{SlotsBy}
use Rattle.retrieve.specs.Retrieving.{candidates_of, answers_of, retrieve_answer, retrieving}
use Rattle.solving.specs.Solving.{solve_answer, solving}
use Rattle.store.specs.TablesHold.{filled, stored_tree}
use Rattle.meaning.specs.Stand.{Stand, trees_of, stand_ample, stand_slots, in_use_lem, Means, question_means}
use Rattle.meaning.specs.Lists.{members_slots}
use Rattle.laws.specs.Sizes.{slot_count}

-- a slot in use holds something
filled_some : (o : Option (List ℕ)) → filled o ≡ 1 → (t : List ℕ) × (o ≡ some t)
filled_some none h = absurd (omega arith)
filled_some (some t) h = (t, refl)

module _ (T : Tables) (st : Store) (h : Stand T st) where
  slot_held : (s : ℕ) → s < slot_count → has (used_of T.used) s ≡ 1 → (t : List ℕ) × (st.held s ≡ some t)
  slot_held s l u = filled_some (st.held s) (sym (h.holds.slots s l) ∙ u)

  held_slot : (s : ℕ) (t : List ℕ) → s < slot_count → st.held s ≡ some t → has (used_of T.used) s ≡ 1
  held_slot s t l e = h.holds.slots s l ∙ ap filled e

  pub indexed : Indexed T (trees_of st)
  indexed = record {
    good = h.holds.index;
    term = λ s l u. let w = slot_held s l u in rw (h.holds.signature, (h.holds.terms s w.0 w.1).0) (h.holds.terms s w.0 w.1).1;
    tree = λ s l u. let w = slot_held s l u in rw (h.holds.signature, (h.holds.terms s w.0 w.1).0) (ap (stored_tree st.signature) w.1);
  }

  -- a test of the terms that the slots in use hold
  tested : (p : List ℕ → Bool) (s : ℕ) → s < slot_count → ((has (used_of T.used) s ≡ 1) × (p (term_of T.bytes s) ≡ true)) ↔ (holding p (st.held s) ≡ true)
  tested p s l = (
    (λ z. let w = slot_held s l z.0 in let e = (h.holds.terms s w.0 w.1).0 in let y : p w.0 ≡ true = ap p (sym e) ∙ z.1 in rw w.1 y),
    (λ z. fro (st.held s) refl z),
  )
    where
      fro : (o : Option (List ℕ)) → st.held s ≡ o → holding p o ≡ true → (has (used_of T.used) s ≡ 1) × (p (term_of T.bytes s) ≡ true)
      fro none e z = clash z
      fro (some t) e z = (held_slot s t l e, ap p (h.holds.terms s t e).0 ∙ z)

  module _ (r : ℕ) (q : List ℕ) (f : refusal st.signature q ≡ 0) where
    fine : refusal (signature_of T.bytes) q ≡ 0
    fine = rw h.holds.signature f

    -- the candidates are those of the store
    pub candidates_are : members (candidates_of T r q) ≡ candidates st r q
    unfolding candidates
    candidates_are = members_slots (candidates_of T r q) (λ s. holding (λ t. is_candidate st.signature r q t) (st.held s)) (λ s l. at s l (rw h.holds.signature at (candidates_exact T (trees_of st) indexed r q fine s l)))
      where
        at : (s : ℕ) → s < slot_count → (has (candidates_of T r q) s ≡ 1) ↔ ((has (used_of T.used) s ≡ 1) × (is_candidate st.signature r q (term_of T.bytes s) ≡ true))
            → (has (candidates_of T r q) s ≡ 1) ↔ (holding (λ t. is_candidate st.signature r q t) (st.held s) ≡ true)
        at s l c = ((λ z. (tested (λ t. is_candidate st.signature r q t) s l).0 (c.0 z)), (λ z. c.1 ((tested (λ t. is_candidate st.signature r q t) s l).1 z)))

    -- and so are the answers
    pub answers_are : r ≤ 4 → answers_of T r q ≡ answers st r q
    unfolding answers
    answers_are k = answers_slots T (trees_of st) indexed r q fine k p (slots_from p) slots_by at
      where
        p : ℕ → Bool
        p s = holding (λ t. stands st.signature r t q) (st.held s)

        slots_by : SlotsBy p (slots_from p)
        slots_by = unfold slots_from in record { none = λ s. refl; more = λ k s. refl }

        at : (s : ℕ) → s < slot_count
            → ((has (used_of T.used) s ≡ 1) × (stands (signature_of T.bytes) r (term_of T.bytes s) q ≡ true)) ↔ (holding (λ t. stands st.signature r t q) (st.held s) ≡ true)
        at s l = rw h.holds.signature (tested (λ t. stands st.signature r t q) s l)

  -- a retrieval answers what the store answers
  pub retrieving_means : (r : ℕ) (q : List ℕ) (room : ℕ) → Means (retrieving T r q room) (answered st (retrieve r q room)) st
  unfolding retrieving retrieve_answer answered
  retrieving_means r q room =
      question_means _ _ T st h (rw (stand_ample T st h, h.holds.signature) (go (ltb 4 r) refl (eqb (refusal st.signature q) 0) refl))
    where
      last : List ℕ → List ℕ → Answer
      last cs ms = fits ms room (found (length cs) ms)

      go : (b : Bool) → ltb 4 r ≡ b → (c : Bool) → eqb (refusal st.signature q) 0 ≡ c
          → pick b (refused 3) (pick c (last (members (candidates_of T r q)) (answers_of T r q)) (refused (refusal st.signature q)))
          ≡ pick b (refused 3) (pick c (last (candidates st r q) (answers st r q)) (refused (refusal st.signature q)))
      go true e c d = refl
      go false e false d = refl
      go false e true d = let f = eqb-true (refusal st.signature q) 0 d in rw (candidates_are r q f, answers_are r q f (ltb-false 4 r e))

  -- solve answers what the store answers
  pub solving_means : (s : ℕ) (q : List ℕ) (room : ℕ) → Means (solving T s q room) (answered st (solve s q room)) st
  unfolding solving solve_answer answered
  solving_means s q room = question_means _ _ T st h (rw (stand_ample T st h, stand_slots T st h s, h.holds.signature) (go (in_use st s) refl))
    where
      go : (b : Bool) → in_use st s ≡ b
          → pick b (pick (eqb (refusal st.signature q) 0)
          (pick (eqb (refusal st.signature (term_of T.bytes s)) 0) (recorded (bindings? st.signature (term_of T.bytes s) q) room) (refused 13))
          (refused (refusal st.signature q))) (refused 4)
          ≡ pick b (Abstract.solving_held st.signature (st.held s) q room) (refused 4)
      go false u = refl
      go true u =
          let y = (in_use_lem st s u).1 in
          rw (y.1, (h.holds.terms s y.0 y.1).0, eq-eqb (refusal st.signature y.0) 0 (h.holds.terms s y.0 y.1).1)
