-- On tables that stand for a store a retrieval answers all that SCOPE.md asks for ('Paths and keys', 'The relations
-- themselves'): its candidates are the slots in use whose term agrees with the question, and its answers are all
-- slots in use whose term stands in the relation to it.
use Prim.Native.Nat.{ℕ, ◌≤◌, ◌<◌}
use Rattle.std.specs.Prelude.{◌≡◌, ◌↔◌, Bool, true, false, eqb}
use Rattle.std.proofs.Math.Path.{sym}
use Rattle.std.proofs.Common.{◌∙◌, eq-eqb}
use mathlib.Core.List.{List}
use Rattle.std.proofs.Math.Option.{Option, some}
use Rattle.laws.specs.Choice.{pick}
use Rattle.laws.specs.Members.{In}
use Rattle.slots.specs.Slots.{has}
use Rattle.terms.specs.Terms.{Signed, refusal}
use Rattle.terms.proofs.TermLaws.{good}
use Rattle.theory.specs.Relations.{Decided}
use Rattle.theory.specs.CheckedItems.{fine_good}
use Rattle.keys.specs.Keys.{Tm}
use Rattle.definitions.specs.Trees.{tree_of}
use Rattle.definitions.specs.Candidates.{opens, stars, is_candidate}
use Rattle.definitions.specs.Spelt.{tree_shaped}
use Rattle.definitions.specs.Relations.{Stands}
use Rattle.definitions.specs.Decisions.{stands, stands_fine}
use Rattle.definitions.specs.Linear.{answer_candidate}
use Rattle.keysets.specs.KeySets.{four}
use Rattle.termkeys.specs.Fill.{tables}
use Rattle.termkeys.specs.TermKeysMean.{GoodSt}
use Rattle.candidates.specs.CandidatesMean.{candidates_mean}
use Rattle.candidates.specs.Has.{SlotsOf, walk_in}
use Rattle.layout.specs.Layout.{signature_of, term_of, used_of}
use Rattle.layout.specs.Tables.{Tables}
use Rattle.layout.proofs.LayoutLaws.{signature_good}
use Rattle.retrieve.specs.Retrieving.{candidates_of, confirms, answers_of}
use Rattle.confirming.specs.Confirms.{confirms_term}
use Rattle.confirming.specs.Those.{SlotsBy, those_slots, those_are}
use Rattle.laws.specs.Sizes.{root_place, slot_count}

-- the tables stand for the store st, and each slot in use holds the bytes of its term
pub record Indexed (T : Tables) (st : ℕ → Option Tm) : Type 0 where
  pub good : GoodSt (tables T.link T.label T.s0 T.s1 T.s2 T.s3) st
  pub term : (s : ℕ) → s < slot_count → has (used_of T.used) s ≡ 1
      → refusal (signature_of T.bytes) (term_of T.bytes s) ≡ 0
  pub tree : (s : ℕ) → s < slot_count → has (used_of T.used) s ≡ 1
      → st s ≡ some (tree_of (signature_of T.bytes) (term_of T.bytes s))

module _ (T : Tables) (st : ℕ → Option Tm) (h : Indexed T st) (r : ℕ) (q : List ℕ) (f : refusal (signature_of T.bytes) q ≡ 0) where
  at_slot : (s : ℕ) → s < slot_count → has (used_of T.used) s ≡ 1
      → (has (candidates_of T r q) s ≡ 1) ↔ ((has (used_of T.used) s ≡ 1) × (is_candidate (signature_of T.bytes) r q (term_of T.bytes s) ≡ true))
  unfolding candidates_of is_candidate
  at_slot s l u = let sig = signature_of T.bytes in candidates_mean _ st sig r q (used_of T.used) s (tree_of sig (term_of T.bytes s)) h.good (signature_good T.bytes) f l (h.tree s l u) (tree_shaped sig (term_of T.bytes s) (signature_good T.bytes) (h.term s l u))

  in_use_lem : (s : ℕ) → s < slot_count → has (candidates_of T r q) s ≡ 1 → has (used_of T.used) s ≡ 1
  unfolding candidates_of
  in_use_lem s l z = walk_in T.link T.label (four T.s0 T.s1 T.s2 T.s3) (opens r) (stars r) (tree_of (signature_of T.bytes) q) root_place (used_of T.used) s l z

  -- the candidates: 'the slots in use', and the table of candidates
  pub candidates_exact : SlotsOf (candidates_of T r q) (λ s. (has (used_of T.used) s ≡ 1) × (is_candidate (signature_of T.bytes) r q (term_of T.bytes s) ≡ true))
  candidates_exact s l = ((λ z. (at_slot s l (in_use_lem s l z)).0 z), (λ z. (at_slot s l z.0).1 z))

  module _ (k : r ≤ 4) where
    -- what confirmation leaves of the candidates: no slot in use whose term stands in the relation is missed
    answers_at : (s : ℕ) → s < slot_count → ((has (candidates_of T r q) s ≡ 1) × (confirms T r q s ≡ true))
        ↔ ((has (used_of T.used) s ≡ 1) × (stands (signature_of T.bytes) r (term_of T.bytes s) q ≡ true))
    unfolding confirms confirms_term
    answers_at s l = (
      (λ z. let u = in_use_lem s l z.0 in (u, sym (same u) ∙ z.1)),
      (λ z. ((candidates_exact s l).1 (z.0, answer_candidate sig g q t f (h.term s l z.0) r k ((right z.0).holds z.1)), same z.0 ∙ z.1)),
    )
      where
        sig : List ℕ
        sig = signature_of T.bytes

        t : List ℕ
        t = term_of T.bytes s

        g : Signed sig
        g = signature_good T.bytes

        same : has (used_of T.used) s ≡ 1 → pick (eqb (refusal sig t) 0) (stands sig r t q) false ≡ stands sig r t q
        same u = rw (eq-eqb (refusal sig t) 0 (h.term s l u))

        right : has (used_of T.used) s ≡ 1 → Decided (stands sig r t q) (Stands sig r t q)
        right u = stands_fine sig r t q (fine_good sig t g (good sig t (h.term s l u))) (fine_good sig q g (good sig q f))

    -- the answers: the slots in use whose term stands in the relation
    pub answers_exact : (s : ℕ) → In s (answers_of T r q)
        ↔ ((s < slot_count) × (has (used_of T.used) s ≡ 1) × (stands (signature_of T.bytes) r (term_of T.bytes s) q ≡ true))
    unfolding answers_of
    answers_exact s = let a = those_are (confirms T r q) (candidates_of T r q) s in (
      (λ i. let z = a.0 i in let y = (answers_at s z.0).0 (z.1, z.2) in (z.0, y.0, y.1)),
      (λ z. let y = (answers_at s z.0).1 (z.1, z.2) in a.1 (z.0, y.0, y.1)),
    )

    -- and as a list: the ascending one of the slots that pass a test, where that is true of just these
    pub answers_slots : (test : ℕ → Bool) (list : ℕ → ℕ → List ℕ) → SlotsBy test list
        → ((s : ℕ) → s < slot_count → ((has (used_of T.used) s ≡ 1) × (stands (signature_of T.bytes) r (term_of T.bytes s) q ≡ true)) ↔ (test s ≡ true))
        → answers_of T r q ≡ list slot_count 0
    unfolding answers_of
    answers_slots test list b c = those_slots (confirms T r q) test (candidates_of T r q) list b (λ s l. (
      (λ z. (c s l).0 ((answers_at s l).0 z)),
      (λ z. (answers_at s l).1 ((c s l).1 z)),
    ))
