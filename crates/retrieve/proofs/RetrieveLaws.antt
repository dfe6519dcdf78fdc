-- The ways out of a retrieval: what has been shown where each reply is given.
use Prim.Native.Nat.{ℕ, ◌*◌, ◌≤◌, ◌<◌}
use mathlib.Core.Path.{◌≡◌, refl, ap, ◌∙◌}
use mathlib.Core.List.{List}
use mathlib.Core.Bool.{true, false}
use borrow.Author.Tests.{lt-ltb, le-ltb, eq-eqb}
use lib.ListN.{length}
use Rattle.slots.specs.Slots.{members, listed, listed_into, into_none, into_all}
use Rattle.terms.specs.Terms.{refusal}
use Rattle.std.specs.Prelude.{Ok, Err}
use Rattle.refusals.specs.Refusals.{number_of}
use Rattle.refusals.specs.declared.Refusal.{Refusal}
use Rattle.keysets.specs.KeySets.{four}
use Rattle.definitions.specs.Candidates.{opens, stars}
use Rattle.definitions.specs.Trees.{tree_of}
use Rattle.candidates.specs.Walk.{walk}
use Rattle.confirming.specs.Confirms.{confirms_term, those}
use Rattle.layout.specs.Layout.{term_of, signature_of, used_of}
use Rattle.layout.specs.Tables.{Tables, ample}
use Rattle.calls.specs.Outcome.{outcome, told}
use Rattle.calls.proofs.Public.{too_short, refuses, answers, bad}
use Rattle.retrieve.specs.Retrieving.{candidates_of, confirms, answers_of, retrieve_answer, retrieving}
use Rattle.laws.specs.Sizes.{root_place}

module _ (T : Tables) (r : ℕ) (q out : List ℕ) where
  pub retrieving_table : ample T ≡ false → outcome (Err Refusal.Table) T out ≡ told out (retrieving T r q (length out))
  unfolding retrieving
  retrieving_table a = too_short T T out _ a

  module _ (a : ample T ≡ true) where
    pub retrieving_relation : 4 < r → outcome (Err Refusal.Relation) T out ≡ told out (retrieving T r q (length out))
    unfolding retrieving retrieve_answer
    retrieving_relation h = refuses T T out _ Refusal.Relation a (rw (lt-ltb 4 r h))

    module _ (h : r ≤ 4) (sig : List ℕ) (s : sig ≡ signature_of T.bytes) where
      pub retrieving_question : (w : Refusal) → number_of w ≡ refusal sig q → outcome (Err w) T out ≡ told out (retrieving T r q (length out))
      unfolding retrieving retrieve_answer
      retrieving_question w p = refuses T T out _ w a (rw (le-ltb 4 r h) (bad (refusal (signature_of T.bytes) q) (Err w) (rw (← s) p) w _ refl))

      -- the sets that were looked at
      module _ (g : refusal sig q ≡ 0) (cs u ws : List ℕ) (j : u ≡ used_of T.used) (c : cs ≡ walk T.link T.label (four T.s0 T.s1 T.s2 T.s3) (opens r) (stars r) (tree_of sig q) root_place u)
          (b : members ws ≡ those (λ s. confirms_term sig r (term_of T.bytes s) q) (members cs)) where
        taken : refusal (signature_of T.bytes) q ≡ 0
        taken = rw s at g

        candidates_are : cs ≡ candidates_of T r q
        unfolding candidates_of
        candidates_are = rw (← s, ← j) c

        answers_are : members ws ≡ answers_of T r q
        unfolding answers_of confirms
        answers_are =
            let z : those (λ x. confirms_term sig r (term_of T.bytes x) q) (members cs) ≡ answers_of T r q = rw (s, candidates_are) in
            b ∙ z

        pub retrieving_room : (n : ℕ) (out' : List ℕ) → n ≡ length (members ws) → length out < 2 * n → out' ≡ listed_into ws out → outcome (Err Refusal.Room) T out' ≡ told out (retrieving T r q (length out))
        unfolding retrieving retrieve_answer
        retrieving_room n out' f l w =
            let o : length out < 2 * length (members ws) = rw f at l in
            let o' : length out < 2 * length (answers_of T r q) = rw (← answers_are) o in
            rw (w, into_none ws out o) (refuses T T out _ Refusal.Room a (rw (le-ltb 4 r h, eq-eqb _ 0 taken, lt-ltb _ _ o')))

        pub retrieving_done : (m n : ℕ) (out' : List ℕ) → m ≡ length (members cs) → n ≡ length (members ws) → 2 * n ≤ length out → out' ≡ listed_into ws out → outcome (Ok (record { first = m; second = n })) T out' ≡ told out (retrieving T r q (length out))
        unfolding retrieving retrieve_answer
        retrieving_done m n out' i f l w =
            let o : 2 * length (members ws) ≤ length out = rw f at l in
            let o' : 2 * length (answers_of T r q) ≤ length out = rw (← answers_are) o in
            let m' : m ≡ length (members (candidates_of T r q)) = i ∙ ap (λ (z : List ℕ). length (members z)) candidates_are in
            let n' : n ≡ length (answers_of T r q) = f ∙ ap length answers_are in
            answers T T out _ m n (listed (answers_of T r q)) T out' a (rw (le-ltb 4 r h, eq-eqb _ 0 taken, le-ltb (length out) _ o', m', n')) refl (rw (w, into_all ws out o, answers_are))
