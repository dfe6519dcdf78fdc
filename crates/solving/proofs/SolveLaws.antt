-- The ways out of solve: what has been shown where each reply is given.
use Prim.Native.Nat.{ℕ}
use mathlib.Core.Path.{◌≡◌, refl, sym, ap, ◌∙◌}
use mathlib.Core.List.{List}
use mathlib.Core.Bool.{Bool, true, false}
use borrow.Author.Tests.{eq-eqb, eqb-true}
use lib.Dec.{eqb}
use lib.ListN.{length}
use Rattle.terms.specs.Terms.{Signed, refusal}
use Rattle.std.specs.Prelude.{Result, Ok, Err, MatchResult, is_err}
use Rattle.refusals.specs.Refusals.{number_of}
use Rattle.refusals.specs.declared.Refusal.{Refusal}
use Rattle.terms.proofs.TermLaws.{good}
use Rattle.theory.specs.Items.{items, shift}
use Rattle.theory.specs.CheckedItems.{fine_good}
use Rattle.solution.specs.declared.Written.{Written}
use Rattle.solution.specs.declared.Unsolved.{Unsolved}
use Rattle.solution.specs.Promise.{Promise}
use Rattle.definitions.specs.Decisions.{bindings?}
use Rattle.definitions.specs.Answers.{recorded}
use Rattle.layout.specs.Layout.{term_of, signature_of, is_used}
use Rattle.layout.specs.Tables.{Tables, ample}
use Rattle.layout.proofs.LayoutLaws.{signature_good}
use Rattle.calls.specs.Outcome.{outcome, told, guarded}
use Rattle.calls.proofs.Public.{too_short, refuses, bad}
use Rattle.solving.specs.Solving.{solve_answer, solving}
use Rattle.solving.specs.Recording.{reply_of, recorded_told}

-- what the solver answered, from what is left of it under the call's refusals
abbrev value_of : Written → Result Written Refusal → Written
value_of d (Ok w) = w
value_of d (Err v) = d

pub solved_record : (k : Result Written Unsolved) (w : Written) {Q : Unsolved → Type 0}
    → MatchResult k (λ x. ◌≡◌ {A = Result Written Refusal} (Ok w) (Ok x)) Q → ((e : Unsolved) → Q e → ⊥) → k ≡ Ok w
solved_record (Ok x) w h n = ap (λ z. Ok z) (sym (ap (value_of w) h))
solved_record (Err e) w h n = absurd (n e h)

pub solved_none : (k : Result Written Unsolved) (v : Refusal) {Q : Unsolved → Type 0}
    → MatchResult k (λ x. ◌≡◌ {A = Result Written Refusal} (Err v) (Ok x)) Q → (e : Unsolved) × (k ≡ Err e) × Q e
solved_none (Ok x) v h = absurd (let y : ◌≡◌ {A = Bool} true false = ap is_err h in cc)
solved_none (Err e) v h = (e, refl, h)

module _ (T : Tables) (s : ℕ) (q out : List ℕ) where
  pub solving_table : ample T ≡ false → outcome (Err Refusal.Table) T out ≡ told out (solving T s q (length out))
  unfolding solving
  solving_table a = too_short T T out _ a

  module _ (a : ample T ≡ true) where
    pub solving_slot : is_used T.used s ≡ false → outcome (Err Refusal.Slot) T out ≡ told out (solving T s q (length out))
    unfolding solving solve_answer
    solving_slot i = refuses T T out _ Refusal.Slot a (rw i)

    module _ (i : is_used T.used s ≡ true) (sig : List ℕ) (y : sig ≡ signature_of T.bytes) where
      pub solving_question : (w : Refusal) → number_of w ≡ refusal sig q → outcome (Err w) T out ≡ told out (solving T s q (length out))
      unfolding solving solve_answer
      solving_question w p = refuses T T out _ w a (rw i (bad (refusal (signature_of T.bytes) q) (Err w) (rw (← y) p) w _ refl))

      module _ (g : refusal sig q ≡ 0) (t : List ℕ) (w : t ≡ term_of T.bytes s) (b : Bool) (d : b ≡ eqb (refusal sig t) 0) where
        asked : refusal (signature_of T.bytes) q ≡ 0
        asked = rw y at g

        stored : b ≡ eqb (refusal (signature_of T.bytes) (term_of T.bytes s)) 0
        stored = rw (← y, ← w) d

        pub solving_term : b ≡ false → outcome (Err Refusal.Nothing) T out ≡ told out (solving T s q (length out))
        unfolding solving solve_answer
        solving_term f =
            let z : eqb (refusal (signature_of T.bytes) (term_of T.bytes s)) 0 ≡ false = sym stored ∙ f in
            refuses T T out _ Refusal.Nothing a (rw (i, eq-eqb _ 0 asked, z))

        -- what the solver promised, in the reply that is given for it
        pub solving_solved : b ≡ true → (out' : List ℕ) (k k' : Result Written Unsolved) → k ≡ k' → Promise sig (items t) (shift 32 (items q)) out out' k → outcome (reply_of k') T out' ≡ told out (solving T s q (length out))
        unfolding solving solve_answer
        solving_solved f out' k k' v p =
            let sig' : List ℕ = signature_of T.bytes in
            let t' : List ℕ = term_of T.bytes s in
            let z : eqb (refusal sig' t') 0 ≡ true = sym stored ∙ f in
            let p' : Promise sig' (items t') (shift 32 (items q)) out out' k' = rw (← y, ← w, ← v) p in
            let n : Signed sig' = signature_good T.bytes in
            let x : guarded T (solve_answer T s q (length out)) ≡ recorded (bindings? sig' t' q) (length out) = rw (a, i, eq-eqb _ 0 asked, z) in
            rw x (recorded_told sig' t' q (fine_good sig' t' n (good sig' t' (eqb-true (refusal sig' t') 0 z))) (fine_good sig' q n (good sig' q asked)) T out out' k' p')
