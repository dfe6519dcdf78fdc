-- SCOPE.md, 'Store': what opening, insert and delete answer on the tables is what the store answers, and afterwards
-- the tables stand for the store afterwards.
use Rattle.std.specs.Prelude.{ℕ, zero, suc, ◌+◌, ◌≤◌, ◌<◌, ◌≡◌, refl, List, Bool, true, false, eqb, ltb, length}
use Rattle.std.proofs.Common.{sym, arith, eq-eqb, ne_eqb, eqb-true, lt-ltb, le-ltb}
use Rattle.std.proofs.Math.Option.{Option, some, none}
use Rattle.std.proofs.Math.Decide.{dec_lt}
use Rattle.std.proofs.lemmas.Bool.{eqb-false}
use Rattle.laws.specs.Choice.{pick}
use Rattle.terms.specs.Terms.{arities_good, sig_refusal, refusal}
use Rattle.definitions.specs.Spelt.{clash}
use Rattle.library.specs.Store.{Store, holding, in_use, free_from, first_free, put, key_count, open_with, insert, delete}
use Rattle.library.specs.Store.{answered, empty, after}
use Rattle.layout.specs.Tables.{Tables, ample}
use Rattle.layout.proofs.LayoutLaws.{long}
use Rattle.store.specs.Tables.{ups_of, ends_of, room_for, opened_with, inserted_at, deleted_at}
use Rattle.calls.specs.Outcome.{result}
use Rattle.store.specs.Calls.{opening, insert_answer, inserting, deleting}
use Rattle.store.specs.TablesHold.{open_holds}
use Rattle.store.specs.TablesHold as Slots
use Rattle.store.specs.Changes.{insert_holds, delete_holds}
use Rattle.meaning.specs.Stand.{Stand, stand_ample, stand_slots, in_use_lem, Means, refused_means}
use Rattle.meaning.specs.Lists.{free_first}
use Rattle.meaning.specs.Counting.{room_test}
use Rattle.definitions.specs.Answers.{refused, opened, slot, unless}
use Rattle.laws.specs.Sizes.{key_limit, slot_count}

-- OPENING of any tables that are long enough
pub open_stand : (T : Tables) (sig : List ℕ) → ample T ≡ true → sig_refusal sig ≡ 0 → Stand (opened_with T sig) (empty sig)
unfolding ample empty
open_stand T sig l s = record { signed = s; holds = open_holds T sig (long _ _ _ _ _ _ _ _ l) s }

pub signature_two : (sig : List ℕ) → (sig_refusal sig ≡ 0 → ⊥) → sig_refusal sig ≡ 2
unfolding sig_refusal
signature_two sig n = go (eqb (length sig) 0) (ltb 256 (length sig)) (arities_good sig) n
  where
    go : (a b c : Bool) → (pick {A = ℕ} a 2 (pick {A = ℕ} b 2 (pick {A = ℕ} c 0 2)) ≡ 0 → ⊥) → pick {A = ℕ} a 2 (pick {A = ℕ} b 2 (pick {A = ℕ} c 0 2)) ≡ 2
    go true b c n = refl
    go false true c n = refl
    go false false true n = absurd (n refl)
    go false false false n = refl

pub opening_means : (T : Tables) (st : Store) (sig : List ℕ) → Stand T st → Means (opening T sig) (answered st (open_with sig)) (after st (open_with sig))
unfolding opening after answered
opening_means T st sig h = rw (stand_ample T st h) (go (eqb (sig_refusal sig) 0) refl)
  where
    go : (b : Bool) → eqb (sig_refusal sig) 0 ≡ b
        → Means (result (pick b opened (refused (sig_refusal sig))) T (opened_with T sig)) (pick b opened (refused 2)) (unless (pick b opened (refused 2)) st (empty sig))
    go true e = record { answer = refl; stand = open_stand T sig (stand_ample T st h) (eqb-true (sig_refusal sig) 0 e) }
    go false e = rw (signature_two sig (eqb-false (sig_refusal sig) 0 e)) (refused_means 2 T (opened_with T sig) st h)

-- DELETE
put_held : (st : Store) (s : ℕ) (o : Option (List ℕ)) (T : Tables) → sig_refusal st.signature ≡ 0 → Slots.Holds T st.signature (Slots.changed st.held s o) → Stand T (put st s o)
unfolding put Slots.changed
put_held st s o T g h = record { signed = g; holds = h }

pub deleting_means : (T : Tables) (st : Store) (s : ℕ) → Stand T st → Means (deleting T s) (answered st (delete s)) (after st (delete s))
unfolding deleting after answered
deleting_means T st s h = rw (stand_ample T st h, stand_slots T st h s) (go (in_use st s) refl)
  where
    go : (b : Bool) → in_use st s ≡ b
        → Means (result (pick b (slot s) (refused 4)) T (deleted_at T s)) (pick b (slot s) (refused 4)) (unless (pick b (slot s) (refused 4)) st (put st s none))
    go true e = let w = in_use_lem st s e in
        record { answer = refl; stand = put_held st s none (deleted_at T s) h.signed (delete_holds T st.signature st.held w.1.0 s h.holds w.0 w.1.1) }
    go false e = refused_means 4 T (deleted_at T s) st h

-- INSERT: the smallest free slot is free
free_most : (st : Store) (k s : ℕ) → free_from st k s ≤ s + k
unfolding free_from
free_most st zero s = omega arith
free_most st (suc k) s = go (in_use st s) (free_most st k (suc s))
  where
    go : (b : Bool) → free_from st k (suc s) ≤ suc s + k → pick b (free_from st k (suc s)) s ≤ s + suc k
    go true h = omega arith
    go false h = omega arith

free_is : (st : Store) (k s : ℕ) → free_from st k s < s + k → in_use st (free_from st k s) ≡ false
unfolding free_from
free_is st zero s h = absurd (omega arith)
free_is st (suc k) s h = go (in_use st s) refl h (free_is st k (suc s))
  where
    go : (b : Bool) → in_use st s ≡ b → pick b (free_from st k (suc s)) s < s + suc k → (free_from st k (suc s) < suc s + k → in_use st (free_from st k (suc s)) ≡ false) → in_use st (pick b (free_from st k (suc s)) s) ≡ false
    go true e h ih = ih (omega arith)
    go false e h ih = e

not_in_use : (st : Store) (s : ℕ) → s < slot_count → in_use st s ≡ false → st.held s ≡ none
unfolding in_use
not_in_use st s l h = go (st.held s) (rw (lt-ltb s slot_count l) at h)
  where
    go : (o : Option (List ℕ)) → holding (λ t. true) o ≡ false → o ≡ none
    go none h = refl
    go (some t) h = clash (sym h)

pub inserting_means : (T : Tables) (st : Store) (t : List ℕ) → Stand T st → Means (inserting T t) (answered st (insert t)) (after st (insert t))
unfolding inserting insert_answer after answered
inserting_means T st t h =
    rw (stand_ample T st h, h.holds.signature, free_first T.used st h.holds.words (λ s l. stand_slots T st h s)) (go (eqb (refusal st.signature t) 0) refl)
  where
    most : first_free st ≤ slot_count
    most = free_most st slot_count 0

    -- the tables with the term, and the store with it
    new : Tables
    new = inserted_at T t (first_free st)

    more : Store
    more = put st (first_free st) (some t)

    B : Bool
    B = room_for T.link T.label (ups_of st.signature t) (ends_of st.signature t)

    roomy : (b : Bool) → B ≡ b → refusal st.signature t ≡ 0 → first_free st < slot_count
        → Means (result (pick b (slot (first_free st)) (refused 12)) T new) (pick (pick b false true) (refused 12) (slot (first_free st)))
        (unless (pick (pick b false true) (refused 12) (slot (first_free st))) st more)
    roomy true e r l = record {
      answer = refl;
      stand = put_held st (first_free st) (some t) new h.signed
          (insert_holds T st.signature st.held t (first_free st) h.holds r l (not_in_use st (first_free st) l (free_is st slot_count 0 l)) e);
    }
    roomy false e r l = refused_means 12 T new st h

    free : Dec (first_free st < slot_count) → refusal st.signature t ≡ 0
        → Means (result (pick (ltb (first_free st) slot_count) (pick B (slot (first_free st)) (refused 12)) (refused 11)) T new)
        (pick (eqb (first_free st) slot_count) (refused 11) (pick (ltb key_limit (key_count more)) (refused 12) (slot (first_free st))))
        (unless (pick (eqb (first_free st) slot_count) (refused 11) (pick (ltb key_limit (key_count more)) (refused 12) (slot (first_free st)))) st more)
    free (yes l) r =
        let m = room_test T st (first_free st) t h l (not_in_use st (first_free st) l (free_is st slot_count 0 l)) r in
        rw (lt-ltb (first_free st) slot_count l, ne_eqb (first_free st) slot_count (λ z. omega arith), m) (roomy B refl r l)
    free (no l) r = rw (le-ltb (first_free st) slot_count (omega arith), eq-eqb (first_free st) slot_count (omega (arith, most))) (refused_means 11 T new st h)

    go : (b : Bool) → eqb (refusal st.signature t) 0 ≡ b
        → Means (result (pick b (pick (ltb (first_free st) slot_count) (pick B (slot (first_free st)) (refused 12)) (refused 11)) (refused (refusal st.signature t))) T new)
        (pick b (pick (eqb (first_free st) slot_count) (refused 11) (pick (ltb key_limit (key_count more)) (refused 12) (slot (first_free st)))) (refused (refusal st.signature t)))
        (unless (pick b (pick (eqb (first_free st) slot_count) (refused 11) (pick (ltb key_limit (key_count more)) (refused 12) (slot (first_free st)))) (refused (refusal st.signature t))) st more)
    go true e = free (dec_lt (first_free st) slot_count) (eqb-true (refusal st.signature t) 0 e)
    go false e = refused_means (refusal st.signature t) T new st h
