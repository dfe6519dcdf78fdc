-- Serves the demands (SCOPE.md, 'What the contracts owe'): what holds of every call on all tables, whatever they
-- hold: it is refused with 1 exactly where a table is short, and a refused call changes nothing.
use Rattle.std.specs.Prelude.{ℕ, ◌*◌, ◌%◌, ◌≡◌, refl, ◌⊎◌, ◌↔◌, ◌≢◌, Bool, true, false, List, ltb, eqb, length, Ok, Err}
use Rattle.std.proofs.Common.{sym, ap, ◌∙◌, inl, inr, arith}
use Rattle.std.proofs.Math.Option.{Option, some, none}
use Rattle.std.proofs.lemmas.List.Edits.{sets}
use Rattle.laws.specs.Choice.{pick}
use Rattle.slots.specs.Slots.{members}
use Rattle.refusals.specs.declared.Refusal.{Refusal}
use Rattle.refusals.specs.Refusals.{number_of}
use Rattle.terms.specs.Terms.{sig_refusal, arities_good, items_good, span, refusal}
use Rattle.keys.specs.Bytes.{is_key}
use Rattle.theory.specs.Unify.{Bind, full}
use Rattle.definitions.specs.Spelt.{clash}
use Rattle.definitions.specs.Decisions.{bindings?}
use Rattle.definitions.specs.Records.{record_of}
use Rattle.definitions.specs.Answers.{Answer, refused, done, refusal_in, first_in, second_in, written, unless, long_from}
use Rattle.definitions.specs.Answers.{recorded}
use Rattle.layout.specs.Tables.{Tables, ample}
use Rattle.layout.specs.Layout.{signature_of, is_used, term_of}
use Rattle.library.specs.Store.{Call, open_with, insert, delete, with_key, retrieve, solve}
use Rattle.calls.specs.Outcome.{Reply, Outcome, outcome, Result, guarded}
use Rattle.store.specs.Tables.{ups_of, ends_of, room_for, opened_with, free_slot, inserted_at, deleted_at, slots_of_key}
use Rattle.store.specs.Calls.{opening, insert_answer, inserting, deleting, key_question}
use Rattle.retrieve.specs.Retrieving.{answers_of, retrieve_answer, retrieving}
use Rattle.solving.specs.Solving.{solve_answer, solving}
use Rattle.meaning.specs.Runs.{carried, Called}
use Rattle.laws.specs.Sizes.{slot_count}

-- a signature is refused with 2 or not at all, a term with 5, 6, 7 or 8
signature_numbers : (P : ℕ → Type 0) (sig : List ℕ) → P 0 → P 2 → P (sig_refusal sig)
unfolding sig_refusal
signature_numbers P sig taken bad = go (eqb (length sig) 0) (ltb 256 (length sig)) (arities_good sig)
  where
    go : (a b c : Bool) → P (pick a 2 (pick b 2 (pick c 0 2)))
    go true b c = bad
    go false true c = bad
    go false false true = taken
    go false false false = bad

term_numbers : (P : ℕ → Type 0) (sig t : List ℕ) → P 0 → P 5 → P 6 → P 7 → P 8 → P (refusal sig t)
unfolding refusal
term_numbers P sig t taken size odd symbol shape = go (ltb 64 (length t)) (eqb (length t) 0) (eqb (length t % 2) 1) (items_good (length sig) t) (eqb (span sig t 1) (length t))
  where
    go : (a b c d e : Bool) → P (pick a 5 (pick b 6 (pick c 6 (pick d (pick e 0 8) 7))))
    go true b c d e = size
    go false true c d e = odd
    go false false true d e = odd
    go false false false true true = taken
    go false false false true false = shape
    go false false false false e = symbol

-- a number that is 0 or that of a name; 1, TABLE, is left to the test of the lengths
abbrev OfName : ℕ → Type 0
OfName n = (n ≡ 0) ⊎ ((w : Refusal) × (n ≡ number_of w) × (n ≢ 1))

of_name : (w : Refusal) → number_of w ≢ 1 → OfName (number_of w)
of_name w n = inr (w, refl, n)

name_other : (n : ℕ) → OfName n → n ≢ 1
name_other n (inl z) e = omega arith
name_other n (inr h) e = h.2 e

-- an answer that is refused so, or not at all
abbrev Other : Answer → Type 0
Other a = OfName (refusal_in a)

other : (b : Bool) (x y : Answer) → Other x → Other y → Other (pick b x y)
other true x y f g = f
other false x y f g = g

other_signature : (sig : List ℕ) → Other (refused (sig_refusal sig))
other_signature sig = signature_numbers OfName sig (inl refl) (of_name Refusal.Signature (λ z. omega arith))

other_term : (sig t : List ℕ) → Other (refused (refusal sig t))
other_term sig t = term_numbers OfName sig t (inl refl) (of_name Refusal.Size (λ z. omega arith)) (of_name Refusal.Odd (λ z. omega arith)) (of_name Refusal.Symbol (λ z. omega arith)) (of_name Refusal.Shape (λ z. omega arith))

other_recorded : (o : Option (List Bind)) (room : ℕ) → Other (recorded o room)
other_recorded none room = of_name Refusal.Nothing (λ z. omega arith)
other_recorded (some B) room =
    other (long_from (full B) 64 0) _ _ (of_name Refusal.Long (λ z. omega arith)) (other (ltb room (length (record_of (full B)))) _ _ (of_name Refusal.Room (λ z. omega arith)) (inl refl))

-- every call's answer comes after the test of the tables' lengths, gives 1 for nothing else, and no number without a
-- name
pub record Guarded (T : Tables) (r : Result) : Type 0 where
  pub rest : Answer
  pub is : r.answer ≡ guarded T rest
  pub other : Other rest
  -- the tables of a call that is not refused
  pub changed : Tables
  pub left : r.after ≡ unless r.answer T changed

open_guarded : (T : Tables) (sig : List ℕ) → Guarded T (opening T sig)
unfolding opening
open_guarded T sig = record {
  rest = _;
  is = refl;
  other = other (eqb (sig_refusal sig) 0) _ _ (inl refl) (other_signature sig);
  changed = opened_with T sig;
  left = refl;
}

insert_guarded : (T : Tables) (t : List ℕ) → Guarded T (inserting T t)
unfolding inserting insert_answer
insert_guarded T t = let sig = signature_of T.bytes in record {
  rest = _;
  is = refl;
  other = other (eqb (refusal sig t) 0) _ _ (other (ltb (free_slot T.used) slot_count) _ _
      (other (room_for T.link T.label (ups_of sig t) (ends_of sig t)) _ _ (inl refl) (of_name Refusal.Keys (λ z. omega arith))) (of_name Refusal.Full (λ z. omega arith))) (other_term sig t);
  changed = inserted_at T t (free_slot T.used);
  left = refl;
}

delete_guarded : (T : Tables) (s : ℕ) → Guarded T (deleting T s)
unfolding deleting
delete_guarded T s = record {
  rest = _;
  is = refl;
  other = other (is_used T.used s) _ _ (inl refl) (of_name Refusal.Slot (λ z. omega arith));
  changed = deleted_at T s;
  left = refl;
}

ask_guarded : (T : Tables) (k : List ℕ) (room : ℕ) → Guarded T (key_question T k room)
unfolding key_question
ask_guarded T k room = record {
  rest = _;
  is = refl;
  other = other (is_key (signature_of T.bytes) k) _ _ (other (ltb room (2 * length (members (slots_of_key T k)))) _ _ (of_name Refusal.Room (λ z. omega arith)) (inl refl)) (of_name Refusal.Key (λ z. omega arith));
  changed = T;
  left = refl;
}

retrieve_guarded : (T : Tables) (r : ℕ) (q : List ℕ) (room : ℕ) → Guarded T (retrieving T r q room)
unfolding retrieving retrieve_answer
retrieve_guarded T r q room = let sig = signature_of T.bytes in record {
  rest = _;
  is = refl;
  other = other (ltb 4 r) _ _ (of_name Refusal.Relation (λ z. omega arith)) (other (eqb (refusal sig q) 0) _ _
      (other (ltb room (2 * length (answers_of T r q))) _ _ (of_name Refusal.Room (λ z. omega arith)) (inl refl)) (other_term sig q));
  changed = T;
  left = refl;
}

solve_guarded : (T : Tables) (s : ℕ) (q : List ℕ) (room : ℕ) → Guarded T (solving T s q room)
unfolding solving solve_answer
solve_guarded T s q room = let sig = signature_of T.bytes in record {
  rest = _;
  is = refl;
  other = other (is_used T.used s) _ _ (other (eqb (refusal sig q) 0) _ _ (other (eqb (refusal sig (term_of T.bytes s)) 0) _ _
      (other_recorded (bindings? sig (term_of T.bytes s) q) room) (of_name Refusal.Nothing (λ z. omega arith))) (other_term sig q)) (of_name Refusal.Slot (λ z. omega arith));
  changed = T;
  left = refl;
}

pub call_guarded : (T : Tables) (c : Call) → Guarded T (carried T c)
call_guarded T (open_with sig) = open_guarded T sig
call_guarded T (insert t) = insert_guarded T t
call_guarded T (delete s) = delete_guarded T s
call_guarded T (with_key k room) = ask_guarded T k room
call_guarded T (retrieve r q room) = retrieve_guarded T r q room
call_guarded T (solve s q room) = solve_guarded T s q room

-- REFUSAL 1, exactly where a table is short
short : (T : Tables) (r : Result) → Guarded T r → (refusal_in r.answer ≡ 1) ↔ (ample T ≡ false)
short T r g = rw g.is (go (ample T))
  where
    go : (b : Bool) → (refusal_in (pick b g.rest (refused 1)) ≡ 1) ↔ (b ≡ false)
    go true = ((λ z. absurd (name_other (refusal_in g.rest) g.other z)), (λ z. clash (sym z)))
    go false = ((λ z. refl), (λ z. refl))

pub short_exactly : (T : Tables) (c : Call) (out₀ : List ℕ) (o : Outcome) → Called T out₀ c o → (o.refused ≡ 1) ↔ (ample T ≡ false)
short_exactly T c out₀ o d = rw (ap (λ (x : Outcome). x.refused) d.is) (short T (carried T c) (call_guarded T c))

-- A REFUSED CALL CHANGES NOTHING
still : (T S : Tables) (out : List ℕ) (a : Answer) → refusal_in a ≢ 0 → (unless a T S ≡ T) × (sets out 0 (written a) ≡ out)
still T S out (refused n) h = (refl, refl)
still T S out (done a b w) h = absurd (h refl)

pub quiet : (T : Tables) (c : Call) (out₀ : List ℕ) (o : Outcome) → Called T out₀ c o → o.refused ≢ 0 → (o.after ≡ T) × (o.out ≡ out₀)
quiet T c out₀ o d n =
    let g = call_guarded T c in
    let s = still T g.changed out₀ (carried T c).answer (λ z. n (ap (λ (x : Outcome). x.refused) d.is ∙ z)) in
    (ap (λ (x : Outcome). x.after) d.is ∙ g.left ∙ s.0, ap (λ (x : Outcome). x.out) d.is ∙ s.1)

-- A QUESTION CHANGES NO TABLE, refused or not
abbrev pub Asks : Call → Type 0
Asks (open_with sig) = ⊥
Asks (insert t) = ⊥
Asks (delete s) = ⊥
Asks (with_key k room) = Unit {0}
Asks (retrieve r q room) = Unit {0}
Asks (solve s q room) = Unit {0}

either_way : (a : Answer) (T : Tables) → unless a T T ≡ T
either_way (refused n) T = refl
either_way (done a b w) T = refl

asks_left : (T : Tables) (c : Call) → Asks c → (carried T c).after ≡ T
unfolding key_question retrieving solving
asks_left T (open_with sig) h = absurd h
asks_left T (insert t) h = absurd h
asks_left T (delete s) h = absurd h
asks_left T (with_key k room) h = either_way (key_question T k room).answer T
asks_left T (retrieve r q room) h = either_way (retrieving T r q room).answer T
asks_left T (solve s q room) h = either_way (solving T s q room).answer T

pub asks_quiet : (T : Tables) (c : Call) (out₀ : List ℕ) (o : Outcome) → Called T out₀ c o → Asks c → o.after ≡ T
asks_quiet T c out₀ o d h = ap (λ (x : Outcome). x.after) d.is ∙ asks_left T c h

-- EVERY OUTCOME IS ONE THAT A FUNCTION CAN ANSWER: its number is 0 or a name's
reply_for : (a : Answer) (S : Tables) (out : List ℕ) → (refusal_in a ≡ 0) ⊎ ((w : Refusal) × (refusal_in a ≡ number_of w))
    → (r : Reply) × (outcome r S out ≡ record { refused = refusal_in a; first = first_in a; second = second_in a; after = S; out = out })
reply_for (done x y w) S out h = (Ok (record { first = x; second = y }), refl)
reply_for (refused n) S out (inl z) = (Ok (record { first = 0; second = 0 }), rw z)
reply_for (refused n) S out (inr h) = (Err h.0, rw h.1)

answer_of_name : (T : Tables) (c : Call) → (refusal_in (carried T c).answer ≡ 0) ⊎ ((w : Refusal) × (refusal_in (carried T c).answer ≡ number_of w))
answer_of_name T c = let g = call_guarded T c in rw g.is (go (ample T) g.rest g.other)
  where
    go : (b : Bool) (a : Answer) → Other a → (refusal_in (pick b a (refused 1)) ≡ 0) ⊎ ((w : Refusal) × (refusal_in (pick b a (refused 1)) ≡ number_of w))
    go false a h = inr (Refusal.Table, refl)
    go true a (inl z) = inl z
    go true a (inr h) = inr (h.0, h.1)

pub outcome_replied : (T : Tables) (c : Call) (out₀ : List ℕ) (o : Outcome) → Called T out₀ c o
    → (r : Reply) × (outcome r o.after o.out ≡ o)
outcome_replied T c out₀ o d = rw d.is (reply_for (carried T c).answer (carried T c).after (sets out₀ 0 (written (carried T c).answer)) (answer_of_name T c))
