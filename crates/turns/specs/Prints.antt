-- SCOPE.md, 'The log program', over a whole input: the turns one after another print just what `printed` says.
use Rattle.std.specs.Prelude.{ℕ, zero, suc, ◌+◌, ◌-◌, ◌*◌, ◌/◌, ◌≤◌, ◌<◌, min, ◌≡◌, refl, Bool, true, false, List, [], ◌∷◌, ◌++◌, ltb, eqb, length, get_or, take, drop, replicate}
use Rattle.std.proofs.Common.{sym, ap, ◌∙◌, arith}
use Rattle.std.proofs.Math.Option.{Option, some, none}
use Rattle.std.proofs.Math.Decide.{dec_lt}
use borrow.Author.Tests.{eqb-true, eqb-false, eq-eqb, ne_eqb, lt-ltb, le-ltb, ltb-false, lt-leb}
use Rattle.std.proofs.lemmas.List.{length-replicate}
use Rattle.std.proofs.lemmas.List.Edits.{sets}
use Rattle.std.proofs.Math.Seq.{length-sets, take-append_seam}
use Rattle.laws.specs.Choice.{pick, chosen}
use Rattle.laws.specs.Sizes.{input_limit, answer_room, line_room, key_limit, slot_count}
use Rattle.listing.proofs.Listing.{length_listed}
use Rattle.terms.specs.Terms.{sig_refusal, refusal}
use Rattle.theory.specs.Unify.{Bind, full}
use Rattle.definitions.specs.Records.{record_of}
use Rattle.definitions.specs.Decisions.{bindings?}
use Rattle.definitions.specs.Answers.{Answer, refused, done, refusal_in, first_in, second_in, written, unless, recorded}
use Rattle.definitions.specs.Answers.{long_from}
use Rattle.layout.specs.Tables.{Tables, ample}
use Rattle.calls.specs.Outcome.{told}
use Rattle.library.specs.Store.{Store, open_with, in_use, first_free, put, key_count, answers, solving_held}
use Rattle.library.specs.Store.{answered, empty, after}
use Rattle.store.specs.Calls.{opening}
use Rattle.meaning.specs.Runs.{carried, Called}
use Rattle.meaning.specs.Stand.{Stand}
use Rattle.meaning.specs.CallsMean.{call_means}
use Rattle.meaning.specs.Changing.{signature_two}
use Rattle.meaning.specs.Opening.{open_number, open_run}
use Rattle.meaning.specs.Told.{front_bytes}
use Rattle.logfields.specs.declared.field.Field.{Field}
use Rattle.logfields.specs.declared.field.Field.TheVariants.{End, Cut, Whole}
use Rattle.logfields.specs.Fields.{field_at, length_at}
use Rattle.logfields.specs.Reading.{place_after, taken_at, field_before, fields_from, fields_of}
use Rattle.lines.specs.Lines.{Put, refused_line, plain_line}
use Rattle.logfields.proofs.Fields.{field_end, taken_onward}
use Rattle.logfields.proofs.Reading.{next_first}
use Rattle.tasks.specs.Operations.{Operation, to_open, to_insert, to_delete, to_retrieve, to_solve, first_operation}
use Rattle.tasks.specs.Operations.{delete_operation, retrieve_operation, solve_operation, later_operation, payload}
use Rattle.tasks.specs.Operations.{operation_in}
use Rattle.tasks.specs.Ordered.{operation_at, place_past}
use Rattle.answerlines.specs.Words.{word_of}
use Rattle.turns.specs.Printed.{library_call, log, store_after, line_then, later_lines, unless_refused}
use Rattle.turns.specs.Printed.{unopened, first_lines, lines_of, done_text, answer_text, text_of, text_of_all, printed}
use Rattle.turns.specs.Turns.{result_of, told_bytes, line_of, stops_after, made_at, line_at, next_at, Turned}
use Rattle.turns.specs.LongestLine.{answer_fits, log_fits}

-- THE PROGRAM'S LOOP: turns from a place on until the input's end, each with the promise of `turns::turn`; what is
-- shown of each is the first bytes of its line buffer, as many as it says. T and out are the tables and the answer
-- buffer before, `text` is all that is shown
pub data Shown (s : List ℕ) : ℕ → Tables → List ℕ → List ℕ → Type 0 where
  ended : (at : ℕ) (T : Tables) (out : List ℕ) → length s ≤ at → Shown s at T out []
  turning : (at : ℕ) (T : Tables) (out line₀ : List ℕ) (S : Tables) (out' line : List ℕ) (length' next : ℕ)
      (text : List ℕ)
      → at < length s → length line₀ ≡ line_room → Turned s at T out line₀ S out' line length' next
      → Shown s next S out' text → Shown s at T out (take length' line ++ text)

-- WHAT AN ANSWER'S BYTES ARE: a refusal has a number, a listing two bytes a slot, a record the length that is told
abbrev AnswerBytes : ℕ → Operation → Answer → Type 0
AnswerBytes room c (refused n) = n ≡ 0 → ⊥
AnswerBytes room (to_open sig) (done a b w) = Unit {0}
AnswerBytes room (to_insert t) (done a b w) = Unit {0}
AnswerBytes room (to_delete s) (done a b w) = Unit {0}
AnswerBytes room (to_retrieve r q) (done a b w) = (length w ≡ 2 * b) × (length w ≤ room)
AnswerBytes room (to_solve s q) (done a b w) = (length w ≡ b) × (length w ≤ room)

recorded_shape : (s room : ℕ) (q : List ℕ) (B : Option (List Bind)) → AnswerBytes room (to_solve s q) (recorded B room)
recorded_shape s room q none = λ z. omega arith
recorded_shape s room q (some B) =
    chosen (AnswerBytes room (to_solve s q)) (long_from (full B) 64 0) _ _ (λ e z. omega arith) (λ e.
    chosen (AnswerBytes room (to_solve s q)) (ltb room (length (record_of (full B)))) _ _ (λ f z. omega arith) (λ f.
    (refl, ltb-false room (length (record_of (full B))) f)))

solving_shape : (sig : List ℕ) (s room : ℕ) (q : List ℕ) (o : Option (List ℕ)) → AnswerBytes room (to_solve s q) (solving_held sig o q room)
solving_shape sig s room q none = λ z. omega arith
solving_shape sig s room q (some t) =
    chosen (AnswerBytes room (to_solve s q)) (eqb (refusal sig q) 0) _ _ (λ e. recorded_shape s room q (bindings? sig t q)) (λ e. eqb-false (refusal sig q) 0 e)

answered_shape : (room : ℕ) (st : Store) (c : Operation) → AnswerBytes room c (answered st (library_call room c))
unfolding answered
answered_shape room st (to_open sig) = chosen (AnswerBytes room (to_open sig)) (eqb (sig_refusal sig) 0) _ _ (λ e. tt) (λ e z. omega arith)
answered_shape room st (to_insert t) =
    chosen (AnswerBytes room (to_insert t)) (eqb (refusal st.signature t) 0) _ _ (λ e.
    chosen (AnswerBytes room (to_insert t)) (eqb (first_free st) slot_count) _ _ (λ f z. omega arith) (λ f.
    chosen (AnswerBytes room (to_insert t)) (ltb key_limit (key_count (put st (first_free st) (some t)))) _ _ (λ g z. omega arith) (λ g. tt)))
    (λ e. eqb-false (refusal st.signature t) 0 e)
answered_shape room st (to_delete s) = chosen (AnswerBytes room (to_delete s)) (in_use st s) _ _ (λ e. tt) (λ e z. omega arith)
answered_shape room st (to_retrieve r q) =
    chosen (AnswerBytes room (to_retrieve r q)) (ltb 4 r) _ _ (λ e z. omega arith) (λ e.
    chosen (AnswerBytes room (to_retrieve r q)) (eqb (refusal st.signature q) 0) _ _ (λ f.
    chosen (AnswerBytes room (to_retrieve r q)) (ltb room (2 * length (answers st r q))) _ _ (λ g z. omega arith) (λ g.
    (length_listed (answers st r q), omega (arith, length_listed (answers st r q), ltb-false room (2 * length (answers st r q)) g))))
    (λ f. eqb-false (refusal st.signature q) 0 f))
answered_shape room st (to_solve s q) =
    chosen (AnswerBytes room (to_solve s q)) (in_use st s) _ _ (λ e. solving_shape st.signature s room q (st.held s)) (λ e z. omega arith)

-- THE LINE of an answer, from what came out of its call
take_front : (w out : List ℕ) (n : ℕ) → length w ≤ length out → n ≡ length w → take n (sets out 0 w) ≡ w
take_front w out n h e = rw (e, front_bytes w out h) (take-append_seam w (drop (length w) out))

abbrev told_text : Operation → Answer → List ℕ → List ℕ
told_text c a out =
    pick (eqb (refusal_in a) 0) (done_text c (first_in a) (second_in a) (told_bytes c (second_in a) (sets out 0 (written a))))
    (refused_line (word_of c) (refusal_in a))

told_done : (c : Operation) (a b : ℕ) (w out : List ℕ) → AnswerBytes (length out) c (done a b w) → done_text c a b (told_bytes c b (sets out 0 w)) ≡ done_text c a b w
told_done (to_open sig) a b w out g = refl
told_done (to_insert t) a b w out g = refl
told_done (to_delete s) a b w out g = refl
told_done (to_retrieve r q) a b w out g =
    let n = length-sets out 0 w in
    ap (done_text (to_retrieve r q) a b) (take_front w out (min b (length (sets out 0 w) / 2) * 2) g.1 (omega (arith, g.0, g.1, n)))
told_done (to_solve s q) a b w out g =
    let n = length-sets out 0 w in
    ap (done_text (to_solve s q) a b) (take_front w out (min b (length (sets out 0 w))) g.1 (omega (arith, g.0, g.1, n)))

told_is : (c : Operation) (a : Answer) (out : List ℕ) → AnswerBytes (length out) c a → told_text c a out ≡ answer_text c a
told_is c (refused n) out g = rw (ne_eqb n 0 g)
told_is c (done a b w) out g = told_done c a b w out g

line_answer : (T : Tables) (st : Store) (c : Operation) (out : List ℕ) → Stand T st → length out ≡ answer_room → line_of (some c) (told out (carried T (library_call (length out) c))) ≡ answer_text c (answered st (library_call answer_room c))
line_answer T st c out h room =
    ap (λ (a : Answer). told_text c a out) (call_means T st (library_call (length out) c) h).answer
    ∙ (told_is c (answered st (library_call (length out) c)) out (answered_shape (length out) st c) ∙ ap (λ (k : ℕ). answer_text c (answered st (library_call k c))) room)

stand_after : (T : Tables) (st : Store) (c : Operation) (room : ℕ) → room ≡ answer_room → Stand T st → Stand (carried T (library_call room c)).after (after st (library_call answer_room c))
stand_after T st c room e h = rw e (call_means T st (library_call answer_room c) h).stand

-- A TURN that shows a whole line
line_shown : (line₀ line text : List ℕ) (n : ℕ) → length line₀ ≡ line_room → Put line₀ line 0 text n → length text ≤ line_room → take n line ≡ text
line_shown line₀ line text n e p h = rw p.line_is (take_front text line₀ n (omega arith) (omega (arith, p.next_is)))

-- nothing is shown past the end
shown_end : (s : List ℕ) (at : ℕ) (T : Tables) (out text : List ℕ) → Shown s at T out text → length s ≤ at → text ≡ []
shown_end s at T out text (ended a U o h) l = refl
shown_end s at T out text (turning a U o line₀ S out' line n next rest h e t r) l = absurd (omega arith)

-- THE FIELDS that are left
not_end : (s : List ℕ) (at : ℕ) → at < length s → field_at s at ≡ End → ⊥
unfolding field_at
not_end s at h e = go (ltb (length s - at) 3) (ltb (length s - at - 3) (length_at s at)) (rw (lt-leb (length s) at h) at e)
  where
    go : (a b : Bool) → pick a Cut (pick b Cut (Whole (get_or s at 0) (at + 3) (length_at s at))) ≡ End → ⊥
    go true b q = let z : ◌≡◌ {A = ℕ} 0 1 = cc in omega arith
    go false true q = let z : ◌≡◌ {A = ℕ} 0 1 = cc in omega arith
    go false false q = let z : ◌≡◌ {A = ℕ} 0 1 = cc in omega arith

before_some : (f : Field) (fs : List Field) → (f ≡ End → ⊥) → field_before f fs ≡ f ∷ fs
unfolding field_before
before_some End fs n = absurd (n refl)
before_some Cut fs n = refl
before_some (Whole tag start k) fs n = refl

fields_more : (s : List ℕ) (at : ℕ) → at < length s → fields_from s at ≡ field_at s at ∷ fields_from s (place_after s at)
fields_more s at h = next_first s at ∙ before_some (field_at s at) (fields_from s (place_after s at)) (not_end s at h)

before_end : (fs : List Field) → field_before End fs ≡ []
unfolding field_before
before_end fs = refl

fields_none : (s : List ℕ) (at : ℕ) → length s ≤ at → fields_from s at ≡ []
fields_none s at h = next_first s at ∙ (rw (← field_end s at h) (before_end _))

-- a turn goes on, and within the log
pub next_onward : (s : List ℕ) (at : ℕ) (T : Tables) (out : List ℕ) → at < length s
    → (at < next_at s at T out) × (next_at s at T out ≤ length s)
unfolding place_past
next_onward s at T out h =
    chosen (λ (n : ℕ). (at < n) × (n ≤ length s)) (stops_after (operation_at s at) (made_at s at T out).refused) _ _ (λ e. (h, omega arith)) (λ e.
    chosen (λ (n : ℕ). (at < n) × (n ≤ length s)) (ltb input_limit (length s)) _ _ (λ f. (h, omega arith)) (λ f.
    let w = taken_onward s at (taken_at s at) h refl in (w.on, w.in_log)))

pub turned_onward : (s : List ℕ) (at : ℕ) (T : Tables) (out line₀ : List ℕ) (S : Tables) (out' line : List ℕ)
    (n next : ℕ)
    → Turned s at T out line₀ S out' line n next → at < length s → (at < next) × (next ≤ length s)
turned_onward s at T out line₀ S out' line n next t h = let w = next_onward s at T out h in (omega (arith, t.place, w.0), omega (arith, t.place, w.1))

-- WHICH OPERATION the turn makes
module _ (s : List ℕ) (at : ℕ) (short : length s ≤ input_limit) where
  call_first : at ≡ 0 → operation_at s at ≡ operation_in true s (field_at s at)
  unfolding operation_at
  call_first z = rw (le-ltb input_limit (length s) short, eq-eqb at 0 z)

  call_later : (at ≡ 0 → ⊥) → operation_at s at ≡ operation_in false s (field_at s at)
  unfolding operation_at
  call_later z = rw (le-ltb input_limit (length s) short, ne_eqb at 0 z)

  past_is : place_past s at ≡ place_after s at
  unfolding place_past
  past_is = rw (le-ltb input_limit (length s) short)

-- no field after the first opens, and the first does nothing else
abbrev NotOpen : Option Operation → Type 0
NotOpen none = Unit {0}
NotOpen (some (to_open sig)) = ⊥
NotOpen (some (to_insert t)) = Unit {0}
NotOpen (some (to_delete s)) = Unit {0}
NotOpen (some (to_retrieve r q)) = Unit {0}
NotOpen (some (to_solve s q)) = Unit {0}

delete_not : (p : List ℕ) → NotOpen (delete_operation p)
delete_not [] = tt
delete_not (h ∷ []) = tt
delete_not (h ∷ l ∷ []) = tt
delete_not (h ∷ l ∷ m ∷ p) = tt

retrieve_not : (p : List ℕ) → NotOpen (retrieve_operation p)
retrieve_not [] = tt
retrieve_not (r ∷ q) = tt

solve_not : (p : List ℕ) → NotOpen (solve_operation p)
solve_not [] = tt
solve_not (h ∷ []) = tt
solve_not (h ∷ l ∷ q) = tt

later_not : (s : List ℕ) (f : Field) → NotOpen (operation_in false s f)
unfolding later_operation
later_not s End = tt
later_not s Cut = tt
later_not s (Whole tag start n) =
    let p = payload s start n in
    chosen NotOpen (eqb tag 2) _ _ (λ e. tt) (λ e.
    chosen NotOpen (eqb tag 3) _ _ (λ e. delete_not p) (λ e.
    chosen NotOpen (eqb tag 4) _ _ (λ e. retrieve_not p) (λ e.
    chosen NotOpen (eqb tag 5) _ _ (λ e. solve_not p) (λ e. tt))))

goes_on : (c : Operation) (n : ℕ) → NotOpen (some c) → stops_after (some c) n ≡ false
goes_on (to_open sig) n h = absurd h
goes_on (to_insert t) n h = refl
goes_on (to_delete s) n h = refl
goes_on (to_retrieve r q) n h = refl
goes_on (to_solve s q) n h = refl

abbrev OnlyOpen : Option Operation → Type 0
OnlyOpen none = Unit {0}
OnlyOpen (some c) = (sig : List ℕ) × (c ≡ to_open sig)

first_only : (s : List ℕ) (f : Field) → OnlyOpen (operation_in true s f)
unfolding first_operation
first_only s End = tt
first_only s Cut = tt
first_only s (Whole tag start n) = chosen OnlyOpen (eqb tag 1) _ _ (λ e. (payload s start n, refl)) (λ e. tt)

-- A TURN WITHOUT A CALL is the last, and shows LOG
module _ (s : List ℕ) (at : ℕ) (T : Tables) (out line₀ : List ℕ) (S : Tables) (out' line : List ℕ) (n next : ℕ) (rest : List ℕ)
    (e : length line₀ ≡ line_room) (t : Turned s at T out line₀ S out' line n next) (r : Shown s next S out' rest) where
  log_shown : operation_at s at ≡ none → take n line ++ rest ≡ text_of log ++ []
  log_shown c =
      let l : line_at s at T out ≡ text_of log = rw c in
      let a : take n line ≡ text_of log = line_shown line₀ line (text_of log) n e (rw l at t.text) log_fits in
      let b : next ≡ length s = t.place ∙ rw c refl in
      let d : rest ≡ [] = shown_end s next S out' rest r (omega arith) in
      rw (a, d) refl

  -- a turn with a call shows its line
  call_shown : (c : Operation) (text : List ℕ) → operation_at s at ≡ some c → line_of (some c) (told out (carried T (library_call (length out) c))) ≡ text → length text ≤ line_room → take n line ≡ text
  call_shown c text k m h =
      let l : line_at s at T out ≡ text = rw k m in
      line_shown line₀ line text n e (rw l at t.text) h

  tables_after : (c : Operation) → operation_at s at ≡ some c → S ≡ (carried T (library_call (length out) c)).after
  tables_after c k = t.tables ∙ rw k refl

  room_after_lem : length out' ≡ length out
  room_after_lem = ap length t.buffer ∙ length-sets out 0 (written (result_of (length out) T (operation_at s at)).answer)

  next_after : (c : Operation) → operation_at s at ≡ some c → stops_after (some c) (refusal_in (carried T (library_call (length out) c)).answer) ≡ false → next ≡ place_past s at
  next_after c k h = t.place ∙ rw (k, h) refl

  next_stops : (c : Operation) → operation_at s at ≡ some c → stops_after (some c) (refusal_in (carried T (library_call (length out) c)).answer) ≡ true → next ≡ length s
  next_stops c k h = t.place ∙ rw (k, h) refl

-- THE FIELDS AFTER THE SIGNATURE
later_prints : (s : List ℕ) → length s ≤ input_limit → (at : ℕ) (T : Tables) (out text : List ℕ) (st : Store) → Shown s at T out text → (at ≡ 0 → ⊥) → Stand T st → length out ≡ answer_room
    → text ≡ text_of_all (later_lines s st (fields_from s at))
unfolding later_lines text_of_all
later_prints s short at T out text st (ended a U o h) z d room = rw (fields_none s at h) refl
later_prints s short at T out text st (turning a U o line₀ S out' line n next rest h e t r) z d room =
    rw (fields_more s at h) (go (λ u y x v. later_prints s short next S out' rest u r y x v) (operation_in false s (field_at s at)) refl (later_not s (field_at s at)))
  where
    go : ((u : Store) → (next ≡ 0 → ⊥) → Stand S u → length out' ≡ answer_room → rest ≡ text_of_all (later_lines s u (fields_from s next)))
        → (c : Option Operation) → operation_in false s (field_at s at) ≡ c → NotOpen c
        → take n line ++ rest ≡ text_of_all (line_then st c (later_lines s (store_after st c) (fields_from s (place_after s at))))
    go again none q o = log_shown s at T out line₀ S out' line n next rest e t r (call_later s at short z ∙ q)
    go again (some c) q o =
        let k : operation_at s at ≡ some c = call_later s at short z ∙ q in
        let b : take n line ≡ answer_text c (answered st (library_call answer_room c)) =
        call_shown s at T out line₀ S out' line n next rest e t r c (answer_text c (answered st (library_call answer_room c))) k (line_answer T st c out d room) (answer_fits st c) in
        let p : next ≡ place_after s at = next_after s at T out line₀ S out' line n next rest e t r c k (goes_on c (refusal_in (carried T (library_call (length out) c)).answer) o) ∙ past_is s at short in
        let w = taken_onward s at (taken_at s at) h refl in
        let i = again (after st (library_call answer_room c)) (λ y. omega (arith, w.on))
        (rw (tables_after s at T out line₀ S out' line n next rest e t r c k) (stand_after T st c (length out) room d))
        (room_after_lem s at T out line₀ S out' line n next rest e t r ∙ room) in
        rw (b, i, p) refl

-- THE SIGNATURE
module _ (T : Tables) (sig : List ℕ) (a : ample T ≡ true) where
  opens : Called T [] (open_with sig) (told [] (opening T sig))
  opens = record { room = refl; is = refl }

  opens_number : refusal_in (opening T sig).answer ≡ sig_refusal sig
  opens_number = open_number T sig [] (told [] (opening T sig)) a opens

  opens_stand : sig_refusal sig ≡ 0 → Stand (opening T sig).after (empty sig)
  opens_stand z = open_run T sig [] (told [] (opening T sig)) opens (opens_number ∙ z)

signature_line : (sig : List ℕ) → pick (eqb (sig_refusal sig) 0) (plain_line (word_of (to_open sig))) (refused_line (word_of (to_open sig)) (sig_refusal sig)) ≡ answer_text (to_open sig) (answered unopened (open_with sig))
unfolding answered
signature_line sig = go (eqb (sig_refusal sig) 0) refl
  where
    go : (b : Bool) → eqb (sig_refusal sig) 0 ≡ b → pick b (plain_line (word_of (to_open sig))) (refused_line (word_of (to_open sig)) (sig_refusal sig)) ≡ answer_text (to_open sig) (pick b (done 0 0 []) (refused 2))
    go true e = refl
    go false e = ap (refused_line (word_of (to_open sig))) (signature_two sig (eqb-false (sig_refusal sig) 0 e))

first_prints : (s : List ℕ) → length s ≤ input_limit → (at : ℕ) (T : Tables) (out text : List ℕ) → Shown s at T out text → at ≡ 0 → ample T ≡ true → length out ≡ answer_room
    → text ≡ text_of_all (first_lines s (fields_from s at))
unfolding first_lines text_of_all answered after
first_prints s short at T out text (ended a U o h) z d room = rw (fields_none s at h) refl
first_prints s short at T out text (turning a U o line₀ S out' line n next rest h e t r) z d room =
    rw (fields_more s at h) (go (operation_in true s (field_at s at)) refl (first_only s (field_at s at)))
  where
    opened : (sig : List ℕ) → operation_at s at ≡ some (to_open sig) → (b : Bool) → eqb (sig_refusal sig) 0 ≡ b
        → rest ≡ text_of_all (unless (pick b (done 0 0 []) (refused 2)) [] (later_lines s (unless (pick b (done 0 0 []) (refused 2)) unopened (empty sig)) (fields_from s (place_after s at))))
    opened sig k true f =
        let y : sig_refusal sig ≡ 0 = eqb-true (sig_refusal sig) 0 f in
        let m : eqb (refusal_in (opening T sig).answer) 0 ≡ true = rw (opens_number T sig d) f in
        let p : next ≡ place_after s at = next_after s at T out line₀ S out' line n next rest e t r (to_open sig) k (rw m refl) ∙ past_is s at short in
        let w = taken_onward s at (taken_at s at) h refl in
        let i = later_prints s short next S out' rest (empty sig) r (λ q. omega (arith, w.on)) (rw (tables_after s at T out line₀ S out' line n next rest e t r (to_open sig) k) (opens_stand T sig d y)) (room_after_lem s at T out line₀ S out' line n next rest e t r ∙ room) in
        rw (i, p) refl
    opened sig k false f =
        let m : eqb (refusal_in (opening T sig).answer) 0 ≡ false = rw (opens_number T sig d) f in
        let p : next ≡ length s = next_stops s at T out line₀ S out' line n next rest e t r (to_open sig) k (rw m refl) in
        shown_end s next S out' rest r (omega arith)

    go : (c : Option Operation) → operation_in true s (field_at s at) ≡ c → OnlyOpen c
        → take n line ++ rest ≡ text_of_all (line_then unopened c (unless_refused unopened c (later_lines s (store_after unopened c) (fields_from s (place_after s at)))))
    go none q o = log_shown s at T out line₀ S out' line n next rest e t r (call_first s at short z ∙ q)
    go (some c) q o =
        let sig = o.0 in
        let k : operation_at s at ≡ some (to_open sig) = call_first s at short z ∙ (q ∙ ap (λ x. some x) o.1) in
        let m : line_of (some (to_open sig)) (told out (carried T (open_with sig))) ≡ answer_text (to_open sig) (answered unopened (open_with sig)) = rw (opens_number T sig d) (signature_line sig) in
        let b : take n line ≡ answer_text (to_open sig) (answered unopened (open_with sig)) =
        call_shown s at T out line₀ S out' line n next rest e t r (to_open sig) _ k m (answer_fits unopened (to_open sig)) in
        rw (o.1, b, opened sig k (eqb (sig_refusal sig) 0) refl) refl

no_call : (s : List ℕ) (at : ℕ) → input_limit < length s → operation_at s at ≡ none
unfolding operation_at
no_call s at h = rw (lt-ltb input_limit (length s) h)

only_log : text_of_all (log ∷ []) ≡ text_of log ++ []
unfolding text_of_all
only_log = refl

long_prints : (s : List ℕ) (at : ℕ) (T : Tables) (out text : List ℕ) → input_limit < length s → Shown s at T out text → at ≡ 0 → text ≡ text_of log ++ []
long_prints s at T out text h (ended x U o l) z = absurd (omega arith)
long_prints s at T out text h (turning x U o line₀ S out' line n next rest l e t r) z = log_shown s at T out line₀ S out' line n next rest e t r (no_call s at h)

-- THE PROGRAM PRINTS `printed` of its input, from any memory that is long enough
pub prints : (s : List ℕ) (T : Tables) (out text : List ℕ) → ample T ≡ true → length out ≡ answer_room
    → Shown s 0 T out text → text ≡ printed s
unfolding printed lines_of
prints s T out text a room w = go (dec_lt input_limit (length s))
  where
    go : Dec (input_limit < length s) → text ≡ text_of_all (pick (ltb input_limit (length s)) (log ∷ []) (first_lines s (fields_of s)))
    go (yes h) = rw (lt-ltb input_limit (length s) h) (long_prints s 0 T out text h w refl ∙ sym (only_log))
    go (no h) = rw (le-ltb input_limit (length s) (omega arith)) (first_prints s (omega arith) 0 T out text w refl a room)

-- EVERY LOG HAS its turns, on all tables and buffers: the program ends
shown_from : (k : ℕ) (s : List ℕ) (at : ℕ) (T : Tables) (out : List ℕ) → length s - at ≤ k → (text : List ℕ) × Shown s at T out text
shown_from zero s at T out h = ([], ended at T out (omega arith))
shown_from (suc k) s at T out h = go (dec_lt at (length s)) (λ l. shown_from k s (next_at s at T out) (made_at s at T out).after (made_at s at T out).out l)
  where
    blank : List ℕ
    blank = replicate line_room 0

    n : ℕ
    n = min (0 + length (line_at s at T out)) (length blank)

    go : Dec (at < length s) → (length s - next_at s at T out ≤ k → (text : List ℕ) × Shown s (next_at s at T out) (made_at s at T out).after (made_at s at T out).out text)
        → (text : List ℕ) × Shown s at T out text
    go (no l) again = ([], ended at T out (omega arith))
    go (yes l) again =
        let w = next_onward s at T out l in
        let r = again (omega (arith, w.0)) in (
          take n (sets blank 0 (line_at s at T out)) ++ r.0,
          turning at T out blank (made_at s at T out).after (made_at s at T out).out (sets blank 0 (line_at s at T out)) n (next_at s at T out) r.0 l (length-replicate {A = ℕ} line_room 0)
              (record { tables = refl; buffer = refl; text = record { line_is = refl; next_is = refl }; place = refl })
              r.1,
        )

pub every_log : (s : List ℕ) (T : Tables) (out : List ℕ) → (text : List ℕ) × Shown s 0 T out text
every_log s T out = shown_from (length s) s 0 T out (omega arith)

-- too long an input is read up to one byte over the limit, and prints what it would print whole
pub long_alike : (s t : List ℕ) → input_limit < length s → input_limit < length t → printed s ≡ printed t
unfolding printed lines_of
long_alike s t h g = rw (lt-ltb input_limit (length s) h, lt-ltb input_limit (length t) g) refl
