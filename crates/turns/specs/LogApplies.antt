-- SCOPE.md, 'The log program': when refusal 16, LOG, applies, in the document's words; that its line is printed exactly
-- then; and that it is the last line.
use Rattle.std.specs.Prelude.{ℕ, zero, suc, ◌+◌, ◌-◌, ◌≤◌, ◌<◌, ◌≡◌, refl, ◌⊎◌, ◌↔◌, Bool, true, false, List, [], ◌∷◌, ◌++◌, ltb, eqb, length, get_or, drop}
use Rattle.std.proofs.Math.Decide.{ℕ_discrete}
use Rattle.std.proofs.Common.{arith, sym, ap, ◌∙◌, inl, inr, ⊎_elim, length-take, length-drop, lt-ltb, ltb-true, ltb-false, eqb-true}
use Rattle.std.proofs.Math.Option.{Option, some, none}
use Rattle.std.proofs.lemmas.Bool.{eqb-false}
use Rattle.laws.specs.Choice.{pick, chosen}
use Rattle.laws.specs.Members.{In}
use Rattle.laws.specs.Sizes.{input_limit, answer_room}
use Rattle.terms.specs.Terms.{sig_refusal}
use Rattle.definitions.specs.Answers.{Answer, refused, done, unless}
use Rattle.library.specs.Store.{Store, open_with, answered}
use Rattle.logfields.specs.Fields.{field_at}
use Rattle.lines.specs.Lines.{digits, decimal, plain_line, refused_line, slot_line, found_line, solved_line}
use Rattle.logfields.specs.Reading.{place_after, field_before, fields_within, fields_from, fields_of, field_or}
use Rattle.logfields.specs.declared.field.Field.{Field}
use Rattle.logfields.specs.declared.field.Field.TheVariants.{End, Cut, Whole}
use Rattle.logfields.proofs.Fields.{field_inside}
use Rattle.tasks.specs.Operations.{Operation, to_open, to_insert, to_delete, to_retrieve, to_solve, first_operation}
use Rattle.tasks.specs.Operations.{delete_operation, retrieve_operation, solve_operation, later_operation, payload}
use Rattle.tasks.specs.Operations.{operation_in}
use Rattle.answerlines.specs.Words.{word_of}
use Rattle.turns.specs.Printed.{library_call, Line, answer, log, store_after, line_then, later_lines, unless_refused}
use Rattle.turns.specs.Printed.{unopened, first_lines, lines_of, text_of, answer_text}

-- a whole field, number i of its log, with this tag and a payload of n bytes, that LOG is printed for
pub data Wrong (i tag n : ℕ) : Type 0 where
  -- 'for an unknown tag'
  unknown : (tag ≡ 0) ⊎ (5 < tag) → Wrong i tag n
  -- 'a first field that is not tag 1'
  not_signature : i ≡ 0 → (tag ≡ 1 → ⊥) → Wrong i tag n
  -- 'or a later field that is tag 1, whatever its payload'
  signature_again : 0 < i → tag ≡ 1 → Wrong i tag n
  -- 'for a payload whose fixed part is missing (tag 4 without a byte,
  no_relation : tag ≡ 4 → n ≡ 0 → Wrong i tag n
  -- tag 5 with fewer than two)'
  no_slot : tag ≡ 5 → n < 2 → Wrong i tag n
  -- 'or for tag 3 one that is not exactly two bytes'
  not_two : tag ≡ 3 → (n ≡ 2 → ⊥) → Wrong i tag n

-- 'a cut field'; past the last one there is no field
abbrev pub Faulty : ℕ → Field → Type 0
Faulty i End = ⊥
Faulty i Cut = Unit {0}
Faulty i (Whole tag start n) = Wrong i tag n

-- 'a whole first field with a bad signature .. also stops the program'
abbrev pub RefusedSignature : List ℕ → Field → Type 0
RefusedSignature s End = ⊥
RefusedSignature s Cut = ⊥
RefusedSignature s (Whole tag start n) = (tag ≡ 1) × (sig_refusal (payload s start n) ≡ 0 → ⊥)

abbrev pub SignatureRefused : List ℕ → Type 0
SignatureRefused s = RefusedSignature s (field_or (fields_of s) 0)

-- LOG applies: 'for an input of over 65,535 bytes, whatever it holds', or for a faulty field where no refused signature
-- has stopped the program
abbrev pub LogApplies : List ℕ → Type 0
LogApplies s = (input_limit < length s) ⊎ ((i : ℕ) × Faulty i (field_or (fields_of s) i) × (SignatureRefused s → ⊥))

-- THE FIELDS of an input lie within it, and none is the end
abbrev pub Lies : List ℕ → Field → Type 0
Lies s End = ⊥
Lies s Cut = Unit {0}
Lies s (Whole tag start n) = start + n ≤ length s

abbrev pub AllLie : List ℕ → List Field → Type 0
AllLie s [] = Unit {0}
AllLie s (f ∷ fs) = Lies s f × AllLie s fs

before_lies : (s : List ℕ) (at : ℕ) (f : Field) (fs : List Field) → f ≡ field_at s at → AllLie s fs
    → AllLie s (field_before f fs)
unfolding field_before
before_lies s at End fs e h = tt
before_lies s at Cut fs e h = (tt, h)
before_lies s at (Whole tag start n) fs e h = ((field_inside s at tag start n (sym e)).within, h)

within_lie : (k : ℕ) (s : List ℕ) (at : ℕ) → AllLie s (fields_within k s at)
unfolding fields_within
within_lie zero s at = tt
within_lie (suc k) s at =
    before_lies s at (field_at s at) (fields_within k s (place_after s at)) refl (within_lie k s (place_after s at))

pub fields_lie : (s : List ℕ) → AllLie s (fields_of s)
unfolding fields_from
fields_lie s = within_lie (length s - 0) s 0

payload_length : (s : List ℕ) (start n : ℕ) → start + n ≤ length s → length (payload s start n) ≡ n
payload_length s start n h = omega (arith, h, length-take n (drop start s), length-drop start s)

-- THE CALL of a field: there is none exactly where the field is faulty
abbrev pub Verdict : ℕ → Field → Option Operation → Type 0
Verdict i f none = Faulty i f
Verdict i f (some c) = Faulty i f → ⊥

-- a later field of a known tag is right where its payload is
right_insert : (i tag n : ℕ) → tag ≡ 2 → Wrong (suc i) tag n → ⊥
right_insert i tag n e (unknown (inl z)) = omega (arith, e, z)
right_insert i tag n e (unknown (inr l)) = omega (arith, e, l)
right_insert i tag n e (not_signature z m) = omega (arith, z)
right_insert i tag n e (signature_again l z) = omega (arith, e, z)
right_insert i tag n e (no_relation z l) = omega (arith, e, z)
right_insert i tag n e (no_slot z l) = omega (arith, e, z)
right_insert i tag n e (not_two z m) = omega (arith, e, z)

right_delete : (i tag n : ℕ) → tag ≡ 3 → n ≡ 2 → Wrong (suc i) tag n → ⊥
right_delete i tag n e g (unknown (inl z)) = omega (arith, e, z)
right_delete i tag n e g (unknown (inr l)) = omega (arith, e, l)
right_delete i tag n e g (not_signature z m) = omega (arith, z)
right_delete i tag n e g (signature_again l z) = omega (arith, e, z)
right_delete i tag n e g (no_relation z l) = omega (arith, e, z)
right_delete i tag n e g (no_slot z l) = omega (arith, e, z)
right_delete i tag n e g (not_two z m) = m g

right_retrieve : (i tag n : ℕ) → tag ≡ 4 → 0 < n → Wrong (suc i) tag n → ⊥
right_retrieve i tag n e g (unknown (inl z)) = omega (arith, e, z)
right_retrieve i tag n e g (unknown (inr l)) = omega (arith, e, l)
right_retrieve i tag n e g (not_signature z m) = omega (arith, z)
right_retrieve i tag n e g (signature_again l z) = omega (arith, e, z)
right_retrieve i tag n e g (no_relation z l) = omega (arith, g, l)
right_retrieve i tag n e g (no_slot z l) = omega (arith, e, z)
right_retrieve i tag n e g (not_two z m) = omega (arith, e, z)

right_solve : (i tag n : ℕ) → tag ≡ 5 → 1 < n → Wrong (suc i) tag n → ⊥
right_solve i tag n e g (unknown (inl z)) = omega (arith, e, z)
right_solve i tag n e g (unknown (inr l)) = omega (arith, e, l)
right_solve i tag n e g (not_signature z m) = omega (arith, z)
right_solve i tag n e g (signature_again l z) = omega (arith, e, z)
right_solve i tag n e g (no_relation z l) = omega (arith, e, z)
right_solve i tag n e g (no_slot z l) = omega (arith, g, l)
right_solve i tag n e g (not_two z m) = omega (arith, e, z)

right_first : (tag n : ℕ) → tag ≡ 1 → Wrong 0 tag n → ⊥
right_first tag n e (unknown (inl z)) = omega (arith, e, z)
right_first tag n e (unknown (inr l)) = omega (arith, e, l)
right_first tag n e (not_signature z m) = m e
right_first tag n e (signature_again l z) = omega (arith, l)
right_first tag n e (no_relation z l) = omega (arith, e, z)
right_first tag n e (no_slot z l) = omega (arith, e, z)
right_first tag n e (not_two z m) = omega (arith, e, z)

-- for a later field it does not matter which one
wrong_later : (i j tag n : ℕ) → Wrong (suc i) tag n → Wrong (suc j) tag n
wrong_later i j tag n (unknown z) = unknown z
wrong_later i j tag n (not_signature z m) = absurd (omega (arith, z))
wrong_later i j tag n (signature_again l z) = signature_again (omega arith) z
wrong_later i j tag n (no_relation z l) = no_relation z l
wrong_later i j tag n (no_slot z l) = no_slot z l
wrong_later i j tag n (not_two z m) = not_two z m

faulty_later : (i j : ℕ) (f : Field) → Faulty (suc i) f → Faulty (suc j) f
faulty_later i j End w = w
faulty_later i j Cut w = w
faulty_later i j (Whole tag start n) w = wrong_later i j tag n w

-- a number that is not k is over it
above : (k t : ℕ) → k ≤ t → (t ≡ k → ⊥) → suc k ≤ t
above k t h n = omega (arith, h, n)

module _ (i tag start n : ℕ) where
  abbrev Says : Option Operation → Type 0
  Says o = Verdict (suc i) (Whole tag start n) o

  delete_says : tag ≡ 3 → (p : List ℕ) → length p ≡ n → Says (delete_operation p)
  delete_says e [] l = not_two e (λ z. omega (arith, l, z))
  delete_says e (h ∷ []) l = not_two e (λ z. omega (arith, l, z))
  delete_says e (h ∷ k ∷ []) l = right_delete i tag n e (sym l)
  delete_says e (h ∷ k ∷ m ∷ p) l = not_two e (λ z. omega (arith, l, z))

  retrieve_says : tag ≡ 4 → (p : List ℕ) → length p ≡ n → Says (retrieve_operation p)
  retrieve_says e [] l = no_relation e (sym l)
  retrieve_says e (r ∷ q) l = right_retrieve i tag n e (omega (arith, l))

  solve_says : tag ≡ 5 → (p : List ℕ) → length p ≡ n → Says (solve_operation p)
  solve_says e [] l = no_slot e (omega (arith, l))
  solve_says e (h ∷ []) l = no_slot e (omega (arith, l))
  solve_says e (h ∷ k ∷ q) l = right_solve i tag n e (omega (arith, l))

  -- the tags that are left
  other_says : (tag ≡ 2 → ⊥) → (tag ≡ 3 → ⊥) → (tag ≡ 4 → ⊥) → (tag ≡ 5 → ⊥) → Dec (tag ≡ 1) → Wrong (suc i) tag n
  other_says a b c d (yes e) = signature_again (omega arith) e
  other_says a b c d (no m) = go (ℕ_discrete tag 0)
    where
      go : Dec (tag ≡ 0) → Wrong (suc i) tag n
      go (yes z) = unknown (inl z)
      go (no z) = unknown (inr (above 5 tag (above 4 tag (above 3 tag
          (above 2 tag (above 1 tag (above 0 tag (omega arith) z) m) a) b) c) d))

  later_says : (p : List ℕ) → length p ≡ n → Says (later_operation tag p)
  unfolding later_operation
  later_says p l =
      chosen Says (eqb tag 2) _ _ (λ e. right_insert i tag n (eqb-true tag 2 e)) (λ a.
      chosen Says (eqb tag 3) _ _ (λ e. delete_says (eqb-true tag 3 e) p l) (λ b.
      chosen Says (eqb tag 4) _ _ (λ e. retrieve_says (eqb-true tag 4 e) p l) (λ c.
      chosen Says (eqb tag 5) _ _ (λ e. solve_says (eqb-true tag 5 e) p l) (λ d.
      other_says (eqb-false tag 2 a) (eqb-false tag 3 b) (eqb-false tag 4 c) (eqb-false tag 5 d) (ℕ_discrete tag 1)))))

pub later_verdict : (i : ℕ) (s : List ℕ) (f : Field) → Lies s f → Verdict (suc i) f (operation_in false s f)
later_verdict i s End h = absurd h
later_verdict i s Cut h = tt
later_verdict i s (Whole tag start n) h = later_says i tag start n (payload s start n) (payload_length s start n h)

-- THE LINES of the later fields: LOG is one of them exactly where one of these fields is faulty
log_answer : (c : Operation) (a : Answer) → log ≡ answer c a → ⊥
log_answer c a e = let z : ◌≡◌ {A = ℕ} 0 1 = cc in omega arith

abbrev pub SomeFaulty : List Field → Type 0
SomeFaulty fs = (j : ℕ) × Faulty (suc j) (field_or fs j)

none_faulty : SomeFaulty [] → ⊥
unfolding field_or
none_faulty (j, w) = w

pub faulty_here : (f : Field) (fs : List Field) → Faulty 1 f → SomeFaulty (f ∷ fs)
unfolding field_or
faulty_here f fs w = (0, w)

pub faulty_there : (f : Field) (fs : List Field) → SomeFaulty fs → SomeFaulty (f ∷ fs)
unfolding field_or
faulty_there f fs (j, w) = (suc j, faulty_later j (suc j) (field_or fs j) w)

faulty_which : (f : Field) (fs : List Field) → SomeFaulty (f ∷ fs) → Faulty 1 f ⊎ SomeFaulty fs
unfolding field_or
faulty_which f fs (zero, w) = inl w
faulty_which f fs (suc j, w) = inr (j, faulty_later (suc j) j (field_or fs j) w)

later_log : (s : List ℕ) (st : Store) (fs : List Field) → AllLie s fs → In log (later_lines s st fs) ↔ SomeFaulty fs
unfolding later_lines
later_log s st [] h = ((λ i. absurd i), (λ w. none_faulty w))
later_log s st (f ∷ fs) h =
    go (operation_in false s f) (later_verdict 0 s f h.0) (λ st'. later_log s st' fs h.1)
  where
    go : (o : Option Operation) → Verdict 1 f o
        → ((st' : Store) → In log (later_lines s st' fs) ↔ SomeFaulty fs)
        → In log (line_then st o (later_lines s (store_after st o) fs)) ↔ SomeFaulty (f ∷ fs)
    go none w ih = ((λ i. faulty_here f fs w), (λ x. inl refl))
    go (some c) w ih = (from, into)
      where
        from : (log ≡ answer c (answered st (library_call answer_room c))) ⊎ In log (later_lines s (store_after st (some c)) fs) → SomeFaulty (f ∷ fs)
        from (inl e) = absurd (log_answer c (answered st (library_call answer_room c)) e)
        from (inr i) = faulty_there f fs ((ih (store_after st (some c))).0 i)

        into : SomeFaulty (f ∷ fs) → (log ≡ answer c (answered st (library_call answer_room c))) ⊎ In log (later_lines s (store_after st (some c)) fs)
        into x = ⊎_elim (λ y. absurd (w y)) (λ y. inr ((ih (store_after st (some c))).1 y)) (faulty_which f fs x)

-- THE FIRST FIELD: there is no call exactly where it is faulty, and the call is refused exactly where its signature is
abbrev pub Stops : Answer → Type 0
Stops (refused n) = Unit {0}
Stops (done a b w) = ⊥

abbrev pub FirstVerdict : List ℕ → Field → Option Operation → Type 0
FirstVerdict s f none = Faulty 0 f
FirstVerdict s f (some c) =
    (Faulty 0 f → ⊥) × (Stops (answered unopened (library_call answer_room c)) ↔ RefusedSignature s f)

open_stops : (p : List ℕ) → Stops (answered unopened (open_with p)) ↔ (sig_refusal p ≡ 0 → ⊥)
unfolding answered
open_stops p = go (eqb (sig_refusal p) 0) refl
  where
    go : (b : Bool) → eqb (sig_refusal p) 0 ≡ b → Stops (pick b (done 0 0 []) (refused 2)) ↔ (sig_refusal p ≡ 0 → ⊥)
    go true e = ((λ x. absurd x), (λ m. absurd (m (eqb-true (sig_refusal p) 0 e))))
    go false e = ((λ x. eqb-false (sig_refusal p) 0 e), (λ m. tt))

pub first_verdict : (s : List ℕ) (f : Field) → Lies s f → FirstVerdict s f (operation_in true s f)
unfolding first_operation
first_verdict s End h = absurd h
first_verdict s Cut h = tt
first_verdict s (Whole tag start n) h =
    chosen (FirstVerdict s (Whole tag start n)) (eqb tag 1) (some (to_open (payload s start n))) none
    (λ e. (right_first tag n (eqb-true tag 1 e), stops (eqb-true tag 1 e)))
    (λ e. not_signature refl (eqb-false tag 1 e))
  where
    stops : tag ≡ 1 → Stops (answered unopened (open_with (payload s start n)))
        ↔ RefusedSignature s (Whole tag start n)
    stops e = ((λ x. (e, (open_stops (payload s start n)).0 x)), (λ r. (open_stops (payload s start n)).1 r.1))

-- a faulty first field has no refused signature
faulty_first : (s : List ℕ) (f : Field) → Faulty 0 f → RefusedSignature s f → ⊥
faulty_first s End w r = r
faulty_first s Cut w r = r
faulty_first s (Whole tag start n) w r = right_first tag n r.0 w

abbrev pub FaultyIn : List ℕ → List Field → Type 0
FaultyIn s fs = (i : ℕ) × Faulty i (field_or fs i) × (RefusedSignature s (field_or fs 0) → ⊥)

first_log : (s : List ℕ) (fs : List Field) → AllLie s fs → In log (first_lines s fs) ↔ FaultyIn s fs
unfolding first_lines field_or
first_log s [] h = ((λ i. absurd i), (λ w. w.1))
first_log s (f ∷ fs) h = go (operation_in true s f) (first_verdict s f h.0)
  where
    go : (o : Option Operation) → FirstVerdict s f o
        → In log (line_then unopened o (unless_refused unopened o (later_lines s (store_after unopened o) fs)))
        ↔ FaultyIn s (f ∷ fs)
    go none w = ((λ i. (0, w, faulty_first s f w)), (λ x. inl refl))
    go (some c) (n, stops) = answering (answered unopened (library_call answer_room c)) stops
      where
        rest : List Line
        rest = later_lines s (store_after unopened (some c)) fs

        answering : (a : Answer) → (Stops a ↔ RefusedSignature s f)
            → ((log ≡ answer c (answered unopened (library_call answer_room c))) ⊎ In log (unless a [] rest)) ↔ FaultyIn s (f ∷ fs)
        answering (refused m) k = (from, (λ x. absurd (x.2 (k.0 tt))))
          where
            from : (log ≡ answer c (answered unopened (library_call answer_room c))) ⊎ ⊥ → FaultyIn s (f ∷ fs)
            from (inl e) = absurd (log_answer c (answered unopened (library_call answer_room c)) e)
            from (inr i) = absurd i
        answering (done a b w) k = (from, into)
          where
            later : In log rest ↔ SomeFaulty fs
            later = later_log s (store_after unopened (some c)) fs h.1

            from : (log ≡ answer c (answered unopened (library_call answer_room c))) ⊎ In log rest → FaultyIn s (f ∷ fs)
            from (inl e) = absurd (log_answer c (answered unopened (library_call answer_room c)) e)
            from (inr i) = let x = later.0 i in (suc x.0, x.1, k.1)

            into : FaultyIn s (f ∷ fs) → (log ≡ answer c (answered unopened (library_call answer_room c))) ⊎ In log rest
            into (zero, x, r) = absurd (n x)
            into (suc j, x, r) = inr (later.1 (j, x))

-- LOG IS PRINTED exactly when it applies
pub log_exactly : (s : List ℕ) → In log (lines_of s) ↔ LogApplies s
unfolding lines_of
log_exactly s = go (ltb input_limit (length s)) refl
  where
    first : In log (first_lines s (fields_of s)) ↔ FaultyIn s (fields_of s)
    first = first_log s (fields_of s) (fields_lie s)

    go : (b : Bool) → ltb input_limit (length s) ≡ b
        → In log (pick b (log ∷ []) (first_lines s (fields_of s))) ↔ LogApplies s
    go true e = ((λ i. inl (ltb-true input_limit (length s) e)), (λ x. inl refl))
    go false e = ((λ i. inr (first.0 i)), into)
      where
        into : LogApplies s → In log (first_lines s (fields_of s))
        into (inl l) = absurd (omega (arith, l, ltb-false input_limit (length s) e))
        into (inr x) = first.1 x

-- 'AND THE PROGRAM STOPS': nothing follows LOG
abbrev pub Ending : List Line → Type 0
Ending [] = Unit {0}
Ending (answer c a ∷ l) = Ending l
Ending (log ∷ l) = l ≡ []

then_ending : (st : Store) (o : Option Operation) (rest : List Line) → Ending rest → Ending (line_then st o rest)
then_ending st none rest h = refl
then_ending st (some c) rest h = h

later_ending : (s : List ℕ) (st : Store) (fs : List Field) → Ending (later_lines s st fs)
unfolding later_lines
later_ending s st [] = tt
later_ending s st (f ∷ fs) =
    then_ending st (operation_in false s f) (later_lines s (store_after st (operation_in false s f)) fs)
    (later_ending s (store_after st (operation_in false s f)) fs)

unless_ending : (st : Store) (o : Option Operation) (rest : List Line) → Ending rest → Ending (unless_refused st o rest)
unless_ending st none rest h = tt
unless_ending st (some c) rest h = go (answered st (library_call answer_room c))
  where
    go : (a : Answer) → Ending (unless a [] rest)
    go (refused n) = tt
    go (done a b w) = h

first_ending : (s : List ℕ) (fs : List Field) → Ending (first_lines s fs)
unfolding first_lines
first_ending s [] = tt
first_ending s (f ∷ fs) =
    let o = operation_in true s f in
    then_ending unopened o (unless_refused unopened o (later_lines s (store_after unopened o) fs))
    (unless_ending unopened o (later_lines s (store_after unopened o) fs) (later_ending s (store_after unopened o) fs))

pub lines_ending : (s : List ℕ) → Ending (lines_of s)
unfolding lines_of
lines_ending s = chosen Ending (ltb input_limit (length s)) _ _ (λ e. refl) (λ e. first_ending s (fields_of s))

pub not_nothing : (l r : List Line) (x : Line) → l ++ (x ∷ r) ≡ [] → ⊥
not_nothing [] r x e = let z : ◌≡◌ {A = ℕ} 0 1 = cc in omega arith
not_nothing (y ∷ l) r x e = let z : ◌≡◌ {A = ℕ} 0 1 = cc in omega arith

nothing_after : (l r : List Line) → Ending (l ++ (log ∷ r)) → r ≡ []
nothing_after [] r h = h
nothing_after (answer c a ∷ l) r h = nothing_after l r h
nothing_after (log ∷ l) r h = absurd (not_nothing l r log h)

-- where LOG is a line, it is the last one
pub log_last : (s : List ℕ) (l r : List Line) → lines_of s ≡ l ++ (log ∷ r) → r ≡ []
log_last s l r e = nothing_after l r (rw e at (lines_ending s))

-- 'for an input of over 65,535 bytes, whatever it holds; `log no 16` is then the only line'
pub log_alone : (s : List ℕ) → input_limit < length s → lines_of s ≡ log ∷ []
unfolding lines_of
log_alone s h = rw (lt-ltb input_limit (length s) h)

-- `log no 16` and a line feed
pub log_text : text_of log ≡ 108 ∷ 111 ∷ 103 ∷ 32 ∷ 110 ∷ 111 ∷ 32 ∷ 49 ∷ 54 ∷ 10 ∷ []
unfolding refused_line decimal digits
log_text = refl

-- no other line has these bytes
first_letter : (c : Operation) (a : Answer) → get_or (answer_text c a) 0 0 ≡ get_or (word_of c) 0 0
unfolding plain_line refused_line slot_line found_line solved_line
first_letter (to_open sig) (refused n) = refl
first_letter (to_insert t) (refused n) = refl
first_letter (to_delete s) (refused n) = refl
first_letter (to_retrieve r q) (refused n) = refl
first_letter (to_solve s q) (refused n) = refl
first_letter (to_open sig) (done a b w) = refl
first_letter (to_insert t) (done a b w) = refl
first_letter (to_delete s) (done a b w) = refl
first_letter (to_retrieve r q) (done a b w) = refl
first_letter (to_solve s q) (done a b w) = refl

other_letter : (c : Operation) → get_or (word_of c) 0 0 ≡ 108 → ⊥
other_letter (to_open sig) e = omega arith
other_letter (to_insert t) e = omega arith
other_letter (to_delete s) e = omega arith
other_letter (to_retrieve r q) e = omega arith
other_letter (to_solve s q) e = omega arith

pub log_line_lem : (l : Line) → text_of l ≡ text_of log → l ≡ log
log_line_lem log e = refl
log_line_lem (answer c a) e = absurd (other_letter c (sym (first_letter c a) ∙ ap (λ t. get_or t 0 0) (e ∙ log_text)))
