-- SCOPE.md, 'The log program': 'Fields are taken one by one, and each prints one line', of an input that is not too
-- long: how many lines there are, what a refused signature leaves, and which line LOG is.
use Rattle.std.specs.Prelude.{ℕ, zero, suc, ◌+◌, ◌≤◌, ◌<◌, ◌≡◌, refl, ◌↔◌, true, false, List, [], ◌∷◌, ◌++◌, length, drop}
use Rattle.std.proofs.Common.{arith, ap, inl, inr, le-ltb, ne_eqb, eq-eqb}
use Rattle.std.proofs.Math.Option.{Option, some, none}
use Rattle.laws.specs.Sizes.{input_limit, answer_room}
use Rattle.terms.specs.Terms.{sig_refusal}
use Rattle.definitions.specs.Answers.{Answer, refused, done, unless}
use Rattle.library.specs.Store.{Store, answered}
use Rattle.logfields.specs.Reading.{fields_of, field_or}
use Rattle.logfields.specs.declared.field.Field.{Field}
use Rattle.logfields.specs.declared.field.Field.TheVariants.{End, Cut, Whole}
use Rattle.tasks.specs.Operations.{Operation, to_open, first_operation, payload}
use Rattle.tasks.specs.Operations.{operation_in}
use Rattle.turns.specs.Printed.{library_call, Line, answer, log, store_after, line_then, later_lines, unless_refused}
use Rattle.turns.specs.Printed.{unopened, first_lines, lines_of}
use Rattle.turns.specs.LogApplies.{Faulty, RefusedSignature, SignatureRefused, LogApplies, AllLie, fields_lie}
use Rattle.turns.specs.LogApplies.{Verdict, later_verdict, SomeFaulty, faulty_here, faulty_there, Stops}
use Rattle.turns.specs.LogApplies.{FirstVerdict, first_verdict, FaultyIn, Ending, lines_ending, not_nothing}

-- an input that is not too long
lines_short : (s : List ℕ) → length s ≤ input_limit → lines_of s ≡ first_lines s (fields_of s)
unfolding lines_of
lines_short s h = rw (le-ltb input_limit (length s) h)

-- THE NUMBER OF LINES
later_each : (s : List ℕ) (st : Store) (fs : List Field) → AllLie s fs → (SomeFaulty fs → ⊥)
    → length (later_lines s st fs) ≡ length fs
unfolding later_lines
later_each s st [] h n = refl
later_each s st (f ∷ fs) h n =
    go (operation_in false s f) (later_verdict 0 s f h.0)
    (λ st'. later_each s st' fs h.1 (λ x. n (faulty_there f fs x)))
  where
    go : (o : Option Operation) → Verdict 1 f o → ((st' : Store) → length (later_lines s st' fs) ≡ length fs)
        → length (line_then st o (later_lines s (store_after st o) fs)) ≡ suc (length fs)
    go none w ih = absurd (n (faulty_here f fs w))
    go (some c) w ih = ap suc (ih (store_after st (some c)))

first_each : (s : List ℕ) (fs : List Field) → AllLie s fs → (FaultyIn s fs → ⊥)
    → (RefusedSignature s (field_or fs 0) → ⊥) → length (first_lines s fs) ≡ length fs
unfolding first_lines field_or
first_each s [] h n r = refl
first_each s (f ∷ fs) h n r = go (operation_in true s f) (first_verdict s f h.0)
  where
    go : (o : Option Operation) → FirstVerdict s f o
        → length (line_then unopened o (unless_refused unopened o (later_lines s (store_after unopened o) fs))) ≡ suc (length fs)
    go none w = absurd (n (0, w, r))
    go (some c) w = ap suc (answering (answered unopened (library_call answer_room c)) w.1)
      where
        answering : (a : Answer) → (Stops a ↔ RefusedSignature s f)
            → length (unless a [] (later_lines s (store_after unopened (some c)) fs)) ≡ length fs
        answering (refused m) k = absurd (r (k.0 tt))
        answering (done x y w) k = later_each s (store_after unopened (some c)) fs h.1 (λ z. n (suc z.0, z.1, r))

-- 'each prints one line', where LOG does not apply and the signature is taken
pub line_each : (s : List ℕ) → (LogApplies s → ⊥) → (SignatureRefused s → ⊥)
    → length (lines_of s) ≡ length (fields_of s)
line_each s n r =
    let l : length s ≤ input_limit = not_over (λ h. n (inl h)) in
    rw (lines_short s l) (first_each s (fields_of s) (fields_lie s) (λ x. n (inr x)) r)
  where
    not_over : (input_limit < length s → ⊥) → length s ≤ input_limit
    not_over m = omega (arith, m)

-- A REFUSED SIGNATURE: 'nothing more is printed, even if later fields are faulty'
opening_refused : (s : List ℕ) (f : Field) (fs : List Field) → RefusedSignature s f
    → (p : List ℕ) × (first_lines s (f ∷ fs) ≡ answer (to_open p) (refused 2) ∷ [])
unfolding first_lines first_operation answered
opening_refused s End fs r = absurd r
opening_refused s Cut fs r = absurd r
opening_refused s (Whole tag start n) fs r =
    (payload s start n, rw (eq-eqb tag 1 r.0, ne_eqb (sig_refusal (payload s start n)) 0 r.1))

signature_alone : (s : List ℕ) (fs : List Field) → RefusedSignature s (field_or fs 0)
    → (p : List ℕ) × (first_lines s fs ≡ answer (to_open p) (refused 2) ∷ [])
unfolding field_or
signature_alone s [] r = absurd r
signature_alone s (f ∷ fs) r = opening_refused s f fs r

pub refused_alone : (s : List ℕ) → length s ≤ input_limit → SignatureRefused s
    → (p : List ℕ) × (lines_of s ≡ answer (to_open p) (refused 2) ∷ [])
refused_alone s h r = rw (lines_short s h) (signature_alone s (fields_of s) r)

-- WHICH LINE LOG IS: an answer is the line of a field that is not faulty, LOG that of a faulty one
abbrev LinesPlaced : ℕ → List Field → List Line → Type 0
LinesPlaced i fs [] = Unit {0}
LinesPlaced i fs (answer c a ∷ l) = (Faulty i (field_or fs 0) → ⊥) × LinesPlaced (suc i) (drop 1 fs) l
LinesPlaced i fs (log ∷ l) = Faulty i (field_or fs 0)

later_placed : (i : ℕ) (s : List ℕ) (st : Store) (fs : List Field) → AllLie s fs
    → LinesPlaced (suc i) fs (later_lines s st fs)
unfolding later_lines field_or
later_placed i s st [] h = tt
later_placed i s st (f ∷ fs) h =
    go (operation_in false s f) (later_verdict i s f h.0) (λ st'. later_placed (suc i) s st' fs h.1)
  where
    go : (o : Option Operation) → Verdict (suc i) f o → ((st' : Store) → LinesPlaced (suc (suc i)) fs (later_lines s st' fs))
        → LinesPlaced (suc i) (f ∷ fs) (line_then st o (later_lines s (store_after st o) fs))
    go none w ih = w
    go (some c) w ih = (w, ih (store_after st (some c)))

first_placed : (s : List ℕ) (fs : List Field) → AllLie s fs → LinesPlaced 0 fs (first_lines s fs)
unfolding first_lines field_or
first_placed s [] h = tt
first_placed s (f ∷ fs) h = go (operation_in true s f) (first_verdict s f h.0)
  where
    go : (o : Option Operation) → FirstVerdict s f o
        → LinesPlaced 0 (f ∷ fs) (line_then unopened o (unless_refused unopened o (later_lines s (store_after unopened o) fs)))
    go none w = w
    go (some c) w = (w.0, answering (answered unopened (library_call answer_room c)))
      where
        answering : (a : Answer) → LinesPlaced 1 fs (unless a [] (later_lines s (store_after unopened (some c)) fs))
        answering (refused m) = tt
        answering (done x y z) = later_placed 0 s (store_after unopened (some c)) fs h.1

next_field : (fs : List Field) (j : ℕ) → field_or (drop 1 fs) j ≡ field_or fs (suc j)
unfolding field_or
next_field [] j = refl
next_field (f ∷ fs) j = refl

-- field number k of fs is the first that is faulty, where the first of fs is number i of the log
abbrev FirstFaulty : ℕ → List Field → ℕ → Type 0
FirstFaulty i fs k = Faulty (i + k) (field_or fs k) × ((j : ℕ) → j < k → Faulty (i + j) (field_or fs j) → ⊥)

place_of : (l : List Line) (i : ℕ) (fs : List Field) → Ending (l ++ (log ∷ [])) → LinesPlaced i fs (l ++ (log ∷ []))
    → FirstFaulty i fs (length l)
place_of [] i fs h p = let e : i + 0 ≡ i = omega arith in (rw e p, λ j b. absurd (omega (arith, b)))
place_of (log ∷ l) i fs h p = absurd (not_nothing l [] log h)
place_of (answer c a ∷ l) i fs h p =
    let r = place_of l (suc i) (drop 1 fs) h p.1 in
    let e : i + suc (length l) ≡ suc i + length l = omega arith in
    (rw (e, ← next_field fs (length l)) r.0, none_before r.1)
  where
    none_before : ((j : ℕ) → j < length l → Faulty (suc i + j) (field_or (drop 1 fs) j) → ⊥)
        → (j : ℕ) → j < suc (length l) → Faulty (i + j) (field_or fs j) → ⊥
    none_before r zero b w = let e : i + 0 ≡ i = omega arith in p.0 (rw e at w)
    none_before r (suc j) b w =
        let e : i + suc j ≡ suc i + j = omega arith in
        r j (omega (arith, b)) (rw (next_field fs j) (rw e at w))

-- 'the lines of the earlier fields stand before it': LOG is the line of the first faulty field
pub log_place : (s : List ℕ) (l : List Line) → length s ≤ input_limit → lines_of s ≡ l ++ (log ∷ [])
    → Faulty (length l) (field_or (fields_of s) (length l))
    × ((j : ℕ) → j < length l → Faulty j (field_or (fields_of s) j) → ⊥)
log_place s l h e =
    let placed : LinesPlaced 0 (fields_of s) (lines_of s) =
    rw (lines_short s h) (first_placed s (fields_of s) (fields_lie s)) in
    let r = place_of l 0 (fields_of s) (rw e at (lines_ending s)) (rw e at placed) in
    let z : (k : ℕ) → 0 + k ≡ k = λ k. omega arith in
    (rw (z (length l)) at r.0, λ j b w. r.1 j b (rw (z j) w))
