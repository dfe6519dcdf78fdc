-- SCOPE.md, 'The log program': every line fits the buffer of a line, whatever the store holds. The longest is that of a
-- record that fills the answer buffer, two hex digits a byte.
use Rattle.std.specs.Prelude.{ℕ, zero, suc, ◌+◌, ◌*◌, ◌/◌, ◌%◌, ◌≤◌, ◌<◌, ◌≡◌, refl, Bool, true, false, List, [], ◌∷◌, ◌++◌, ltb, eqb, length}
use Rattle.std.proofs.Math.Decide.{dec_lt}
use native.Mathlib.Omega.{arith}
use Rattle.std.proofs.Common.{ap, inl, inr, ltb-false}
use Rattle.std.proofs.Math.Option.{Option, some, none}
use Rattle.std.proofs.Math.ListN.{length-append}
use Rattle.laws.specs.Choice.{pick, chosen}
use Rattle.laws.specs.Members.{In}
use Rattle.laws.specs.Sizes.{slot_count, input_limit, answer_room, line_room, key_limit}
use Rattle.slots.specs.Slots.{listed}
use Rattle.terms.specs.Terms.{sig_refusal, refusal, items_good, span}
use Rattle.theory.specs.Flat.{Item}
use Rattle.theory.specs.Subst.{vars}
use Rattle.theory.specs.Unify.{Bind, ◌:=◌, full}
use Rattle.theory.specs.Matcher.{items?}
use Rattle.definitions.specs.Records.{listed_from, count_of, record_of, unless_decided as unless_self}
use Rattle.definitions.specs.Decisions.{bindings?}
use Rattle.definitions.specs.Answers.{Answer, refused, done, unless, long_from, recorded}
use Rattle.library.specs.Store.{Store, slots_from, in_use, first_free, put, key_count, candidates, answers, solving_held}
use Rattle.library.specs.Store.{answered}
use Rattle.library.specs.Sound.{free_most, use_below}
use Rattle.library.specs.Readable.{slots_are}
use Rattle.lines.specs.Lines.{decimal, hex, slot_list, record_text, ok, no as no_word, feed, figure, plain_line, refused_line}
use Rattle.lines.specs.Lines.{slot_line, found_line, solved_line}
use Rattle.logfields.specs.declared.field.Field.{Field}
use Rattle.logfields.specs.Reading.{fields_of}
use Rattle.lines.proofs.LineLaws.{decimal_one, decimal_more}
use Rattle.tasks.specs.Operations.{Operation, to_open, to_insert, to_delete, to_retrieve, to_solve, operation_in}
use Rattle.answerlines.specs.Words.{word_of, log_word}
use Rattle.turns.specs.Printed.{library_call, Line, log, store_after, line_then, later_lines, unless_refused, unopened}
use Rattle.turns.specs.Printed.{first_lines, lines_of, answer_text, text_of}

-- NUMBERS below 1,000 have at most three digits
decimal_first : (n : ℕ) → n < 10 → length (decimal n) ≤ 1
decimal_first n h = omega (arith, ap length (decimal_one n h))

decimal_next : (n k : ℕ) → 10 ≤ n → length (decimal (n / 10)) ≤ k → length (decimal n) ≤ suc k
decimal_next n k h g =
    omega (arith, g, ap length (decimal_more n h), length-append (decimal (n / 10)) ((48 + n % 10) ∷ []))

decimal_second : (n : ℕ) → n < 100 → length (decimal n) ≤ 2
decimal_second n h = go (dec_lt n 10)
  where
    go : Dec (n < 10) → length (decimal n) ≤ 2
    go (yes l) = omega (arith, decimal_first n l)
    go (no m) = decimal_next n 1 (omega (arith, m)) (decimal_first (n / 10) (omega arith))

pub decimal_short : (n : ℕ) → n < 1000 → length (decimal n) ≤ 3
decimal_short n h = go (dec_lt n 10)
  where
    go : Dec (n < 10) → length (decimal n) ≤ 3
    go (yes l) = omega (arith, decimal_first n l)
    go (no m) = decimal_next n 2 (omega (arith, m)) (decimal_second (n / 10) (omega arith))

-- the text of a listing of such numbers: a blank and at most three digits each
slots_text : (l : List ℕ) → ((s : ℕ) → In s l → s < 1000) → length (slot_list (listed l)) ≤ 4 * length l
unfolding listed slot_list
slots_text [] b = omega arith
slots_text (s ∷ l) b =
    let e : s / 256 * 256 + s % 256 ≡ s = omega arith in
    let d : length (decimal (s / 256 * 256 + s % 256)) ≤ 3 = rw e (decimal_short s (b s (inl refl))) in
    omega (arith, d, length-append (decimal (s / 256 * 256 + s % 256)) (slot_list (listed l)), slots_text l (λ u i. b u (inr i)))

hex_length : (w : List ℕ) → length (hex w) ≡ 2 * length w
unfolding hex
hex_length [] = refl
hex_length (b ∷ r) = omega (arith, hex_length r)

record_length : (w : List ℕ) → length (record_text w) ≤ 2 * length w + 1
unfolding record_text
record_length [] = omega arith
record_length (b ∷ r) = omega (arith, hex_length (b ∷ r))

-- THE LINES of a word and its numbers
module _ (word : List ℕ) (short : length word ≤ 8) where
  plain_short : length (plain_line word) ≤ line_room
  unfolding plain_line
  plain_short = omega (arith, short, length-append word (ok ++ feed))

  refused_short : (n : ℕ) → n < 1000 → length (refused_line word n) ≤ line_room
  unfolding refused_line
  refused_short n b =
      omega (arith, short, decimal_short n b, length-append word (no_word ++ (figure n ++ feed)), length-append (decimal n) feed)

  slot_short : (n : ℕ) → n < 1000 → length (slot_line word n) ≤ line_room
  unfolding slot_line
  slot_short n b =
      omega (arith, short, decimal_short n b, length-append word (ok ++ (figure n ++ feed)), length-append (decimal n) feed)

  found_short : (m n : ℕ) (l : List ℕ) → m < 1000 → n < 1000 → length l ≤ slot_count → ((s : ℕ) → In s l → s < 1000)
      → length (found_line word m n (listed l)) ≤ line_room
  unfolding found_line
  found_short m n l a b c d =
      omega (
        arith,
        short,
        c,
        decimal_short m a,
        decimal_short n b,
        slots_text l d,
        length-append word (ok ++ (figure m ++ (figure n ++ (slot_list (listed l) ++ feed)))),
        length-append (decimal m) (figure n ++ (slot_list (listed l) ++ feed)),
        length-append (decimal n) (slot_list (listed l) ++ feed),
        length-append (slot_list (listed l)) feed,
      )

  solved_short : (n : ℕ) (w : List ℕ) → n < 1000 → length w ≤ answer_room → length (solved_line word n w) ≤ line_room
  unfolding solved_line
  solved_short n w a b =
      omega (
        arith,
        short,
        b,
        decimal_short n a,
        record_length w,
        length-append word (ok ++ (figure n ++ (record_text w ++ feed))),
        length-append (decimal n) (record_text w ++ feed),
        length-append (record_text w) feed,
      )

word_short : (c : Operation) → length (word_of c) ≤ 8
word_short (to_open sig) = omega arith
word_short (to_insert t) = omega arith
word_short (to_delete s) = omega arith
word_short (to_retrieve r q) = omega arith
word_short (to_solve s q) = omega arith

-- THE ANSWERS: what they say is at most 512 slots, the numbers of slots and refusals, 64 fields
abbrev AnswerFits : Operation → Answer → Type 0
AnswerFits c a = length (answer_text c a) ≤ line_room

refused_fits : (c : Operation) (n : ℕ) → n < 1000 → AnswerFits c (refused n)
refused_fits c n b = refused_short (word_of c) (word_short c) n b

refusal_small : (sig t : List ℕ) → refusal sig t < 1000
unfolding refusal
refusal_small sig t =
    chosen (λ n. n < 1000) (ltb 64 (length t)) _ _ (λ e. omega arith) (λ e.
    chosen (λ n. n < 1000) (eqb (length t) 0) _ _ (λ e. omega arith) (λ e.
    chosen (λ n. n < 1000) (eqb (length t % 2) 1) _ _ (λ e. omega arith) (λ e.
    chosen (λ n. n < 1000) (items_good (length sig) t) _ _ (λ e.
    chosen (λ n. n < 1000) (eqb (span sig t 1) (length t)) _ _ (λ e. omega arith) (λ e. omega arith)) (λ e. omega arith))))

few_slots : (p : ℕ → Bool) (k s : ℕ) → length (slots_from p k s) ≤ k
unfolding slots_from
few_slots p zero s = omega arith
few_slots p (suc k) s = go (p s) (few_slots p k (suc s))
  where
    go : (b : Bool) → length (slots_from p k (suc s)) ≤ k
        → length (pick b (s ∷ slots_from p k (suc s)) (slots_from p k (suc s))) ≤ suc k
    go true h = omega arith
    go false h = omega arith

few_candidates : (st : Store) (r : ℕ) (q : List ℕ) → length (candidates st r q) ≤ slot_count
unfolding candidates
few_candidates st r q = few_slots _ slot_count 0

few_answers : (st : Store) (r : ℕ) (q : List ℕ) → length (answers st r q) ≤ slot_count
unfolding answers
few_answers st r q = few_slots _ slot_count 0

answers_small : (st : Store) (r : ℕ) (q : List ℕ) (s : ℕ) → In s (answers st r q) → s < 1000
unfolding answers
answers_small st r q s i = omega (arith, ((slots_are _ s).0 i).0)

few_listed : (θ : ℕ → List Item) (k y : ℕ) → length (listed_from θ k y) ≤ k
unfolding listed_from
few_listed θ zero y = omega arith
few_listed θ (suc k) y = go (items? (θ y) (vars y)) (few_listed θ k (y + 1))
  where
    go : (d : Dec (θ y ≡ vars y)) → length (listed_from θ k (y + 1)) ≤ k
        → length (unless_self d (y := θ y) (listed_from θ k (y + 1))) ≤ suc k
    go (yes e) h = omega arith
    go (no n) h = omega arith

few_fields : (θ : ℕ → List Item) → count_of θ < 1000
unfolding count_of
few_fields θ = omega (arith, few_listed θ 64 0)

-- a solve that is lent the answer buffer
module _ (s : ℕ) (q : List ℕ) where
  abbrev asked : Operation
  asked = to_solve s q

  -- a record that is written fits the answer buffer
  recorded_fits : (o : Option (List Bind)) → AnswerFits asked (recorded o answer_room)
  recorded_fits none = refused_fits asked 13 (omega arith)
  recorded_fits (some B) =
      chosen (AnswerFits asked) (long_from (full B) 64 0) _ _ (λ e. refused_fits asked 14 (omega arith)) (λ e.
      chosen (AnswerFits asked) (ltb answer_room (length (record_of (full B)))) _ _ (λ f. refused_fits asked 15 (omega arith)) (λ f.
      solved_short (word_of asked) (word_short asked) (count_of (full B)) (record_of (full B)) (few_fields (full B))
      (omega (arith, ltb-false answer_room (length (record_of (full B))) f))))

  solving_fits : (sig : List ℕ) (o : Option (List ℕ)) → AnswerFits asked (solving_held sig o q answer_room)
  solving_fits sig none = refused_fits asked 4 (omega arith)
  solving_fits sig (some t) =
      chosen (AnswerFits asked) (eqb (refusal sig q) 0) _ _ (λ e. recorded_fits (bindings? sig t q))
      (λ e. refused_fits asked (refusal sig q) (refusal_small sig q))

-- the line of what any call answers on any store fits the buffer of a line
pub answer_fits : (st : Store) (c : Operation)
    → length (answer_text c (answered st (library_call answer_room c))) ≤ line_room
unfolding answered
answer_fits st (to_open sig) =
    chosen (AnswerFits (to_open sig)) (eqb (sig_refusal sig) 0) _ _
    (λ e. plain_short (word_of (to_open sig)) (word_short (to_open sig)))
    (λ e. refused_fits (to_open sig) 2 (omega arith))
answer_fits st (to_insert t) =
    chosen (AnswerFits (to_insert t)) (eqb (refusal st.signature t) 0) _ _
    (λ e. chosen (AnswerFits (to_insert t)) (eqb (first_free st) slot_count) _ _ (λ f. refused_fits (to_insert t) 11 (omega arith))
    (λ f. chosen (AnswerFits (to_insert t)) (ltb key_limit (key_count (put st (first_free st) (some t)))) _ _
    (λ g. refused_fits (to_insert t) 12 (omega arith))
    (λ g. slot_short (word_of (to_insert t)) (word_short (to_insert t)) (first_free st) (omega (arith, free_most st slot_count 0)))))
    (λ e. refused_fits (to_insert t) (refusal st.signature t) (refusal_small st.signature t))
answer_fits st (to_delete s) =
    chosen (AnswerFits (to_delete s)) (in_use st s) _ _
    (λ e. slot_short (word_of (to_delete s)) (word_short (to_delete s)) s (omega (arith, use_below st s e)))
    (λ e. refused_fits (to_delete s) 4 (omega arith))
answer_fits st (to_retrieve r q) =
    chosen (AnswerFits (to_retrieve r q)) (ltb 4 r) _ _ (λ e. refused_fits (to_retrieve r q) 3 (omega arith))
    (λ e. chosen (AnswerFits (to_retrieve r q)) (eqb (refusal st.signature q) 0) _ _
    (λ f. chosen (AnswerFits (to_retrieve r q)) (ltb answer_room (2 * length (answers st r q))) _ _
    (λ g. refused_fits (to_retrieve r q) 15 (omega arith))
    (λ g. found_short (word_of (to_retrieve r q)) (word_short (to_retrieve r q)) (length (candidates st r q)) (length (answers st r q)) (answers st r q)
    (omega (arith, few_candidates st r q)) (omega (arith, few_answers st r q)) (few_answers st r q) (answers_small st r q)))
    (λ f. refused_fits (to_retrieve r q) (refusal st.signature q) (refusal_small st.signature q)))
answer_fits st (to_solve s q) =
    chosen (AnswerFits (to_solve s q)) (in_use st s) _ _ (λ e. solving_fits s q st.signature (st.held s))
    (λ e. refused_fits (to_solve s q) 4 (omega arith))

-- `log no 16`
pub log_fits : length (text_of log) ≤ line_room
log_fits = refused_short log_word (omega arith) 16 (omega arith)

abbrev LineFits : Line → Type 0
LineFits l = length (text_of l) ≤ line_room

line_then_lem : (st : Store) (o : Option Operation) (rest : List Line)
    → ((l : Line) → In l rest → LineFits l)
    → (l : Line) → In l (line_then st o rest) → LineFits l
line_then_lem st none rest r l (inl e) = rw e log_fits
line_then_lem st none rest r l (inr i) = absurd i
line_then_lem st (some c) rest r l (inl e) = rw e (answer_fits st c)
line_then_lem st (some c) rest r l (inr i) = r l i

later_short : (s : List ℕ) (st : Store) (fs : List Field) (l : Line) → In l (later_lines s st fs) → LineFits l
unfolding later_lines
later_short s st [] l i = absurd i
later_short s st (f ∷ fs) l i =
    line_then_lem st (operation_in false s f) (later_lines s (store_after st (operation_in false s f)) fs)
    (later_short s (store_after st (operation_in false s f)) fs) l i

unless_short : (st : Store) (o : Option Operation) (rest : List Line) → ((l : Line) → In l rest → LineFits l)
    → (l : Line) → In l (unless_refused st o rest) → LineFits l
unless_short st none rest r l i = absurd i
unless_short st (some c) rest r l i = go (answered st (library_call answer_room c)) i
  where
    go : (a : Answer) → In l (unless a [] rest) → LineFits l
    go (refused n) i = absurd i
    go (done a b w) i = r l i

first_short : (s : List ℕ) (fs : List Field) (l : Line) → In l (first_lines s fs) → LineFits l
unfolding first_lines
first_short s [] l i = absurd i
first_short s (f ∷ fs) l i =
    line_then_lem unopened (operation_in true s f) (unless_refused unopened (operation_in true s f) (later_lines s (store_after unopened (operation_in true s f)) fs))
    (unless_short unopened (operation_in true s f) (later_lines s (store_after unopened (operation_in true s f)) fs)
    (later_short s (store_after unopened (operation_in true s f)) fs)) l i

-- every line of every input fits the buffer of a line
pub lines_fit : (s : List ℕ) (l : Line) → In l (lines_of s) → length (text_of l) ≤ line_room
unfolding lines_of
lines_fit s l i = go (ltb input_limit (length s)) i
  where
    go : (b : Bool) → In l (pick b (log ∷ []) (first_lines s (fields_of s))) → LineFits l
    go true (inl e) = rw e log_fits
    go true (inr i) = absurd i
    go false i = first_short s (fields_of s) l i
