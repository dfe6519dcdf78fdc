-- THE THREE DEMANDS (SCOPE.md, 'What the contracts owe'), in the words of README.md, 'What it promises', over every
-- run of calls: an opening, from any memory, and then any calls with any arguments, refused ones too.
--
-- How to read it. T is the eight lent tables whole and out₀ the answer buffer before a call c; o is what comes out of
-- it: the number of the refusal or 0, up to two numbers more (retrieve: candidates, answers; solve: fields, bytes;
-- the others: the slot or the count), the tables and the buffer afterwards; st is a store. `(x : A) × B` says that
-- there is such an x, `↔` exactly when, `→ ⊥` not. `Called T out₀ c o` is a call of the very functions that the
-- programs call: `o ≡ ..` is the `ensures` of that function (Runs.antt). What C and Rust call has `Tells` as its
-- contract, and is such a call too (`exported` at the end): all that is said here is said of it. `Store`, `answered`
-- and `after` are the library as functions on stores (library/specs/Store.antt), and library/specs/Readable.antt says
-- what they compute in the scope's words; library/specs/Applies.antt is its table of refusals. `refusal sig t ≡ 0`
-- says that t is a term (definitions/specs/Spelt.antt, term_tree and tree_term). What follows an `=` is proof, and
-- need not be read.
--
-- That every call ends and does nothing undefined, on all bytes, numbers and lengths, is what it means that the
-- functions are proved at all: none of the six asks anything of its caller, and the prover takes a function only with
-- its ending, its indices and its arithmetic shown. That every call has an outcome by its contract, and only one, is
-- `every_call` here. The checks of a signature and of a term and the argument of a term, with refusal 10, are calls
-- without tables and have their contracts in terms (sig_refusal, refusal, arg_refusal); the question about one pair is
-- exact both ways by export_terms/specs/Exactly.antt; 16 is the log program's (turns). How a caller reads a store
-- back, and how much room every answer has enough of, is in ReadStore.antt beside this file.
use Rattle.std.specs.Prelude.{ℕ, ◌≤◌, ◌<◌, ◌≡◌, refl, ◌≢◌, ◌↔◌, true, false, List, ◌++◌, length, take, drop}
use Rattle.std.proofs.Common.{sym, ap, ◌∙◌, arith, eq-eqb, ne_eqb}
use mathlib.Core.Logic.Iff
use Rattle.std.proofs.Math.Option.{some, none}
use Rattle.std.proofs.lemmas.List.Edits.{sets}
use Rattle.laws.specs.Members.{In, NoDup}
use Rattle.refusals.specs.declared.Refusal.{Refusal}
use Rattle.refusals.specs.Refusals.{number_of, rank}
use Rattle.refusals.specs.Numbers.{number_some}
use Rattle.definitions.specs.Ranks.{First}
use Rattle.terms.specs.Terms.{arity, sig_refusal, refusal}
use Rattle.keys.specs.Keys.{HasKey}
use Rattle.theory.specs.Relations.{Unifiable}
use Rattle.theory.specs.Flat.{Item}
use Rattle.theory.specs.Subst.{vars, app, Sub}
use Rattle.theory.specs.Unify.{Has, Unbound}
use Rattle.theory.specs.Match.{once}
use Rattle.theory.specs.Canon.{most_mgu}
use Rattle.theory.specs.Items.{items, shift}
use Rattle.laws.specs.Sizes.{slot_count}
use Rattle.layout.specs.Tables.{Tables, ample}
use Rattle.definitions.specs.Trees.{tree_of}
use Rattle.definitions.specs.KeyBytes.{key_of}
use Rattle.definitions.specs.Relations.{Stands}
use Rattle.definitions.specs.Records.{Unifier, IsRecord, Short}
use Rattle.definitions.specs.ReadBack.{Reads, read_fields}
use Rattle.definitions.specs.Answers.{Answer, refused, refusal_in, first_in, second_in, written}
use Rattle.slots.specs.Slots.{members, listed}
use Rattle.library.specs.Formulas.{formula, trees}
use Rattle.library.specs.Sound.{Sound}
use Rattle.library.specs.Applies.{Applies, AppliesNumber}
use Rattle.library.specs.AppliesFirst.{refused_is, refused_first, refused_exactly}
use Rattle.library.specs.Readable.{Ascending, ascending_nodup, use_held, free_smallest, free_unused}
use Rattle.library.specs.Readable.{keyed_are, keyed_ascend, answers_are, answers_ascend}
use Rattle.library.specs.Readable.{candidates_are, candidates_ascend}
use Rattle.library.specs.Readable.{solve_none, solve_long, solve_writes, solve_solved}
use Rattle.library.specs.Store.{Store, Call, open_with, insert, delete, with_key, retrieve, solve}
use Rattle.library.specs.Store.{room_of, answered, empty, after, first_free, keyed, answers, candidates as candidates_in}
use Rattle.calls.specs.Outcome.{Reply, Outcome, outcome, told}
use Rattle.retrieve.specs.Retrieving.{candidates_of}
use Rattle.meaning.specs.Stand.{Stand, Means, stand_ample, stand_sound}
use Rattle.meaning.specs.Confirmed.{candidates_are as walked_are}
use Rattle.meaning.specs.CallsMean.{call_means}
use Rattle.meaning.specs.Carried.{Asks, asks_quiet, quiet, short_exactly, outcome_replied}
use Rattle.meaning.specs.Opening.{open_number, open_run}
use Rattle.meaning.specs.Told.{front_bytes, front_read, unused_none, put_same, put_other, put_signature}
use Rattle.meaning.specs.Told.{retrieve_found, solve_found, key_found, insert_found, delete_found}
use Rattle.meaning.specs.Told.{field_value, field_none, absorbs_all}
use Rattle.meaning.specs.Runs.{carried, Called, Tells, told_number, Run, opened, called}

-- the numbers and the bytes of an answer
pub record Said (a : Answer) (out₀ : List ℕ) (o : Outcome) : Type 0 where
  pub number : o.refused ≡ refusal_in a
  pub first : o.first ≡ first_in a
  pub second : o.second ≡ second_in a
  -- the first bytes of the buffer, and no other byte is changed
  pub bytes : o.out ≡ sets out₀ 0 (written a)

said : (T : Tables) (st : Store) (c : Call) (out₀ : List ℕ) (o : Outcome)
    → Means (carried T c) (answered st c) (after st c) → Called T out₀ c o → Said (answered st c) out₀ o
said T st c out₀ o m d = record {
  number = ap (λ (x : Outcome). x.refused) d.is ∙ ap refusal_in m.answer;
  first = ap (λ (x : Outcome). x.first) d.is ∙ ap first_in m.answer;
  second = ap (λ (x : Outcome). x.second) d.is ∙ ap second_in m.answer;
  bytes = ap (λ (x : Outcome). x.out) d.is ∙ ap (λ (a : Answer). sets out₀ 0 (written a)) m.answer;
}

-- the tables stand for the store that the run leads to
stands_after : (S S' : Tables) (st : Store) → S ≡ S' → Stand S' st → Stand S st
stands_after S S' st e h = rw e h

pub run_stands : (T : Tables) (st : Store) → Run T st → Stand T st
run_stands T st (opened X sig out₀ o c z) = open_run X sig out₀ o c z
run_stands T st (called X st₀ c out₀ o k d) =
    stands_after o.after (carried X c).after (after st₀ c) (ap (λ (x : Outcome). x.after) d.is)
    (call_means X st₀ c (run_stands X st₀ k)).stand

pub run_sound : (T : Tables) (st : Store) → Run T st → Sound st
run_sound T st k = stand_sound T st (run_stands T st k)

-- EVERY CALL HAS AN OUTCOME, and only one: on all tables, whatever they hold, and for every buffer of the length that
-- the call says. So nothing below is said of no outcome.
pub every_call : (T : Tables) (c : Call) (out₀ : List ℕ) → length out₀ ≡ room_of c
    → (o : Outcome) × Called T out₀ c o × ((o' : Outcome) → Called T out₀ c o' → o' ≡ o)
every_call T c out₀ e = (told out₀ (carried T c), record { room = e; is = refl }, λ o' d. d.is)

-- it is one that a function can answer: the reply of a function with the tables and the buffer that it leaves
-- (`outcome`, calls/specs/Outcome.antt), so that its number is 0 or that of a name
pub every_reply : (T : Tables) (c : Call) (out₀ : List ℕ) (o : Outcome) → Called T out₀ c o
    → (r : Reply) × (outcome r o.after o.out ≡ o)
every_reply T c out₀ o d = outcome_replied T c out₀ o d

-- and every run goes on with any call: what comes out leads to one store, `after`
pub every_run : (T : Tables) (st : Store) (c : Call) (out₀ : List ℕ) → Run T st → length out₀ ≡ room_of c
    → (o : Outcome) × Called T out₀ c o × Run o.after (after st c)
every_run T st c out₀ k e = let w = every_call T c out₀ e in (w.0, w.1, called T st c out₀ w.0 k w.1)

-- DEMAND 1. 'Each refusal is given exactly under its stated condition, with its number, and changes no byte of tables
-- or answer buffer': what comes out is the store's answer to the call, and the buffer has the answer's bytes in front
-- and no other byte changed
pub demand_1 : (T : Tables) (st : Store) (c : Call) (out₀ : List ℕ) (o : Outcome) → Run T st → Called T out₀ c o
    → Said (answered st c) out₀ o
demand_1 T st c out₀ o k d = said T st c out₀ o (call_means T st c (run_stands T st k)) d

-- a refused call changes nothing, on all tables
pub demand_1_quiet : (T : Tables) (c : Call) (out₀ : List ℕ) (o : Outcome) → Called T out₀ c o → o.refused ≢ 0
    → (o.after ≡ T) × (o.out ≡ out₀)
demand_1_quiet T c out₀ o d n = quiet T c out₀ o d n

-- the key question, a retrieval and solve change no table, refused or not, on all tables
pub demand_1_asks : (T : Tables) (c : Call) (out₀ : List ℕ) (o : Outcome) → Called T out₀ c o → Asks c → o.after ≡ T
demand_1_asks T c out₀ o d h = asks_quiet T c out₀ o d h

-- refusal 1, on all tables: exactly where one is short (docs/TABLES.md has the lengths), whatever they hold; the
-- tables of a run are never short, so that demand_1 has all its numbers
pub demand_1_table : (T : Tables) (c : Call) (out₀ : List ℕ) (o : Outcome) → Called T out₀ c o
    → (o.refused ≡ 1) ↔ (ample T ≡ false)
demand_1_table T c out₀ o d = short_exactly T c out₀ o d

pub demand_1_run : (T : Tables) (st : Store) → Run T st → ample T ≡ true
demand_1_run T st k = stand_ample T st (run_stands T st k)

-- 'opening keeps its full promise on all memory': it is refused exactly where its signature is, and else a run
-- begins; so a library that refuses everything is none
pub demand_1_open : (T : Tables) (sig out₀ : List ℕ) (o : Outcome) → Called T out₀ (open_with sig) o → ample T ≡ true
    → o.refused ≡ sig_refusal sig
demand_1_open T sig out₀ o d a = open_number T sig out₀ o a d

pub demand_1_begins : (T : Tables) (sig out₀ : List ℕ) (o : Outcome) → Called T out₀ (open_with sig) o
    → ample T ≡ true → sig_refusal sig ≡ 0
    → Run o.after (empty sig)
demand_1_begins T sig out₀ o d a z = opened T sig out₀ o d (open_number T sig out₀ o a d ∙ z)

-- on a run, a number is given exactly where the store's answer is that refusal
pub demand_1_number : (T : Tables) (st : Store) (c : Call) (out₀ : List ℕ) (o : Outcome) (n : ℕ) → Run T st
    → Called T out₀ c o → n ≢ 0
    → (o.refused ≡ n) ↔ (answered st c ≡ refused n)
demand_1_number T st c out₀ o n k d z =
    let m = demand_1 T st c out₀ o k d in
    ((λ e. refused_is (answered st c) n z (sym m.number ∙ e)), (λ e. m.number ∙ ap refusal_in e))

-- on a run, of the refusals that apply, by the table of refusals (library/specs/Applies.antt), the first in rank is
-- given, and 0 where none applies: a number is given exactly when its refusal applies and none before it in rank
-- does. With this 15, ROOM, is given exactly where the buffer is shorter than the answer and nothing before it
-- applies.
pub demand_1_first : (T : Tables) (st : Store) (c : Call) (out₀ : List ℕ) (o : Outcome) → Run T st → Called T out₀ c o
    → First (AppliesNumber st c) o.refused
demand_1_first T st c out₀ o k d = rw (demand_1 T st c out₀ o k d).number (refused_first st (run_sound T st k) c)

pub demand_1_exactly : (T : Tables) (st : Store) (c : Call) (out₀ : List ℕ) (o : Outcome) (why : Refusal) → Run T st
    → Called T out₀ c o
    → (o.refused ≡ number_of why) ↔
    (Applies st c why × ((w : Refusal) → Applies st c w → rank (number_of why) ≤ rank (number_of w)))
demand_1_exactly T st c out₀ o why k d =
    Iff.trans (demand_1_number T st c out₀ o (number_of why) k d (number_some why))
    (refused_exactly st (run_sound T st k) c why)

-- INSERT AND DELETE, where not refused. st is the store before and next the one afterwards, with which the run goes on
pub record Insertion (st next : Store) (t : List ℕ) (o : Outcome) : Type 0 where
  -- the slot told is the smallest one not in use
  pub below : o.first < slot_count
  pub free : st.held o.first ≡ none
  pub smallest : (s : ℕ) → s < o.first → (u : List ℕ) × (st.held s ≡ some u)
  -- afterwards it holds the term's bytes, and all else is as before
  pub holds : next.held o.first ≡ some t
  pub others : (s : ℕ) → s ≢ o.first → next.held s ≡ st.held s
  pub signature : next.signature ≡ st.signature
  pub run : Run o.after next

pub demand_1_insert : (T : Tables) (st : Store) (t out₀ : List ℕ) (o : Outcome) → Run T st → Called T out₀ (insert t) o
    → o.refused ≡ 0 → Insertion st (after st (insert t)) t o
demand_1_insert T st t out₀ o k d z =
    let m = demand_1 T st (insert t) out₀ o k d in
    let w = insert_found st t (sym m.number ∙ z) in
    let e : o.first ≡ first_free st = m.first ∙ ap first_in w.is in
    record {
      below = rw e w.below;
      free = rw e (unused_none st (first_free st) w.below (free_unused st w.below));
      smallest = λ s l. (use_held st (run_sound T st k) s).0 (free_smallest st s (omega (arith, e, l)));
      holds = rw (e, w.next) (put_same st (first_free st) (some t));
      others = λ s n. ap (λ (x : Store). x.held s) w.next
          ∙ put_other st (first_free st) (some t) s (λ f. n (f ∙ sym e));
      signature = ap (λ (x : Store). x.signature) w.next ∙ put_signature st (first_free st) (some t);
      run = called T st (insert t) out₀ o k d;
    }

pub record Deletion (st next : Store) (s : ℕ) (o : Outcome) : Type 0 where
  -- the slot told is the one asked, and it was in use
  pub slot : o.first ≡ s
  pub used : (t : List ℕ) × (st.held s ≡ some t)
  -- afterwards it is free, and all else is as before
  pub free : next.held s ≡ none
  pub others : (u : ℕ) → u ≢ s → next.held u ≡ st.held u
  pub signature : next.signature ≡ st.signature
  pub run : Run o.after next

pub demand_1_delete : (T : Tables) (st : Store) (s : ℕ) (out₀ : List ℕ) (o : Outcome) → Run T st
    → Called T out₀ (delete s) o
    → o.refused ≡ 0 → Deletion st (after st (delete s)) s o
demand_1_delete T st s out₀ o k d z =
    let m = demand_1 T st (delete s) out₀ o k d in
    let w = delete_found st s (sym m.number ∙ z) in
    record {
      slot = m.first ∙ ap first_in w.is;
      used = (use_held st (run_sound T st k) s).0 w.used;
      free = ap (λ (x : Store). x.held s) w.next ∙ put_same st s none;
      others = λ u n. ap (λ (x : Store). x.held u) w.next ∙ put_other st s none u n;
      signature = ap (λ (x : Store). x.signature) w.next ∙ put_signature st s none;
      run = called T st (delete s) out₀ o k d;
    }

-- THE KEY QUESTION, where not refused: 'the slots in use whose term has that key, ascending'
pub record KeyQuestion (st : Store) (k out₀ : List ℕ) (o : Outcome) : Type 0 where
  -- the slots, each once, ascending
  pub slots : List ℕ
  pub ascending : Ascending slots
  pub exactly : (s : ℕ)
      → In s slots ↔ ((t : List ℕ) × (st.held s ≡ some t) × HasKey (tree_of st.signature t) (key_of k))
  -- their number, and their listing in the first bytes of the buffer, no byte beyond
  pub number : o.first ≡ length slots
  pub bytes : o.out ≡ listed slots ++ drop (length (listed slots)) out₀
  -- the store afterwards is the store before
  pub run : Run o.after st

pub demand_1_key : (T : Tables) (st : Store) (room : ℕ) (k out₀ : List ℕ) (o : Outcome) → Run T st
    → Called T out₀ (with_key k room) o
    → o.refused ≡ 0 → KeyQuestion st k out₀ o
demand_1_key T st room k out₀ o r d z =
    let g = run_sound T st r in
    let m = demand_1 T st (with_key k room) out₀ o r d in
    let w = key_found st room k (sym m.number ∙ z) in
    record {
      slots = keyed st k;
      ascending = keyed_ascend st g k;
      exactly = keyed_are st g k;
      number = m.first ∙ ap first_in w.is;
      bytes = m.bytes ∙ ap (λ (a : Answer). sets out₀ 0 (written a)) w.is
          ∙ front_bytes (listed (keyed st k)) out₀ (let l = w.fits in omega (arith, l, d.room));
      run = rw (demand_1_asks T (with_key k room) out₀ o d tt) r;
    }

-- DEMAND 2. 'After any run of opening, inserts and deletes, a retrieval lists exactly the slots whose term stands in
-- the asked relation, each once, ascending. The candidates before confirmation are those of the path formulas of SRI
-- Technical Note 473.'
pub record Retrieval (st : Store) (relation : ℕ) (q out₀ : List ℕ) (o : Outcome) : Type 0 where
  -- the slots, each once, ascending
  pub slots : List ℕ
  pub ascending : Ascending slots
  pub exactly : (s : ℕ) → In s slots ↔ ((t : List ℕ) × (st.held s ≡ some t) × Stands st.signature relation t q)
  -- their number, and their listing in the first bytes of the buffer, no byte beyond
  pub number : o.second ≡ length slots
  pub bytes : o.out ≡ listed slots ++ drop (length (listed slots)) out₀
  -- the slots that the formula of the relation gives, each once: as many as the first number says
  pub candidates : List ℕ
  pub distinct : NoDup candidates
  pub formulas : (s : ℕ)
      → In s candidates ↔ (formula relation (trees st.signature st.held) (tree_of st.signature q) s ≡ true)
  pub count : o.first ≡ length candidates

pub demand_2 : (T : Tables) (st : Store) (relation room : ℕ) (q out₀ : List ℕ) (o : Outcome) → Run T st
    → Called T out₀ (retrieve relation q room) o
    → o.refused ≡ 0 → Retrieval st relation q out₀ o
demand_2 T st relation room q out₀ o k d z =
    let g = run_sound T st k in
    let m = demand_1 T st (retrieve relation q room) out₀ o k d in
    let w = retrieve_found st relation room q (sym m.number ∙ z) in
    record {
      slots = answers st relation q;
      ascending = answers_ascend st g relation q;
      exactly = answers_are st g relation q w.checked;
      number = m.second ∙ ap second_in w.is;
      bytes = m.bytes ∙ ap (λ (a : Answer). sets out₀ 0 (written a)) w.is
          ∙ front_bytes (listed (answers st relation q)) out₀ (let l = w.fits in omega (arith, l, d.room));
      candidates = candidates_in st relation q;
      distinct = ascending_nodup (candidates_in st relation q) (candidates_ascend st g relation q);
      formulas = candidates_are st g relation q w.checked;
      count = m.first ∙ ap first_in w.is;
    }

-- the candidates themselves: the set that the walk through the tables leaves for confirmation is the formula's
pub demand_2_candidates : (T : Tables) (st : Store) (relation : ℕ) (q : List ℕ) → Run T st
    → refusal st.signature q ≡ 0 → (s : ℕ)
    → In s (members (candidates_of T relation q)) ↔
    (formula relation (trees st.signature st.held) (tree_of st.signature q) s ≡ true)
demand_2_candidates T st relation q k c s =
    rw (walked_are T st (run_stands T st k) relation q c) (candidates_are st (run_sound T st k) relation q c s)

-- DEMAND 3. '"No unifier" is answered exactly when there is none, of terms however large. Otherwise the record
-- written is the most general unifier: it makes both terms the same, is idempotent, and every unifier factors through
-- it.' 'However large': no size occurs here. A stored term and a question have 1 to 32 items; values may have any
-- size, and one of over 2,048 items is refusal 14, never 13. What stands in the buffer: n bytes of a record, which
-- read back as fields are the unifier (`Reads`: the three properties, the variables ascending, each occurring in one
-- of the terms, none with itself as value), and nothing beyond them is changed
pub record Solution (sig t q out₀ : List ℕ) (o : Outcome) : Type 0 where
  pub record_bytes_lem : List ℕ
  pub bytes : o.out ≡ record_bytes_lem ++ drop (length record_bytes_lem) out₀
  pub length_told : o.second ≡ length record_bytes_lem
  pub is : IsRecord sig t q record_bytes_lem
  pub reads : Reads sig t q (read_fields record_bytes_lem)
  pub fields : o.first ≡ length (read_fields record_bytes_lem)
  -- no value has over 2,048 items
  pub short : Short is.by

-- the bytes that were written: the first of the buffer, as many as the second number says
abbrev pub record_in : Outcome → List ℕ
record_in o = take o.second o.out

-- THE SUBSTITUTION THAT BYTES STAND FOR, read back as the fields of a record: a variable that a field lists has that
-- field's value, every other variable itself (`read_fields`, definitions/specs/ReadBack.antt; `once`,
-- theory/specs/Match.antt)
abbrev pub substitution : List ℕ → ℕ → List Item
substitution w = once (read_fields w)

-- θ is a unifier of the stored term t and the question q, their variables apart: each value is a term, and θ makes both
-- the same (`app θ l`: each variable of l replaced by its value under θ)
abbrev pub Unifying : List ℕ → List ℕ → List ℕ → (ℕ → List Item) → Type 0
Unifying sig t q θ = Sub (arity sig) θ × (app θ (items t) ≡ app θ (shift 32 (items q)))

-- σ is the most general one, in a user's words
pub record MostGeneral (sig t q : List ℕ) (σ : ℕ → List Item) : Type 0 where
  pub unifies : Unifying sig t q σ
  -- applied twice it gives what it gives once
  pub idempotent : (l : List Item) → app σ (app σ l) ≡ app σ l
  -- every unifier, applied after σ, gives just what it gives by itself: of each variable, and so of every term
  pub variables : (θ : ℕ → List Item) → Unifying sig t q θ → (y : ℕ) → app θ (σ y) ≡ θ y
  pub terms : (θ : ℕ → List Item) → Unifying sig t q θ → (l : List Item) → app θ (app σ l) ≡ app θ l

most_general : (sig t q w : List ℕ) → Reads sig t q (read_fields w) → MostGeneral sig t q (substitution w)
most_general sig t q w h =
    let m = most_mgu (arity sig) (items t) (shift 32 (items q)) (substitution w) h.most in
    record {
      unifies = (m.sub, m.unifies);
      idempotent = absorbs_all (substitution w) (substitution w) h.most.idempotent;
      variables = λ θ u. m.general θ u.0 u.1;
      terms = λ θ u. absorbs_all θ (substitution w) (m.general θ u.0 u.1);
    }

-- solve, for a slot that holds t and a question that is a term
module _ (T : Tables) (st : Store) (s room : ℕ) (t q out₀ : List ℕ) (o : Outcome) (k : Run T st)
    (e : st.held s ≡ some t) (c : refusal st.signature q ≡ 0) (d : Called T out₀ (solve s q room) o) where
  pub demand_3_none : (o.refused ≡ 13) ↔ (Unifiable st.signature t q → ⊥)
  demand_3_none = Iff.trans (demand_1_number T st (solve s q room) out₀ o 13 k d (λ z. omega arith))
      (solve_none st (run_sound T st k) s t e q c room)

  pub demand_3 : o.refused ≡ 0 → Solution st.signature t q out₀ o
  demand_3 z =
      let m = demand_1 T st (solve s q room) out₀ o k d in
      let w = solve_found st (run_sound T st k) s room t q e c (sym m.number ∙ z) in
      let v = solve_solved st (run_sound T st k) s t e q c room w.fields w.bytes w.is in
      record {
        record_bytes_lem = w.bytes;
        bytes = m.bytes ∙ ap (λ (a : Answer). sets out₀ 0 (written a)) w.is
            ∙ front_bytes w.bytes out₀ (let l = v.fits in omega (arith, l, d.room));
        length_told = m.second ∙ ap second_in w.is;
        is = v.is;
        reads = v.reads;
        fields = m.first ∙ ap first_in w.is ∙ v.count;
        short = v.short;
      }

  -- the same in a user's words, of the bytes that were written
  record_read : o.refused ≡ 0 → Reads st.signature t q (read_fields (record_in o))
  record_read z =
      let v = demand_3 z in
      rw (front_read v.record_bytes_lem (drop (length v.record_bytes_lem) out₀) o.out o.second
      v.length_told v.bytes) v.reads

  pub demand_3_read : o.refused ≡ 0 → MostGeneral st.signature t q (substitution (record_in o))
  demand_3_read z = most_general st.signature t q (record_in o) (record_read z)

  -- and each field tells its variable's value, all other variables stay
  pub demand_3_field : o.refused ≡ 0 → (y : ℕ) (v : List Item) → Has y v (read_fields (record_in o))
      → substitution (record_in o) y ≡ v
  demand_3_field z = field_value (read_fields (record_in o)) (record_read z).ascends

  pub demand_3_other : (y : ℕ) → Unbound y (read_fields (record_in o)) → substitution (record_in o) y ≡ vars y
  demand_3_other = field_none (read_fields (record_in o))

  -- and it is written unless a value is too long or the buffer too short: 14 exactly where some value has over 2,048
  -- items
  pub demand_3_long : (o.refused ≡ 14) ↔
      ((θ : ℕ → List Item) × Unifier st.signature (items t) (shift 32 (items q)) θ × (Short θ → ⊥))
  demand_3_long = Iff.trans (demand_1_number T st (solve s q room) out₀ o 14 k d (λ z. omega arith))
      (solve_long st (run_sound T st k) s t e q c room)

  -- a record that is short and fits is written
  pub demand_3_written : (w : List ℕ) (i : IsRecord st.signature t q w) → Short i.by → length w ≤ length out₀
      → o.refused ≡ 0
  demand_3_written w i h l =
      (demand_1 T st (solve s q room) out₀ o k d).number
      ∙ ap refusal_in (solve_writes st (run_sound T st k) s t e q c room w i h (omega (arith, l, d.room)))

-- FROM C AND RUST. What `Tells` says of an exported function is a call: o has the number that is answered and the
-- tables and the buffer after, and its two numbers are those that the function tells. So every demand above is a
-- demand on the exported functions.
module _ (T S : Tables) (c : Call) (out₀ out : List ℕ) (r : ℕ) (h : Tells T out₀ c S out r) where
  abbrev pub exported_outcome : Outcome
  exported_outcome = record {
    refused = r;
    first = first_in (carried T c).answer;
    second = second_in (carried T c).answer;
    after = S;
    out =
        out;
  }

  pub exported : Called T out₀ c exported_outcome
  exported = record { room = h.room; is = rw (h.number, h.tables, h.bytes) }

  -- and what stands behind `&mut` is told exactly where nothing is refused
  pub exported_told : (is was : ℕ) → r ≡ 0 → told_number r is was ≡ is
  unfolding told_number
  exported_told is was z = rw (eq-eqb r 0 z)

  pub exported_kept : (is was : ℕ) → r ≢ 0 → told_number r is was ≡ was
  unfolding told_number
  exported_kept is was n = rw (ne_eqb r 0 n)
