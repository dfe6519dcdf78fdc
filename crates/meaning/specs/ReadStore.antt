-- docs/MANUAL.md, 'The calls' and 'The store': how a caller reads a store back, and how much room is enough for every
-- answer, over every run of calls. Demands.antt says how such a statement is read; with its `exported` these hold of
-- what C and Rust call.
use Rattle.std.specs.Prelude.{ℕ, ◌+◌, ◌≤◌, ◌<◌, ◌≡◌, ◌≢◌, ◌↔◌, List, ◌++◌, length, drop}
use Rattle.std.proofs.Common.{ap, ◌∙◌, arith}
use Rattle.std.proofs.Math.Option.{some}
use Rattle.std.proofs.lemmas.List.Edits.{sets}
use Rattle.laws.specs.Members.{In}
use Rattle.slots.specs.Slots.{listed}
use Rattle.layout.specs.Tables.{Tables}
use Rattle.definitions.specs.ReadBack.{Octets}
use Rattle.definitions.specs.Answers.{Answer, refusal_in, first_in, second_in, written}
use Rattle.library.specs.Readable.{Ascending}
use Rattle.library.specs.Store.{Store, with_key, retrieve, solve}
use Rattle.library.specs.Longest.{listing_most, record_most, solve_roomy, retrieve_roomy, key_roomy}
use Rattle.library.specs.VariableQuestion.{variable_question, term_record, solve_term, stored_instance}
use Rattle.library.specs.VariableQuestion.{instances_answered}
use Rattle.calls.specs.Outcome.{Outcome}
use Rattle.meaning.specs.Told.{front_bytes, term_octets}
use Rattle.meaning.specs.Runs.{Called, Run}
use Rattle.meaning.specs.Demands.{run_stands, run_sound, demand_1, demand_1_number, demand_2}

-- 262,464 BYTES HOLD EVERY RECORD and 1,024 every listing (library/specs/Longest.antt): 15, ROOM, is never given there
module _ (T : Tables) (st : Store) (out₀ : List ℕ) (o : Outcome) (k : Run T st) where
  pub record_room : (s room : ℕ) (q : List ℕ) → Called T out₀ (solve s q room) o → record_most ≤ length out₀
      → o.refused ≢ 15
  record_room s room q d l e =
      solve_roomy st s q room (omega (arith, l, d.room)) ((demand_1_number T st (solve s q room) out₀ o 15 k d (λ z. omega arith)).0 e)

  pub retrieval_room : (relation room : ℕ) (q : List ℕ) → Called T out₀ (retrieve relation q room) o
      → listing_most ≤ length out₀ → o.refused ≢ 15
  retrieval_room relation room q d l e =
      retrieve_roomy st relation q room (omega (arith, l, d.room)) ((demand_1_number T st (retrieve relation q room) out₀ o 15 k d (λ z. omega arith)).0 e)

  pub key_room : (room : ℕ) (key : List ℕ) → Called T out₀ (with_key key room) o → listing_most ≤ length out₀
      → o.refused ≢ 15
  key_room room key d l e =
      key_roomy st key room (omega (arith, l, d.room)) ((demand_1_number T st (with_key key room) out₀ o 15 k d (λ z. omega arith)).0 e)

-- THE SLOTS IN USE: the instances of a question that is one variable, 0x8000 + v
pub record SlotsBack (st : Store) (out₀ : List ℕ) (o : Outcome) : Type 0 where
  -- each once, ascending
  pub slots : List ℕ
  pub ascending : Ascending slots
  pub exactly : (s : ℕ) → In s slots ↔ ((t : List ℕ) × (st.held s ≡ some t))
  -- their number, and their listing in the first bytes of the buffer, no byte beyond
  pub number : o.second ≡ length slots
  pub bytes : o.out ≡ listed slots ++ drop (length (listed slots)) out₀

module _ (T : Tables) (st : Store) (v room : ℕ) (out₀ : List ℕ) (o : Outcome) (k : Run T st) (b : v < 32)
    (d : Called T out₀ (retrieve 2 (variable_question v) room) o) where
  pub slots_answered : listing_most ≤ length out₀ → o.refused ≡ 0
  slots_answered l =
      (demand_1 T st (retrieve 2 (variable_question v) room) out₀ o k d).number
      ∙ ap refusal_in (instances_answered st (run_sound T st k) v b room (omega (arith, l, d.room)))

  pub slots_back : o.refused ≡ 0 → SlotsBack st out₀ o
  slots_back z =
      let w = demand_2 T st 2 room (variable_question v) out₀ o k d z in
      record {
        slots = w.slots;
        ascending = w.ascending;
        exactly = λ s. (
          (λ i. (let x = (w.exactly s).0 i in (x.0, x.1))),
          (λ x. (w.exactly s).1 (x.0, x.1, stored_instance st (run_sound T st k) v b s x.0 x.1)),
        );
        number = w.number;
        bytes = w.bytes;
      }

-- THE TERM OF A SLOT: solve with that question writes it, where t is a list of bytes; and it is one wherever the tables
-- are lists of bytes, as those of C and Rust are
pub record TermBack (v : ℕ) (t out₀ : List ℕ) (o : Outcome) : Type 0 where
  pub taken : o.refused ≡ 0
  pub fields : o.first ≡ 1
  pub length_told : o.second ≡ 5 + length t
  -- 0x10, the length in two bytes, 0x80 and 32 + v, the term's own bytes; no byte beyond is changed
  pub bytes : o.out ≡ term_record v t ++ drop (5 + length t) out₀

pub term_back : (T : Tables) (st : Store) (s v room : ℕ) (t out₀ : List ℕ) (o : Outcome) → Run T st
    → st.held s ≡ some t → Octets t → v < 32 → Called T out₀ (solve s (variable_question v) room) o
    → 5 + length t ≤ length out₀ → TermBack v t out₀ o
term_back T st s v room t out₀ o k e u b d l =
    let m = demand_1 T st (solve s (variable_question v) room) out₀ o k d in
    let i = solve_term st (run_sound T st k) v b s t e u room (omega (arith, l, d.room)) in
    let n : length (term_record v t) ≡ 5 + length t = omega arith in
    record {
      taken = m.number ∙ ap refusal_in i;
      fields = m.first ∙ ap first_in i;
      length_told = m.second ∙ ap second_in i ∙ n;
      bytes = m.bytes ∙ ap (λ (a : Answer). sets out₀ 0 (written a)) i ∙ front_bytes (term_record v t) out₀ (omega (arith, n, l)) ∙ ap (λ (i : ℕ). term_record v t ++ drop i out₀) n;
    }

pub stored_octets : (T : Tables) (st : Store) (s : ℕ) (t : List ℕ) → Run T st → st.held s ≡ some t → Octets T.bytes
    → Octets t
stored_octets T st s t k e u =
    let w = ((run_stands T st k).holds.terms s t e).0 in
    rw (← w) (term_octets T.bytes s u)
