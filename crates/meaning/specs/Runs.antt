-- SCOPE.md, 'Store': calls on lent tables, and runs of them. What a call means is what its contract says: `carried`
-- has one line for each call's function (crates opening, inserting, deleting, keyquestion, retrieve and solving), whose
-- contract is `outcome .. ≡ told .. (that line)`.
use Rattle.std.specs.Prelude.{ℕ, ◌≡◌, List, eqb, length}
use Rattle.std.proofs.lemmas.List.Edits.{sets}
use Rattle.laws.specs.Choice.{pick}
use Rattle.layout.specs.Tables.{Tables}
use Rattle.definitions.specs.Answers.{refusal_in, first_in, second_in, written}
use Rattle.library.specs.Store.{Store, Call, open_with, insert, delete, with_key, retrieve, solve, room_of, empty, after}
use Rattle.calls.specs.Outcome.{Outcome, Result, told}
use Rattle.store.specs.Calls.{opening, inserting, deleting, key_question}
use Rattle.retrieve.specs.Retrieving.{retrieving}
use Rattle.solving.specs.Solving.{solving}

-- what each call means on the lent tables
abbrev pub carried : Tables → Call → Result
carried T (open_with sig) = opening T sig
carried T (insert t) = inserting T t
carried T (delete s) = deleting T s
carried T (with_key k room) = key_question T k room
carried T (retrieve r q room) = retrieving T r q room
carried T (solve s q room) = solving T s q room

-- A CALL: T the tables and out₀ the answer buffer before, as long as the call says (a call without a buffer has an
-- empty one); o is what comes out: the number of the refusal or 0, up to two numbers, the tables and the buffer after
pub record Called (T : Tables) (out₀ : List ℕ) (c : Call) (o : Outcome) : Type 0 where
  pub room : length out₀ ≡ room_of c
  pub is : o ≡ told out₀ (carried T c)

-- A CALL FROM C OR RUST: r is the number that is answered; S and out are the tables and the buffer after
pub record Tells (T : Tables) (out₀ : List ℕ) (c : Call) (S : Tables) (out : List ℕ) (r : ℕ) : Type 0 where
  pub room : length out₀ ≡ room_of c
  pub number : r ≡ refusal_in (carried T c).answer
  pub tables : S ≡ (carried T c).after
  pub bytes : out ≡ sets out₀ 0 (written (carried T c).answer)

-- what stands behind a `&mut` number: what is told where r is 0, and what was there where r is a refusal
unfoldable pub told_number : ℕ → ℕ → ℕ → ℕ
told_number r is was = pick (eqb r 0) is was

-- of a function that tells the first number, or both: what was there before, and what is there after
abbrev pub TellsFirst : Tables → List ℕ → Call → Tables → List ℕ → ℕ → ℕ → ℕ → Type 0
TellsFirst T out₀ c S out r was is = Tells T out₀ c S out r × (is ≡ told_number r (first_in (carried T c).answer) was)

abbrev pub TellsBoth : Tables → List ℕ → Call → Tables → List ℕ → ℕ → ℕ → ℕ → ℕ → ℕ → Type 0
TellsBoth T out₀ c S out r was is was' is' =
    Tells T out₀ c S out r × (is ≡ told_number r (first_in (carried T c).answer) was)
    × (is' ≡ told_number r (second_in (carried T c).answer) was')

-- A RUN: an opening that is not refused, from any memory, and then any calls, refused ones too
pub data Run : Tables → Store → Type 0 where
  opened : (T : Tables) (sig out₀ : List ℕ) (o : Outcome) → Called T out₀ (open_with sig) o → o.refused ≡ 0
      → Run o.after (empty sig)
  called : (T : Tables) (st : Store) (c : Call) (out₀ : List ℕ) (o : Outcome) → Run T st → Called T out₀ c o
      → Run o.after (after st c)
