-- SCOPE.md, 'The log program': one turn of the program on lent tables, whatever they hold, in the words of
-- Printed.antt and of tasks/specs/Ordered: that the call of the field at a place is made, its line, and where the next
-- field starts.
use Rattle.std.specs.Prelude.{ℕ, ◌*◌, ◌/◌, min, ◌≡◌, Bool, true, false, List, eqb, length, take}
use Rattle.std.proofs.Math.Option.{Option, some, none}
use Rattle.laws.specs.Choice.{pick}
use Rattle.refusals.specs.declared.Refusal.TheVariants as Refusal
use Rattle.definitions.specs.Answers.{refuse}
use Rattle.layout.specs.Tables.{Tables}
use Rattle.calls.specs.Outcome.{Outcome, Result, result, told}
use Rattle.meaning.specs.Runs.{carried}
use Rattle.lines.specs.Lines.{Put, refused_line}
use Rattle.tasks.specs.Operations.{Operation, to_open, to_insert, to_delete, to_retrieve, to_solve}
use Rattle.tasks.specs.Ordered.{operation_at, place_past}
use Rattle.answerlines.specs.Words.{word_of, log_word}
use Rattle.turns.specs.Printed.{library_call, done_text}

-- THE TURN. What is made of the operation on the lent tables; none is the refusal LOG
abbrev pub result_of : ℕ → Tables → Option Operation → Result
result_of room T none = result (refuse Refusal.Log) T T
result_of room T (some c) = carried T (library_call room c)

-- the bytes of the answer buffer that are told of: two a slot of a listing, or a record
abbrev pub told_bytes : Operation → ℕ → List ℕ → List ℕ
told_bytes (to_open sig) b out = take 0 out
told_bytes (to_insert t) b out = take 0 out
told_bytes (to_delete s) b out = take 0 out
told_bytes (to_retrieve r q) b out = take (min b (length out / 2) * 2) out
told_bytes (to_solve s q) b out = take (min b (length out)) out

-- the line of what came out of it
abbrev pub line_of : Option Operation → Outcome → List ℕ
line_of none o = refused_line log_word o.refused
line_of (some c) o =
    pick (eqb o.refused 0) (done_text c o.first o.second (told_bytes c o.second o.out))
    (refused_line (word_of c) o.refused)

-- what is no operation stops the program, and so does a refused signature
abbrev pub stops_after : Option Operation → ℕ → Bool
stops_after none n = true
stops_after (some (to_open sig)) n = pick (eqb n 0) false true
stops_after (some (to_insert t)) n = false
stops_after (some (to_delete s)) n = false
stops_after (some (to_retrieve r q)) n = false
stops_after (some (to_solve s q)) n = false

-- what comes out of the turn at a place of the input s: T the tables and out₀ the answer buffer before
abbrev pub made_at : List ℕ → ℕ → Tables → List ℕ → Outcome
made_at s at T out₀ = told out₀ (result_of (length out₀) T (operation_at s at))

abbrev pub line_at : List ℕ → ℕ → Tables → List ℕ → List ℕ
line_at s at T out₀ = line_of (operation_at s at) (made_at s at T out₀)

-- where the program goes on: at the input's end where it stops
abbrev pub next_at : List ℕ → ℕ → Tables → List ℕ → ℕ
next_at s at T out₀ =
    pick (stops_after (operation_at s at) (made_at s at T out₀).refused) (length s) (place_past s at)

-- ONE TURN: S, out and line are the tables, the answer buffer and the line buffer afterwards
pub record Turned (s : List ℕ) (at : ℕ) (T : Tables) (out₀ line₀ : List ℕ) (S : Tables) (out line : List ℕ)
    (written next : ℕ) : Type 0 where
  -- the call is made
  pub tables : S ≡ (made_at s at T out₀).after
  pub buffer : out ≡ (made_at s at T out₀).out
  -- its line stands at the start of the line buffer, as far as there is room
  pub text : Put line₀ line 0 (line_at s at T out₀) written
  pub place : next ≡ next_at s at T out₀
